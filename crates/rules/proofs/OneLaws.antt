-- The table of a rule has its parts, each once.
use Rattle.std.proofs.Common.{◌≡◌, ℕ, zero, suc, ◌<◌, ◌≤◌, ltb, ◌⊎◌, ◌↔◌, List, [], ◌∷◌, ◌++◌, length, sym, refl, ap, ◌∙◌, ap₂, inl, inr, ⊎_elim, arith, length-append}
use lib.Seq.{get_or-append_seam}
use Rattle.std.proofs.lemmas.Bool.{cases_Bool, cases_lt, cond-true, cond-false, lt-ltb, le-ltb}
use Rattle.rules.specs.declared.part.Part.{Part}
use Rattle.rules.specs.declared.part.Part.TheVariants.{True, False, Literal, Next, Release, Both, Either}
use Rattle.rules.specs.Rule.{Rule, always, never, literal, next, release, both, either}
use Rattle.rules.specs.Parts.{part, Falls, rule_from, rule_in, rule_of}
use Rattle.rules.specs.Table.{same_part, place, Entry, enter, parts_on, parts_of, PartOf}
use Rattle.rules.proofs.TableLaws.{Falling, place_most, part_front, rule_front, Good, enter_good, parts_good, inside_later}
use Rattle.rules.specs.Same.{same_self}

-- each part stands at its place
abbrev Single : List Part → Type 0
Single ps = (k : ℕ) → k < length ps → place ps (part ps k) ≡ k

place_front : (ps rest : List Part) (y : Part) → place ps y < length ps → place (ps ++ rest) y ≡ place ps y
unfolding place
place_front [] rest y l = absurd (omega arith)
place_front (x ∷ ps) rest y l = elim (cases_Bool (same_part x y)) [
  | inl e ↦ cond-true (same_part x y) 0 (suc (place (ps ++ rest) y)) e ∙ sym (cond-true (same_part x y) 0 (suc (place ps y)) e)
  | inr e ↦ (
      let is = cond-false (same_part x y) 0 (suc (place ps y)) e in
      cond-false (same_part x y) 0 (suc (place (ps ++ rest) y)) e ∙ ap suc (place_front ps rest y (omega arith)) ∙ sym is)
]

place_end : (ps : List Part) (x : Part) → length ps ≤ place ps x → place (ps ++ (x ∷ [])) x ≡ length ps
unfolding place
place_end [] x l = cond-true (same_part x x) 0 1 (same_self x)
place_end (y ∷ ps) x l = elim (cases_Bool (same_part y x)) [
  | inl e ↦ absurd (omega (arith, cond-true (same_part y x) 0 (suc (place ps x)) e))
  | inr e ↦ (
      let is = cond-false (same_part y x) 0 (suc (place ps x)) e in
      cond-false (same_part y x) 0 (suc (place (ps ++ (x ∷ [])) x)) e ∙ ap suc (place_end ps x (omega arith)))
]

single_more : (ps : List Part) (x : Part) → Single ps → length ps ≤ place ps x → Single (ps ++ (x ∷ []))
single_more ps x one l k m = elim (cases_lt k (length ps)) [
  | inl s ↦ (
      let here : place ps (part ps k) < length ps = omega (arith, one k s) in
      ap (place (ps ++ (x ∷ []))) (part_front ps (x ∷ []) k s) ∙ place_front ps (x ∷ []) (part ps k) here ∙ one k s)
  | inr s ↦ (
      let e : k ≡ length ps = omega (arith, length-append ps (x ∷ [])) in
      ap (λ j. place (ps ++ (x ∷ [])) (part (ps ++ (x ∷ [])) j)) e ∙ ap (place (ps ++ (x ∷ []))) (get_or-append_seam ps x [] True) ∙ place_end ps x l ∙ sym e)
]

enter_single : (ps : List Part) (x : Part) → Single ps → Single (enter ps x).table
unfolding enter
enter_single ps x one = elim (cases_lt (place ps x) (length ps)) [
  | inl s ↦ rw (lt-ltb (place ps x) (length ps) s) one
  | inr s ↦ rw (le-ltb (place ps x) (length ps) s) (single_more ps x one s)
]

parts_single : (ps : List Part) (f : Rule) → Single ps → Single (parts_on ps f).table
unfolding parts_on
parts_single ps always one = enter_single ps True one
parts_single ps never one = enter_single ps False one
parts_single ps (literal s want) one = enter_single ps (Literal s want) one
parts_single ps (next f) one = enter_single (parts_on ps f).table (Next (parts_on ps f).number) (parts_single ps f one)
parts_single ps (release a b) one =
    let e = parts_on ps a in let g = parts_on e.table b in enter_single g.table (Release e.number g.number) (parts_single e.table b (parts_single ps a one))
parts_single ps (both a b) one =
    let e = parts_on ps a in let g = parts_on e.table b in enter_single g.table (Both e.number g.number) (parts_single e.table b (parts_single ps a one))
parts_single ps (either a b) one =
    let e = parts_on ps a in let g = parts_on e.table b in enter_single g.table (Either e.number g.number) (parts_single e.table b (parts_single ps a one))

-- a rule that the table has already is found there
abbrev entry : List Part → ℕ → Entry
entry ps k = record { table = ps; number = k }

again_two : (ps : List Part) (f g : Rule) (a b : ℕ) (x : ℕ → ℕ → Part) → parts_on ps f ≡ entry ps a → parts_on ps g ≡ entry ps b
    → enter (parts_on (parts_on ps f).table g).table (x (parts_on ps f).number (parts_on (parts_on ps f).table g).number) ≡ enter ps (x a b)
again_two ps f g a b x p q =
    let t : parts_on (parts_on ps f).table g ≡ entry ps b = ap (λ e. parts_on e.table g) p ∙ q in
    ap₂ (λ (e h : Entry). enter h.table (x e.number h.number)) p t

again_step : (ps : List Part) (r : ℕ → Rule) (k : ℕ) (x : Part) → Falls k x → ((a : ℕ) → a < k → parts_on ps (r a) ≡ entry ps a) → parts_on ps (rule_from r x) ≡ enter ps x
unfolding parts_on
again_step ps r k (Next a) l h = ap (λ e. enter e.table (Next e.number)) (h a l)
again_step ps r k (Release a b) l h = again_two ps (r a) (r b) a b Release (h a l.0) (h b l.1)
again_step ps r k (Both a b) l h = again_two ps (r a) (r b) a b Both (h a l.0) (h b l.1)
again_step ps r k (Either a b) l h = again_two ps (r a) (r b) a b Either (h a l.0) (h b l.1)
again_step ps r k x l h = refl

enter_old : (ps : List Part) (k : ℕ) → Single ps → k < length ps → enter ps (part ps k) ≡ entry ps k
unfolding enter
enter_old ps k one l = rw (one k l, lt-ltb k (length ps) l)

again : (ps : List Part) → Falling ps → Single ps → (n k : ℕ) → k < n → k < length ps → parts_on ps (rule_in n ps k) ≡ entry ps k
unfolding rule_in
again ps falls one zero k l m = absurd (omega arith)
again ps falls one (suc n) k l m = again_step ps (rule_in n ps) k (part ps k) (falls k) (λ a s. again ps falls one n a (omega arith) (omega arith)) ∙ enter_old ps k one m

pub one_part : (f : Rule) (i j : ℕ) → i < length (parts_of f).table → j < length (parts_of f).table → rule_of (parts_of f).table i ≡ rule_of (parts_of f).table j → i ≡ j
one_part f i j l m e =
    let ps = (parts_of f).table in
    let g = parts_good [] f (λ k. tt) in
    let one = parts_single [] f (λ k s. absurd (omega arith)) in
    let p = again ps g.falls one (suc i) i (omega arith) l in
    let q = again ps g.falls one (suc j) j (omega arith) m in
    ap (λ h. h.number) (sym p ∙ ap (parts_on ps) e ∙ q)

-- the rules of a table
abbrev Has : List Part → Rule → Type 0
Has ps g = (k : ℕ) × (k < length ps) × (rule_of ps k ≡ g)

-- what was there stays
has_grows : (ps : List Part) (f g : Rule) (e : Entry) → Falling ps → Good ps f e → Has ps g → Has e.table g
has_grows ps f g e falls a h = (
  h.0,
  omega (arith, h.1, ap length a.grown, length-append ps a.rest),
  ap (λ t. rule_of t h.0) a.grown ∙ rule_front ps a.rest falls (suc h.0) h.0 h.1 ∙ h.2,
)

-- and one more is there
has_here : (ps : List Part) (f g : Rule) (e : Entry) → Good ps f e → g ≡ f → Has e.table g
has_here ps f g e a h = (e.number, a.inside, a.stands ∙ sym h)

-- nothing else is
table_of : (ps : List Part) (x : Part) → ((enter ps x).table ≡ ps) ⊎ (((enter ps x).table ≡ ps ++ (x ∷ [])) × ((enter ps x).number ≡ length ps))
unfolding enter
table_of ps x = elim (cases_lt (place ps x) (length ps)) [
  | inl s ↦ inl (cond-true (ltb (place ps x) (length ps)) ps (ps ++ (x ∷ [])) (lt-ltb (place ps x) (length ps) s))
  | inr s ↦ inr (cond-false (ltb (place ps x) (length ps)) ps (ps ++ (x ∷ [])) (le-ltb (place ps x) (length ps) s), omega (arith, place_most ps x))
]

enter_only : (ps : List Part) (x : Part) (f g : Rule) → Falling ps → Good ps f (enter ps x) → Has (enter ps x).table g → Has ps g ⊎ (g ≡ f)
enter_only ps x f g falls a h = elim (table_of ps x) [
  | inl e ↦ inl (h.0, omega (arith, h.1, ap length e), ap (λ t. rule_of t h.0) (sym e) ∙ h.2)
  | inr e ↦ elim (cases_lt h.0 (length ps)) [
    | inl s ↦ inl (h.0, s, sym (ap (λ t. rule_of t h.0) e.0 ∙ rule_front ps (x ∷ []) falls (suc h.0) h.0 s) ∙ h.2)
    | inr s ↦ (
        let at : h.0 ≡ (enter ps x).number = omega (arith, h.1, e.1, ap length e.0, length-append ps (x ∷ [])) in
        inr (sym h.2 ∙ ap (rule_of (enter ps x).table) at ∙ a.stands))
  ]
]

leaf_has : (ps : List Part) (x : Part) (f g : Rule) → Falling ps → Good ps f (enter ps x) → Has (enter ps x).table g ↔ (Has ps g ⊎ (g ≡ f))
leaf_has ps x f g falls a = (enter_only ps x f g falls a, ⊎_elim (has_grows ps f g (enter ps x) falls a) (has_here ps f g (enter ps x) a))

-- an entry into the table of its sides
top_has : (ps qs : List Part) (x : Part) (f g : Rule) (A : Type 0) → Falling qs → Falls (length qs) x → Good ps f (enter qs x) → Has qs g ↔ (Has ps g ⊎ A)
    → Has (enter qs x).table g ↔ (Has ps g ⊎ ((g ≡ f) ⊎ A))
top_has ps qs x f g A falls l a h =
    let b = enter_good qs x falls l in
    let is : rule_from (rule_of qs) x ≡ f = sym b.stands ∙ a.stands in (
      λ k. ⊎_elim (λ m. ⊎_elim inl (λ c. inr (inr c)) (h.0 m)) (λ m. inr (inl (m ∙ is))) (enter_only qs x (rule_from (rule_of qs) x) g falls b k),
      ⊎_elim (λ m. has_grows qs _ g (enter qs x) falls b (h.1 (inl m))) (⊎_elim (λ e. has_here ps f g (enter qs x) a e) (λ c. has_grows qs _ g (enter qs x) falls b (h.1 (inr c)))),
    )

two_has : (ps qs rs : List Part) (g : Rule) (A B : Type 0) → Has qs g ↔ (Has ps g ⊎ A) → Has rs g ↔ (Has qs g ⊎ B) → Has rs g ↔ (Has ps g ⊎ (A ⊎ B))
two_has ps qs rs g A B h k = (
  λ m. ⊎_elim (λ n. ⊎_elim inl (λ c. inr (inl c)) (h.0 n)) (λ c. inr (inr c)) (k.0 m),
  ⊎_elim (λ m. k.1 (inl (h.1 (inl m)))) (⊎_elim (λ c. k.1 (inl (h.1 (inr c)))) (λ c. k.1 (inr c))),
)

parts_has : (ps : List Part) (f g : Rule) → Falling ps → Has (parts_on ps f).table g ↔ (Has ps g ⊎ PartOf g f)
unfolding parts_on PartOf
parts_has ps always g falls = leaf_has ps True always g falls (parts_good ps always falls)
parts_has ps never g falls = leaf_has ps False never g falls (parts_good ps never falls)
parts_has ps (literal s want) g falls = leaf_has ps (Literal s want) (literal s want) g falls (parts_good ps (literal s want) falls)
parts_has ps (next f) g falls =
    let e = parts_on ps f in
    let a = parts_good ps f falls in
    top_has ps e.table (Next e.number) (next f) g (PartOf g f) a.falls a.inside (parts_good ps (next f) falls) (parts_has ps f g falls)
parts_has ps (release f h) g falls =
    let e = parts_on ps f in
    let a = parts_good ps f falls in
    let k = parts_on e.table h in
    let b = parts_good e.table h a.falls in
    top_has ps k.table (Release e.number k.number) (release f h) g (PartOf g f ⊎ PartOf g h) b.falls (inside_later ps h e k a.inside b, b.inside) (parts_good ps (release f h) falls)
    (two_has ps e.table k.table g (PartOf g f) (PartOf g h) (parts_has ps f g falls) (parts_has e.table h g a.falls))
parts_has ps (both f h) g falls =
    let e = parts_on ps f in
    let a = parts_good ps f falls in
    let k = parts_on e.table h in
    let b = parts_good e.table h a.falls in
    top_has ps k.table (Both e.number k.number) (both f h) g (PartOf g f ⊎ PartOf g h) b.falls (inside_later ps h e k a.inside b, b.inside) (parts_good ps (both f h) falls)
    (two_has ps e.table k.table g (PartOf g f) (PartOf g h) (parts_has ps f g falls) (parts_has e.table h g a.falls))
parts_has ps (either f h) g falls =
    let e = parts_on ps f in
    let a = parts_good ps f falls in
    let k = parts_on e.table h in
    let b = parts_good e.table h a.falls in
    top_has ps k.table (Either e.number k.number) (either f h) g (PartOf g f ⊎ PartOf g h) b.falls (inside_later ps h e k a.inside b, b.inside) (parts_good ps (either f h) falls)
    (two_has ps e.table k.table g (PartOf g f) (PartOf g h) (parts_has ps f g falls) (parts_has e.table h g a.falls))

pub all_parts : (f g : Rule) → PartOf g f ↔ ((k : ℕ) × (k < length (parts_of f).table) × (rule_of (parts_of f).table k ≡ g))
all_parts f g =
    let h = parts_has [] f g (λ k. tt) in
    (λ p. h.1 (inr p), λ k. ⊎_elim (λ n. absurd (omega (arith, n.1))) (λ p. p) (h.0 k))
