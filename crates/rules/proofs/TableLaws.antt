-- The table of a rule stands for the rule.
use Rattle.std.specs.Prelude.{◌≡◌, ℕ, zero, suc, ◌<◌, ◌≤◌, Bool, true, false, cond, ◌↔◌, List, [], ◌∷◌, ◌++◌, length, refl}
use Rattle.std.proofs.Common.{sym, ap, ap₂, subst, ◌∙◌, append_assoc, append-nil, inl, inr, arith, length-append}
use Rattle.std.proofs.Math.ListN.{get_or-append, get_or-eq_default}
use Rattle.std.proofs.Math.Seq.{get_or-append_seam}
use Rattle.std.proofs.lemmas.Bool.{cases_lt, cases_order, cond_both, lt-ltb, le-ltb}
use Rattle.arena.specs.Tally.{Played}
use Rattle.rules.specs.declared.part.Part.{Part}
use Rattle.rules.specs.declared.part.Part.TheVariants.{True, False, Literal, Next, Release, Both, Either}
use Rattle.rules.specs.Rule.{Rule, always, never, literal, next, release, both, either, Fails}
use Rattle.rules.specs.Sets.{sets}
use Rattle.rules.specs.Parts.{part, Falls, duty_number, rule_from, rule_in, rule_of}
use Rattle.rules.specs.Same.{same_true}
use Rattle.rules.specs.Table.{same_part, place, Entry, enter, parts_on, parts_of}
use Rattle.rules.specs.Progress.{list_of, list_after_all}
use Rattle.rules.proofs.PartLaws.{rule_same, rule_stays}
use Rattle.rules.proofs.ProgressLaws.{lost_right}

abbrev pub Falling : List Part → Type 0
Falling ps = (k : ℕ) → Falls k (part ps k)

pub place_most : (ps : List Part) (x : Part) → place ps x ≤ length ps
unfolding place
place_most [] x = omega arith
place_most (y ∷ ys) x = cond_both (same_part y x) 0 (suc (place ys x)) (λ n. n ≤ suc (length ys)) (λ e. omega arith) (λ e. omega (arith, place_most ys x))

place_step : (y x : Part) (ys : List Part) (n : ℕ) → (n < length ys → part ys n ≡ x) → (b : Bool) → same_part y x ≡ b
    → cond b 0 (suc n) < suc (length ys) → part (y ∷ ys) (cond b 0 (suc n)) ≡ x
place_step y x ys n h true e m = same_true y x e
place_step y x ys n h false e m = h (omega arith)

pub place_is : (ps : List Part) (x : Part) → place ps x < length ps → part ps (place ps x) ≡ x
unfolding place
place_is [] x l = absurd (omega arith)
place_is (y ∷ ys) x l = place_step y x ys (place ys x) (place_is ys x) (same_part y x) refl l

-- what stands behind changes no earlier part, nor its rule
pub part_front : (ps rest : List Part) (k : ℕ) → k < length ps → part (ps ++ rest) k ≡ part ps k
part_front ps rest k l = get_or-append ps rest True k l

pub rule_front : (ps rest : List Part) → Falling ps → (n k : ℕ) → k < length ps → rule_in n (ps ++ rest) k ≡ rule_in n ps k
unfolding rule_in
rule_front ps rest falls zero k l = refl
rule_front ps rest falls (suc n) k l =
    ap (rule_from (rule_in n (ps ++ rest))) (part_front ps rest k l)
    ∙ rule_same (rule_in n (ps ++ rest)) (rule_in n ps) k (part ps k) (falls k) (λ a s. rule_front ps rest falls n a (omega arith))

falls_more : (ps : List Part) (x : Part) → Falling ps → Falls (length ps) x → Falling (ps ++ (x ∷ []))
falls_more ps x falls l k = elim (cases_order k (length ps)) [
  | inl e ↦ subst (λ j. Falls j (part (ps ++ (x ∷ [])) j)) (sym e) (subst (Falls (length ps)) (sym (get_or-append_seam ps x [] True)) l)
  | inr m ↦ elim m [
    | inl s ↦ subst (Falls k) (sym (part_front ps (x ∷ []) k s)) (falls k)
    | inr s ↦ (
        let far : length (ps ++ (x ∷ [])) ≤ k = simp length-append (omega arith) in
        subst (Falls k) (sym (get_or-eq_default (ps ++ (x ∷ [])) True far)) tt)
  ]
]

-- an entry of x behind ps
pub record Good (ps : List Part) (f : Rule) (e : Entry) : Type 0 where
  pub rest : List Part
  pub grown : e.table ≡ ps ++ rest
  pub falls : Falling e.table
  pub inside : e.number < length e.table
  pub stands : rule_of e.table e.number ≡ f

-- steps enough for the sides
sides : (ps : List Part) → Falling ps → (n k : ℕ) (x : Part) → Falls k x → k ≤ n → rule_from (rule_in n ps) x ≡ rule_from (rule_of ps) x
sides ps falls n k x l m = rule_same (rule_in n ps) (rule_of ps) k x l (λ a s. rule_stays ps falls n (suc a) a (omega arith) (omega arith))

old_good : (ps : List Part) (x : Part) (k : ℕ) → Falling ps → k < length ps → part ps k ≡ x → Good ps (rule_from (rule_of ps) x) (record { table = ps; number = k })
unfolding rule_in
old_good ps x k falls s e = record {
  rest = [];
  grown = sym (append-nil ps);
  falls = falls;
  inside = s;
  stands = sides ps falls k k (part ps k) (falls k) (omega arith) ∙ ap (rule_from (rule_of ps)) e;
}

new_good : (ps : List Part) (x : Part) → Falling ps → Falls (length ps) x → Good ps (rule_from (rule_of ps) x) (record { table = ps ++ (x ∷ []); number = length ps })
unfolding rule_in
new_good ps x falls l = record {
  rest = x ∷ [];
  grown = refl;
  falls = falls_more ps x falls l;
  inside = simp length-append (omega arith);
  stands =
      ap (rule_from (rule_in (length ps) (ps ++ (x ∷ [])))) (get_or-append_seam ps x [] True)
      ∙ rule_same (rule_in (length ps) (ps ++ (x ∷ []))) (rule_in (length ps) ps) (length ps) x l (λ a s. rule_front ps (x ∷ []) falls (length ps) a s)
      ∙ sides ps falls (length ps) (length ps) x l (omega arith);
}

pub enter_good : (ps : List Part) (x : Part) → Falling ps → Falls (length ps) x → Good ps (rule_from (rule_of ps) x) (enter ps x)
unfolding enter
enter_good ps x falls l = elim (cases_lt (place ps x) (length ps)) [
  | inl s ↦ rw (lt-ltb (place ps x) (length ps) s) (old_good ps x (place ps x) falls s (place_is ps x s))
  | inr s ↦ (
      let e : place ps x ≡ length ps = omega (arith, place_most ps x) in
      rw (le-ltb (place ps x) (length ps) s, e) (new_good ps x falls l))
]

-- an entry, and another behind it
pub then_good : (ps : List Part) (f g : Rule) (e h : Entry) → Good ps f e → Good e.table g h → Good ps g h
then_good ps f g e h a b = record {
  rest = a.rest ++ b.rest;
  grown = b.grown ∙ ap (λ t. t ++ b.rest) a.grown ∙ append_assoc ps a.rest b.rest;
  falls = b.falls;
  inside = b.inside;
  stands = b.stands;
}

-- the first entry, seen in the later table
pub still : (ps : List Part) (f g : Rule) (e h : Entry) → Good ps f e → Good e.table g h → rule_of h.table e.number ≡ f
still ps f g e h a b =
    ap (λ t. rule_of t e.number) b.grown ∙ rule_front e.table b.rest a.falls (suc e.number) e.number a.inside ∙ a.stands

pub inside_later : (ps : List Part) (g : Rule) (e h : Entry) → e.number < length e.table → Good e.table g h → e.number < length h.table
inside_later ps g e h l b = omega (arith, ap length b.grown, length-append e.table b.rest)

-- a part of two sides
pub two_good : (ps : List Part) (f g : Rule) (e h : Entry) (x : ℕ → ℕ → Part) (y : Rule → Rule → Rule)
    → ((k a b : ℕ) → a < k → b < k → Falls k (x a b))
    → ((r : ℕ → Rule) (a b : ℕ) → rule_from r (x a b) ≡ y (r a) (r b))
    → Good ps f e → Good e.table g h → Good ps (y f g) (enter h.table (x e.number h.number))
two_good ps f g e h x y low same a b =
    let l = inside_later ps g e h a.inside b in
    let m = enter_good h.table (x e.number h.number) b.falls (low (length h.table) e.number h.number l b.inside) in
    let is : rule_from (rule_of h.table) (x e.number h.number) ≡ y f g = same (rule_of h.table) e.number h.number ∙ ap₂ y (still ps f g e h a b) b.stands in
    let both-in = then_good ps g _ h (enter h.table (x e.number h.number)) (then_good ps f g e h a b) m in
    subst (λ r. Good ps r (enter h.table (x e.number h.number))) is both-in

pub parts_good : (ps : List Part) (f : Rule) → Falling ps → Good ps f (parts_on ps f)
unfolding parts_on
parts_good ps always falls = enter_good ps True falls tt
parts_good ps never falls = enter_good ps False falls tt
parts_good ps (literal s want) falls = enter_good ps (Literal s want) falls tt
parts_good ps (next f) falls =
    let e = parts_on ps f in
    let a = parts_good ps f falls in
    let m = enter_good e.table (Next e.number) a.falls a.inside in
    let made = then_good ps f _ e (enter e.table (Next e.number)) a m in
    subst (λ r. Good ps r (enter e.table (Next e.number))) (ap next a.stands) made
parts_good ps (release f g) falls =
    let a = parts_good ps f falls in
    two_good ps f g (parts_on ps f) (parts_on (parts_on ps f).table g) Release release (λ k i j l m. (l, m)) (λ r i j. refl) a (parts_good (parts_on ps f).table g a.falls)
parts_good ps (both f g) falls =
    let a = parts_good ps f falls in
    two_good ps f g (parts_on ps f) (parts_on (parts_on ps f).table g) Both both (λ k i j l m. (l, m)) (λ r i j. refl) a (parts_good (parts_on ps f).table g a.falls)
parts_good ps (either f g) falls =
    let a = parts_good ps f falls in
    two_good ps f g (parts_on ps f) (parts_on (parts_on ps f).table g) Either either (λ k i j l m. (l, m)) (λ r i j. refl) a (parts_good (parts_on ps f).table g a.falls)

pub parts_right : (f : Rule) → Falling (parts_of f).table × (rule_of (parts_of f).table (parts_of f).number ≡ f)
parts_right f = let g = parts_good [] f (λ k. tt) in (g.falls, g.stands)

pub rule_lost_right : (f : Rule) (rs : List Played) (xs : List ℕ) → duty_number (parts_of f).table (length (parts_of f).table) ≤ 32
    → list_after_all (parts_of f).table rs (list_of (parts_of f).table (parts_of f).number) ≡ sets xs → (xs ≡ []) ↔ Fails f rs 0
rule_lost_right f rs xs l e =
    let g = parts_right f in
    let r = lost_right (parts_of f).table (record { falls = g.0; duties = l }) (parts_of f).number rs xs e in
    subst (λ h. (xs ≡ []) ↔ Fails h rs 0) g.1 r
