-- Two texts come to one thing.
-- reads_once: they say one rule. only_this: what they come to is all that they come to.
use Rattle.std.proofs.Common.{◌≡◌, ℕ, ◌+◌, ◌-◌, ◌*◌, ◌^◌, ◌≤◌, cond, ◌==◌, List, [], ◌++◌, map, length, get_or, take, replicate, Some, None, Ok, Err, Option, Result, inl, inr, refl, sym, ap, ap₂, ◌∙◌, subst, subst₂, slice_index, arith}
use Rattle.std.proofs.lemmas.Bool.{cases_lt}
use Rattle.std.proofs.lemmas.List.{take_at, length-append, length-map}
use Rattle.terms.specs.declared.refusal.Refusal.{Refusal}
use Rattle.terms.proofs.RefusalLaws.{same_refusal}
use Rattle.words.specs.declared.name.Name.{Name}
use mathlib.Core.Path.{fun_ext}
use Rattle.register.specs.Places.{found}
use Rattle.words.specs.Names.{padding, name_of, same_name, sought_by, HoldsNames}
use Rattle.reader.specs.Names.{signal_at, known}
use Rattle.rules.specs.declared.part.Part.{Part}
use Rattle.rules.specs.declared.part.Part.TheVariants.{True}
use Rattle.rules.specs.Rule.{Rule}
use Rattle.rules.specs.Table.{parts_of}
use Rattle.rules.specs.Explore.{positions, compiled}
use Rattle.reader.specs.declared.texts.Text.TheVariants.{Neither, Signals, Rule as Rule'}
use Rattle.reader.specs.declared.texts.Misread.{Misread}
use Rattle.reader.specs.Faults.{Answer as Said}
use Rattle.reader.specs.Texts.{RuleText}
use Rattle.reader.specs.Both.{ZeroParts, Both, stores_short, signals_refused, rule_refused}
use Rattle.reader.proofs.TextLaws.{text_one}
use Rattle.compile.specs.declared.position.Position.{Position}
use Rattle.compile.specs.declared.compiled.Compiled.{Compiled as Numbers}
use Rattle.compile.specs.Positions.{unused, reason, Charted}
use Rattle.compile.specs.Compiling.{ZeroPositions, Roomy, ReadsAs, Served, Compiles, stores_short as short, text_refused, rule_refused as rule_fails, compiles, SameEntries, Only}
use Rattle.words.specs.Signals.{Outcome, served}
use Rattle.words.proofs.SignalLaws.{outcome_one}

-- ---- what two texts say

-- a store of names is the names, padded, and zeros as long as the store is
names_once : (xs : List (List ℕ)) (s t : List Name) → length s ≡ length t → HoldsNames xs s → HoldsNames xs t → s ≡ t
names_once xs s t long h i = h ∙ ap (λ n. map padding xs ++ replicate (n - length xs) (padding [])) long ∙ sym i

-- the names in use are the front of the store
names_front : (xs : List (List ℕ)) (s : List Name) → HoldsNames xs s → take (length xs) s ≡ map padding xs
names_front xs s h =
    ap (take (length xs)) h ∙ take_at (map padding xs) (replicate (length s - length xs) (padding [])) (length xs) (length-map _ _)

-- so what a run names does not hang on the zeros behind
known_once : (ins outs : List (List ℕ)) (s t : List Name) → HoldsNames (ins ++ outs) s → HoldsNames (ins ++ outs) t → known s (length ins) (length outs) ≡ known t (length ins) (length outs)
known_once ins outs s t h i =
    let many : length ins + length outs ≡ length (ins ++ outs) = sym (length-append ins outs) in
    let front : take (length ins + length outs) s ≡ take (length ins + length outs) t =
    ap (λ n. take n s) many ∙ names_front (ins ++ outs) s h ∙ sym (ap (λ n. take n t) many ∙ names_front (ins ++ outs) t i) in
    fun_ext (λ run. ap (signal_at (length ins)) (sought_once s t (length ins + length outs) (name_of run) front))
  where
    sought_once : (s t : List Name) (n : ℕ) (x : Option Name) → take n s ≡ take n t → sought_by s n x ≡ sought_by t n x
    sought_once s t n (Some x) e = ap (found same_name x) e
    sought_once s t n None e = refl

signals_once : {room : ℕ} {signals : List ℕ} {ins ins' outs outs' : List (List ℕ)} → Outcome room signals (served ins outs) → Outcome room signals (served ins' outs') → (ins ≡ ins') × (outs ≡ outs')
signals_once {room} {signals} o p = let e = outcome_one room signals o p in (cc e, cc e)

module _ {room : ℕ} {signals rule : List ℕ} where
  -- over the names of one text, another text comes to one thing
  rule_once : {ins ins' outs outs' : List (List ℕ)} {s t : List Name} {a b : Said} → Outcome room signals (served ins outs) → Outcome room signals (served ins' outs') → HoldsNames (ins ++ outs) s → HoldsNames (ins' ++ outs') t
      → RuleText (known s (length ins) (length outs)) rule a → RuleText (known t (length ins') (length outs')) rule b → a ≡ b
  rule_once {ins} {ins'} {outs} {outs'} {s} {t} {a} {b} o p h i x y =
      let e = signals_once o p in
      let front : HoldsNames (ins' ++ outs') s = subst₂ (λ u v. HoldsNames (u ++ v) s) e.0 e.1 h in
      let moved : RuleText (known s (length ins') (length outs')) rule a = subst₂ (λ u v. RuleText (known s (length u) (length v)) rule a) e.0 e.1 x in
      let one = text_one (known t (length ins') (length outs')) rule in
      sym (one.2 a (subst (λ k. RuleText k rule a) (known_once ins' outs' s t front i) moved)) ∙ one.2 b y

  -- they say one rule
  pub reads_once : {ins ins' outs outs' : List (List ℕ)} {s t : List Name} {f g : Rule} → ReadsAs room signals rule s ins outs f → ReadsAs room signals rule t ins' outs' g → (ins ≡ ins') × (outs ≡ outs') × (f ≡ g)
  reads_once a b =
      let e = signals_once a.named b.named in
      let same = rule_once a.named b.named a.stored_names b.stored_names a.said b.said in
      (e.0, e.1, cc same)

module _ {names : List Name} {parts : List Part} {signals rule : List ℕ} (room : (8 ≤ length names) × (64 ≤ length parts)) where
  -- where a text is refused, it is with one refusal
  refused_once : {m d : Misread} {n n' : List Name} {p p' : List Part} → Both names parts signals rule (Err m) n p → Both names parts signals rule (Err d) n' p' → m ≡ d
  refused_once (stores_short (inl h)) b = absurd (let l = room.0 in omega arith)
  refused_once (stores_short (inr h)) b = absurd (let l = room.1 in omega arith)
  refused_once a (stores_short (inl h)) = absurd (let l = room.0 in omega arith)
  refused_once a (stores_short (inr h)) = absurd (let l = room.1 in omega arith)
  refused_once (signals_refused {e} r o h z) (signals_refused {e = d} r' p h' z') =
      let same = outcome_one (length names) signals o p in
      ap (λ x. record { text = Signals; refusal = x }) (same_refusal e d (cc same) (cc same))
  refused_once (signals_refused r o h z) (rule_refused r' p i t h' z') = cc (outcome_one (length names) signals o p)
  refused_once (rule_refused r o i t h z) (signals_refused r' p h' z') = cc (outcome_one (length names) signals o p)
  refused_once (rule_refused {e} r o i t h z) (rule_refused {e = d} r' p i' t' h' z') =
      let same = rule_once o p i i' t t' in
      ap (λ x. record { text = Rule'; refusal = x }) (same_refusal e d (cc same) (cc same))

  -- and then the two say no rule
  pub refused_says : {m : Misread} {n stored : List Name} {p : List Part} {ins outs : List (List ℕ)} {f : Rule} → Both names parts signals rule (Err m) n p → ReadsAs (length names) signals rule stored ins outs f → ⊥
  refused_says (stores_short (inl h)) a = let l = room.0 in omega arith
  refused_says (stores_short (inr h)) a = let l = room.1 in omega arith
  refused_says (signals_refused r o h z) a = cc (outcome_one (length names) signals o a.named)
  refused_says (rule_refused r o i t h z) a = cc (rule_once o a.named i a.stored_names t a.said)

  -- both stores are then zero
  refused_zero : {m : Misread} {n : List Name} {p : List Part} → Both names parts signals rule (Err m) n p → HoldsNames [] n × ZeroParts p
  refused_zero (stores_short (inl h)) = absurd (let l = room.0 in omega arith)
  refused_zero (stores_short (inr h)) = absurd (let l = room.1 in omega arith)
  refused_zero (signals_refused r o h z) = (h, z)
  refused_zero (rule_refused r o i t h z) = (h, z)

-- ---- what the stores hold

pub ap₃ : {A B C D : Type 0} (f : A → B → C → D) {a a' : A} {b b' : B} {c c' : C} → a ≡ a' → b ≡ b' → c ≡ c' → f a b c ≡ f a' b' c'
ap₃ f p q r = λ i. f (p i) (q i) (r i)

parts_once : (p q : List Part) → length p ≡ length q → ZeroParts p → ZeroParts q → p ≡ q
parts_once p q long h i = h ∙ ap (λ n. replicate n True) long ∙ sym i

zeros_once : (s t : List Position) → length s ≡ length t → ZeroPositions s → ZeroPositions t → SameEntries s t
zeros_once s t long h i =
    let same : s ≡ t = h ∙ ap (λ n. replicate n unused) long ∙ sym i in
    λ k. (ap (λ x. (get_or x k unused).list) same, λ j. ap (λ x. slice_index (get_or x k unused).moves j) same)

-- a store with these positions has one list and one number for each round in each entry
charted_once : (i o : ℕ) (ps : List Part) (found : List (List ℕ)) (s t : List Position) → Charted i o ps found s → Charted i o ps found t → SameEntries s t
charted_once i o ps found s t c d k = elim (cases_lt k (length found)) [
  | inl h ↦ (
    c.lists k h ∙ sym (d.lists k h),
    λ j. elim (cases_lt j (2 ^ i * 2 ^ o)) [
      | inl l ↦ c.moves k j h l ∙ sym (d.moves k j h l)
      | inr l ↦ c.no_moves k j h l ∙ sym (d.no_moves k j h l)
    ],
  )
  | inr h ↦ (
      let same : get_or s k unused ≡ get_or t k unused = c.rest k h ∙ sym (d.rest k h) in
      (ap (λ x. x.list) same, λ j. ap (λ x. slice_index x.moves j) same))
]

-- ---- the outcome

module _ {room : ℕ} {signals rule : List ℕ} where
  served_once : {c d : Numbers} {n n' : List Name} {p p' : List Part} {s s' : List Position} → length n' ≡ length n → length p' ≡ length p
      → Served room signals rule c n p s → Served room signals rule d n' p' s' → (d ≡ c) × (n' ≡ n) × (p' ≡ p) × SameEntries s' s
  served_once {c} {d} {n} {n'} {p} {p'} {s} {s'} ln lp a b =
      let e = reads_once b.reads a.reads in
      let one : positions b.found ≡ positions a.found = sym b.compiles ∙ ap₃ (λ u v f. compiled (length u) (length v) f) e.0 e.1 e.2 ∙ a.compiles in
      let same : b.found ≡ a.found = cc one in
      let numbers : d ≡ c = b.numbers ∙ ap₃ (λ u v f. record { inputs = length u; outputs = length v; positions = length f }) e.0 e.1 same ∙ sym a.numbers in
      let held : HoldsNames (a.ins ++ a.outs) n' = subst₂ (λ u v. HoldsNames (u ++ v) n') e.0 e.1 b.reads.stored_names in
      let tables : (parts_of b.says).table ≡ (parts_of a.says).table = ap (λ f. (parts_of f).table) e.2 in
      let charted : Charted (length a.ins) (length a.outs) (parts_of a.says).table a.found s' =
      subst₂ (λ u v. Charted (length u) (length v) (parts_of a.says).table a.found s') e.0 e.1 (subst₂ (λ t f. Charted (length b.ins) (length b.outs) t f s') tables same b.charted) in (
        numbers,
        names_once (a.ins ++ a.outs) n' n ln held a.reads.stored_names,
        b.parts_are ∙ ap₂ (λ t k. t ++ replicate (k - length t) True) tables lp ∙ sym a.parts_are,
        charted_once _ _ _ _ s' s charted a.charted,
      )

  -- a rule that is refused is not served
  refused_served : {stored : List Name} {ins outs : List (List ℕ)} {f : Rule} {e : Refusal} {c : Numbers} {n : List Name} {p : List Part} {s : List Position}
      → ReadsAs room signals rule stored ins outs f → reason (compiled (length ins) (length outs) f) ≡ Some e → Served room signals rule c n p s → ⊥
  refused_served a e b =
      let same = reads_once a b.reads in
      let one : None ≡ Some _ = sym (ap reason b.compiles) ∙ sym (ap₃ (λ u v f. reason (compiled (length u) (length v) f)) same.0 same.1 same.2) ∙ e in
      cc one

room_for : {names : List Name} {parts : List Part} {store : List Position} → Roomy names parts store → (8 ≤ length names) × (64 ≤ length parts)
room_for r = (r.for_names, r.for_parts)

module _ {names : List Name} {parts : List Part} {signals rule : List ℕ} where
  -- whatever the two texts come to, they come to nothing else
  one_outcome : {store s s' : List Position} {r q : Result Numbers Misread} {n n' : List Name} {p p' : List Part} → length n' ≡ length n → length p' ≡ length p → length s' ≡ length s
      → Compiles names parts store signals rule r n p s → Compiles names parts store signals rule q n' p' s' → (q ≡ r) × (n' ≡ n) × (p' ≡ p) × SameEntries s' s
  one_outcome ln lp ls (short h) (short i) = (refl, refl, refl, λ k. (refl, λ j. refl))
  one_outcome ln lp ls (short h) (text_refused room b z) = absurd (h room)
  one_outcome ln lp ls (short h) (rule_fails room a e hn zp z) = absurd (h room)
  one_outcome ln lp ls (short h) (compiles room a) = absurd (h room)
  one_outcome ln lp ls (text_refused room b z) (short h) = absurd (h room)
  one_outcome {store} {s} {s'} {r} {q} {n} {n'} {p} {p'} ln lp ls (text_refused room b z) (text_refused room' b' z') =
      let a = refused_zero (room_for room) b in
      let a' = refused_zero (room_for room) b' in
      (ap Err (refused_once (room_for room) b' b), names_once [] n' n ln a'.0 a.0, parts_once p' p lp a'.1 a.1, zeros_once s' s ls z' z)
  one_outcome ln lp ls (text_refused room b z) (rule_fails room' a e hn zp z') = absurd (refused_says (room_for room) b a)
  one_outcome ln lp ls (text_refused room b z) (compiles room' a) = absurd (refused_says (room_for room) b a.reads)
  one_outcome ln lp ls (rule_fails room a e hn zp z) (short h) = absurd (h room)
  one_outcome ln lp ls (rule_fails room a e hn zp z) (text_refused room' b z') = absurd (refused_says (room_for room) b a)
  one_outcome {store} {s} {s'} {r} {q} {n} {n'} {p} {p'} ln lp ls (rule_fails room a e hn zp z) (rule_fails room' a' e' hn' zp' z') =
      let same = reads_once a' a in
      let one : Some _ ≡ Some _ = sym e' ∙ ap₃ (λ u v f. reason (compiled (length u) (length v) f)) same.0 same.1 same.2 ∙ e in
      (ap (λ x. Err (record { text = Neither; refusal = x })) (cc one), names_once [] n' n ln hn' hn, parts_once p' p lp zp' zp, zeros_once s' s ls z' z)
  one_outcome ln lp ls (rule_fails room a e hn zp z) (compiles room' b) = absurd (refused_served a e b)
  one_outcome ln lp ls (compiles room a) (short h) = absurd (h room)
  one_outcome ln lp ls (compiles room a) (text_refused room' b z') = absurd (refused_says (room_for room) b a.reads)
  one_outcome ln lp ls (compiles room b) (rule_fails room' a e hn zp z) = absurd (refused_served a e b)
  one_outcome ln lp ls (compiles room a) (compiles room' b) =
      let e = served_once ln lp a b in
      (ap Ok e.0, e.1, e.2, e.3)

  pub only_this : {store s : List Position} {r : Result Numbers Misread} {n : List Name} {p : List Part} → Compiles names parts store signals rule r n p s → Only names parts store signals rule r n p s
  only_this a q n' p' s' ln lp ls b = one_outcome ln lp ls a b
