-- The positions of a compiled rule are the lists that are reached.
use Rattle.std.proofs.Common.{◌≡◌, ℕ, zero, suc, ◌+◌, ◌^◌, ◌<◌, ◌≤◌, true, false, cond, ◌&&◌, ltb, leb, List, [], ◌∷◌, ◌++◌, map, length, get_or, drop, fold, sym, refl, ap, ◌∙◌, subst, inl, inr, arith, length-append, length-drop, drop-cons}
use lib.ListN.{get_or-append}
use lib.Seq.{get_or-append_seam}
use Rattle.std.proofs.lemmas.Bool.{cond_both, or_parts, cases_lt, both_ways}
use Rattle.arena.specs.Tally.{Played}
use Rattle.rules.specs.declared.part.Part.{Part}
use Rattle.rules.specs.Rule.{Rule}
use Rattle.rules.specs.Sets.{Sets, too_wide, sets}
use Rattle.rules.specs.Parts.{duty_number}
use Rattle.rules.specs.Table.{parts_of}
use Rattle.rules.specs.Progress.{list_after, list_after_all}
use Rattle.terms.specs.Lists.{same_list}
use Rattle.rules.specs.Explore.{Compiled, too_large, too_many, positions, among, met, move, numbers, with_inputs, rounds, turn, explore, start, compiled, lists, InRange, AllInRange, led_to, Reachable}
use Rattle.rules.proofs.CompileLaws.{Each, Ok, run_ok, among_at, same_list_self, Found, found, start_of}

-- lists that are each good, and apart
abbrev Apart : List (List ℕ) → Type 0
Apart known = (j k : ℕ) → j < length known → k < length known → get_or known j [] ≡ get_or known k [] → j ≡ k

not_among : (known : List (List ℕ)) (s : List ℕ) (k : ℕ) → among known s ≡ false → k < length known → get_or known k [] ≡ s → ⊥
not_among [] s k e l h = omega arith
not_among (t ∷ ts) s zero e l h =
    both_ways (same_list t s) (or_parts (same_list t s) (among ts s) e).0 (subst (λ x. same_list t x ≡ true) h (same_list_self t))
not_among (t ∷ ts) s (suc k) e l h = not_among ts s k (or_parts (same_list t s) (among ts s) e).1 (omega arith) h

apart_more : (known : List (List ℕ)) (s : List ℕ) → among known s ≡ false → Apart known → Apart (known ++ (s ∷ []))
apart_more known s e a j k l m h =
    let at : (q : ℕ) → q < length known → get_or (known ++ (s ∷ [])) q [] ≡ get_or known q [] = λ q n. get_or-append known (s ∷ []) [] q n in
    let end : (q : ℕ) → length known ≤ q → q < length (known ++ (s ∷ [])) → q ≡ length known = λ q n o. omega (arith, length-append known (s ∷ [])) in
    let last : (q : ℕ) → q ≡ length known → get_or (known ++ (s ∷ [])) q [] ≡ s = λ q n. ap (λ r. get_or (known ++ (s ∷ [])) r []) n ∙ get_or-append_seam known s [] [] in
    elim (cases_lt j (length known)) [
      | inl jl ↦ elim (cases_lt k (length known)) [
        | inl kl ↦ a j k jl kl (sym (at j jl) ∙ h ∙ at k kl)
        | inr kl ↦ absurd (not_among known s j e jl (sym (at j jl) ∙ h ∙ last k (end k kl m)))
      ]
      | inr jl ↦ elim (cases_lt k (length known)) [
        | inl kl ↦ absurd (not_among known s k e kl (sym (at k kl) ∙ sym h ∙ last j (end j jl l)))
        | inr kl ↦ end j jl l ∙ sym (end k kl m)
      ]
    ]

each_end : (G : List ℕ → Type 0) (known : List (List ℕ)) (s : List ℕ) → Each G known → G s → Each G (known ++ (s ∷ []))
each_end G [] s h g = (g, tt)
each_end G (t ∷ ts) s h g = (h.0, each_end G ts s h.1 g)

each_at : (G : List ℕ → Type 0) (known : List (List ℕ)) (k : ℕ) → Each G known → k < length known → G (get_or known k [])
each_at G [] k h l = absurd (omega arith)
each_at G (t ∷ ts) zero h l = h.0
each_at G (t ∷ ts) (suc k) h l = each_at G ts k h.1 (omega arith)

each_drop : (G : List ℕ → Type 0) (p : ℕ) (known : List (List ℕ)) (s : List ℕ) (more : List (List ℕ)) → Each G known → drop p known ≡ s ∷ more → G s
each_drop G p known s more h e =
    let long : p < length known = omega (arith, length-drop p known, ap length e) in
    let c = drop-cons known p [] long in
    let at : get_or known p [] ≡ s = cc in
    subst G at (each_at G known p h long)

module _ (G : List ℕ → Type 0) where
  abbrev Fine : Compiled → Type 0
  Fine e = Each G (lists e) × Apart (lists e)

  met_fine : (p : ℕ) (known : List (List ℕ)) (s : Sets) → Fine (positions known) → ((x : ℕ) (xs : List ℕ) → s ≡ sets (x ∷ xs) → G (x ∷ xs)) → Fine (met p known s)
  met_fine p known too_wide h g = (tt, λ j k l m e. absurd (omega arith))
  met_fine p known (sets []) h g = h
  met_fine p known (sets (x ∷ xs)) h g =
      cond_both (among known (x ∷ xs)) (positions known) (cond (ltb (length known) 255) (positions (known ++ ((x ∷ xs) ∷ []))) too_many) Fine
      (λ a. h)
      (λ a. cond_both (ltb (length known) 255) (positions (known ++ ((x ∷ xs) ∷ []))) too_many Fine
      (λ b. (each_end G known (x ∷ xs) h.0 (g x xs refl), apart_more known (x ∷ xs) a h.1))
      (λ b. (tt, λ j k l m e. absurd (omega arith))))

  module _ (ps : List Part) (i o : ℕ) (goes : (s : List ℕ) (r : Played) (x : ℕ) (xs : List ℕ) → G s → InRange i o r → list_after ps r (sets s) ≡ sets (x ∷ xs) → G (x ∷ xs)) where
    move_fine : (p : ℕ) (s : List ℕ) (e : Compiled) (r : Played) → InRange i o r → G s → Fine e → Fine (move ps p s e r)
    move_fine p s (positions known) r l g h = met_fine p known (list_after ps r (sets s)) h (λ x xs e. goes s r x xs g l e)
    move_fine p s e r l g h = h

    moves_fine : (p : ℕ) (s : List ℕ) (rs : List Played) (e : Compiled) → Each (InRange i o) rs → G s → Fine e → Fine (fold (move ps p s) e rs)
    moves_fine p s [] e l g h = h
    moves_fine p s (r ∷ rs) e l g h = moves_fine p s rs (move ps p s e r) l.1 g (move_fine p s e r l.0 g h)

    turn_fine : (known : List (List ℕ)) (next : List ℕ → Compiled) (rest : List (List ℕ)) → Fine (positions known) → ((s : List ℕ) (more : List (List ℕ)) → rest ≡ s ∷ more → Fine (next s)) → Fine (turn (positions known) next rest)
    turn_fine known next [] h f = h
    turn_fine known next (s ∷ more) h f = f s more refl

    explore_fine : (rs : List Played) → Each (InRange i o) rs → (n p : ℕ) (e : Compiled) → Fine e → Fine (explore n ps rs p e)
    unfolding explore
    explore_fine rs l zero p e h = h
    explore_fine rs l (suc n) p (positions known) h =
        turn_fine known (λ s. explore n ps rs (suc p) (fold (move ps (suc p) s) (positions known) rs)) (drop p known) h
        (λ s more e. explore_fine rs l n (suc p) (fold (move ps (suc p) s) (positions known) rs) (moves_fine (suc p) s rs (positions known) l (each_drop G p known s more h.0 e) h))
    explore_fine rs l (suc n) p e h = h

-- the rounds that are explored are in range
numbers_in : (n k b : ℕ) → k + n ≤ b → Each (λ y. y < b) (numbers n k)
numbers_in zero k b l = tt
numbers_in (suc n) k b l = (omega arith, numbers_in n (suc k) b (omega arith))

each_join : (P : Played → Type 0) (xs ys : List Played) → Each P xs → Each P ys → Each P (xs ++ ys)
each_join P [] ys h k = k
each_join P (x ∷ xs) ys h k = (h.0, each_join P xs ys h.1 k)

row_in : (i o x : ℕ) (ys : List ℕ) → x < 2 ^ i → Each (λ y. y < 2 ^ o) ys → Each (InRange i o) (map (λ y. record { input = x; output = y }) ys)
row_in i o x [] l h = tt
row_in i o x (y ∷ ys) l h = ((l, h.0), row_in i o x ys l h.1)

rows_in : (i o : ℕ) (xs ys : List ℕ) → Each (λ x. x < 2 ^ i) xs → Each (λ y. y < 2 ^ o) ys → Each (InRange i o) (with_inputs xs ys)
rows_in i o [] ys h k = tt
rows_in i o (x ∷ xs) ys h k = each_join (InRange i o) (map (λ y. record { input = x; output = y }) ys) (with_inputs xs ys) (row_in i o x ys h.0 k) (rows_in i o xs ys h.1 k)

rounds_in : (i o : ℕ) → Each (InRange i o) (rounds i o)
rounds_in i o = rows_in i o (numbers (2 ^ i) 0) (numbers (2 ^ o) 0) (numbers_in (2 ^ i) 0 (2 ^ i) (omega arith)) (numbers_in (2 ^ o) 0 (2 ^ o) (omega arith))

-- one round more
after_end : (ps : List Part) (rs : List Played) (r : Played) (s : Sets) → list_after_all ps (rs ++ (r ∷ [])) s ≡ list_after ps r (list_after_all ps rs s)
unfolding list_after_all
after_end ps [] r s = refl
after_end ps (q ∷ rs) r s = after_end ps rs r (list_after ps q s)

in_range_end : (i o : ℕ) (rs : List Played) (r : Played) → AllInRange i o rs → InRange i o r → AllInRange i o (rs ++ (r ∷ []))
in_range_end i o [] r h l = (l, tt)
in_range_end i o (q ∷ rs) r h l = (h.0, in_range_end i o rs r h.1 l)

-- reached, and not lost
abbrev GoodList : ℕ → ℕ → Rule → List ℕ → Type 0
GoodList i o f s = ((rs : List Played) × AllInRange i o rs × (led_to f rs ≡ sets s)) × (s ≡ [] → ⊥)

full : (x : ℕ) (xs : List ℕ) → x ∷ xs ≡ [] → ⊥
full x xs e = cc

good_goes : (i o : ℕ) (f : Rule) (s : List ℕ) (r : Played) (x : ℕ) (xs : List ℕ) → GoodList i o f s → InRange i o r → list_after (parts_of f).table r (sets s) ≡ sets (x ∷ xs) → GoodList i o f (x ∷ xs)
good_goes i o f s r x xs g l e =
    let ((rs, m, at), no_more) = g in
    ((rs ++ (r ∷ []), in_range_end i o rs r m l, after_end (parts_of f).table rs r (start_of f) ∙ ap (list_after (parts_of f).table r) at ∙ e), full x xs)

good_start : (i o : ℕ) (f : Rule) (s : Sets) → led_to f [] ≡ s → Fine (GoodList i o f) (start s)
good_start i o f too_wide e = (tt, λ j k l m h. absurd (omega arith))
good_start i o f (sets []) e = (tt, λ j k l m h. absurd (omega arith))
good_start i o f (sets (x ∷ xs)) e = (((([], tt, e), full x xs), tt), λ j k l m h. omega arith)

compiled_fine : (i o : ℕ) (f : Rule) → Fine (GoodList i o f) (compiled i o f)
unfolding compiled list_after_all
compiled_fine i o f =
    let ps = (parts_of f).table in
    let run = explore 256 ps (rounds i o) 0 (start (start_of f)) in
    let h = explore_fine (GoodList i o f) ps i o (good_goes i o f) (rounds i o) (rounds_in i o) 256 0 (start (start_of f)) (good_start i o f (start_of f) refl) in
    elim (leb (length ps) 64 && leb (duty_number ps (length ps)) 32) as (λ b. Fine (GoodList i o f) (elim b [ true ↦ run | false ↦ too_large ])) [
      | true ↦ h
      | false ↦ (tt, λ j k l m e. absurd (omega arith))
    ]

complete_for : (i o : ℕ) (f : Rule) (known : List (List ℕ)) → Found i o f known → (rs : List Played) → AllInRange i o rs → (xs : List ℕ) → led_to f rs ≡ sets xs → (xs ≡ [] → ⊥)
    → (k : ℕ) × (k < length known) × (get_or known k [] ≡ xs)
complete_for i o f known w rs l xs e n =
    let (ys, at, ok) = run_ok (parts_of f).table i o known w.closed rs l (start_of f) w.begun in
    let same : sets ys ≡ sets xs = sym at ∙ e in
    go xs n (subst (Ok known) same ok)
  where
    go : (xs : List ℕ) → (xs ≡ [] → ⊥) → Ok known (sets xs) → (k : ℕ) × (k < length known) × (get_or known k [] ≡ xs)
    go [] n h = absurd (n refl)
    go (x ∷ xs) n h = among_at known (x ∷ xs) h

pub positions_right : (i o : ℕ) (f : Rule) (known : List (List ℕ)) → compiled i o f ≡ positions known → Reachable i o f known
positions_right i o f known e =
    let h : Fine (GoodList i o f) (positions known) = subst (Fine (GoodList i o f)) e (compiled_fine i o f) in
    record {
      reached = λ k l. (each_at (GoodList i o f) known k h.0 l).0;
      not_lost = λ k l. (each_at (GoodList i o f) known k h.0 l).1;
      apart = h.1;
      complete = complete_for i o f known (found i o f known e);
    }
