-- What exploring finds is closed under moves.
use Rattle.std.proofs.Common.{◌≡◌, ℕ, zero, suc, ◌+◌, ◌^◌, ◌<◌, ◌≤◌, Bool, true, false, cond, ◌&&◌, ltb, leb, ◌↔◌, List, [], ◌∷◌, ◌++◌, map, length, get_or, drop, fold, sym, refl, ap, ◌∙◌, subst, inl, inr, ⊎_elim, append_assoc, append-nil, arith, length-append, length-drop, drop-cons}
use lib.ListN.{get_or-append}
use Rattle.std.proofs.lemmas.Bool.{cond_both, leb-true, ltb-true, or_left, or_right, or_cases, and_parts, cases_eq}
use Rattle.std.specs.Bool.{Decides}
use Rattle.std.proofs.lemmas.Slice.Eq.{compares_Decides}
use Rattle.arena.specs.Tally.{Played}
use Rattle.rules.specs.declared.part.Part.{Part}
use Rattle.rules.specs.Rule.{Rule, Fails}
use Rattle.rules.specs.Sets.{Sets, too_wide, sets}
use Rattle.rules.specs.Parts.{duty_number}
use Rattle.rules.specs.Table.{parts_of}
use Rattle.rules.specs.Progress.{list_of, list_after, list_after_all}
use Rattle.terms.specs.Lists.{same_list}
use Rattle.terms.proofs.ListLaws.{same_list_decides}
use Rattle.rules.specs.Explore.{Compiled, too_large, lost_start, wide_at, too_many, positions, among, met, move, numbers, with_inputs, rounds, turn, explore, start, compiled, lists, InRange, AllInRange}
use Rattle.rules.proofs.TableLaws.{rule_lost_right}

abbrev pub Each : {A : Type 0} → (A → Type 0) → List A → Type 0
Each P [] = Unit {0}
Each P (x ∷ xs) = P x × Each P xs

each_map : {A : Type 0} (P Q : A → Type 0) (xs : List A) → ((x : A) → P x → Q x) → Each P xs → Each Q xs
each_map P Q [] f h = tt
each_map P Q (x ∷ xs) f h = (f x h.0, each_map P Q xs f h.1)

-- every round in range is among those explored
number_in : (P : ℕ → Type 0) (n k y : ℕ) → Each P (numbers n k) → k ≤ y → y < k + n → P y
number_in P zero k y h l m = absurd (omega arith)
number_in P (suc n) k y h l m = ⊎_elim (λ e. subst P e h.0) (λ no. number_in P n (suc k) y h.1 (omega arith) (omega arith)) (cases_eq k y)

each_split : (P : Played → Type 0) (xs ys : List Played) → Each P (xs ++ ys) → Each P xs × Each P ys
each_split P [] ys h = (tt, h)
each_split P (x ∷ xs) ys h = let t = each_split P xs ys h.1 in ((h.0, t.0), t.1)

each_row : (P : Played → Type 0) (x : ℕ) (ys : List ℕ) → Each P (map (λ y. record { input = x; output = y }) ys) → Each (λ y. P (record { input = x; output = y })) ys
each_row P x [] h = tt
each_row P x (y ∷ ys) h = (h.0, each_row P x ys h.1)

each_rows : (P : Played → Type 0) (xs ys : List ℕ) → Each P (with_inputs xs ys) → Each (λ x. Each (λ y. P (record { input = x; output = y })) ys) xs
each_rows P [] ys h = tt
each_rows P (x ∷ xs) ys h =
    let t = each_split P (map (λ y. record { input = x; output = y }) ys) (with_inputs xs ys) h in
    (each_row P x ys t.0, each_rows P xs ys t.1)

pub round_in : (P : Played → Type 0) (i o : ℕ) (r : Played) → Each P (rounds i o) → InRange i o r → P r
round_in P i o r h l =
    let row = number_in (λ x. Each (λ y. P (record { input = x; output = y })) (numbers (2 ^ o) 0)) (2 ^ i) 0 r.input (each_rows P (numbers (2 ^ i) 0) (numbers (2 ^ o) 0) h) (omega arith) (omega (arith, l.0)) in
    number_in (λ y. P (record { input = r.input; output = y })) (2 ^ o) 0 r.output row (omega arith) (omega (arith, l.1))

-- lists among others
pub same_list_true : (xs ys : List ℕ) → same_list xs ys ≡ true → xs ≡ ys
same_list_true xs ys = (same_list_decides xs ys).0

pub same_list_self : (xs : List ℕ) → same_list xs xs ≡ true
same_list_self xs = (same_list_decides xs xs).1 refl

pub among_at : (known : List (List ℕ)) (s : List ℕ) → among known s ≡ true → (q : ℕ) × (q < length known) × (get_or known q [] ≡ s)
among_at [] s e = cc
among_at (t ∷ ts) s e = elim (or_cases (same_list t s) (among ts s) e) [
  | inl h ↦ (0, omega arith, same_list_true t s h)
  | inr h ↦ (let r = among_at ts s h in (suc r.0, omega (arith, r.1), r.2))
]

pub among_front : (known rest : List (List ℕ)) (s : List ℕ) → among known s ≡ true → among (known ++ rest) s ≡ true
among_front [] rest s e = cc
among_front (t ∷ ts) rest s e = elim (or_cases (same_list t s) (among ts s) e) [
  | inl h ↦ or_left (same_list t s) (among (ts ++ rest) s) h
  | inr h ↦ or_right (same_list t s) (among (ts ++ rest) s) (among_front ts rest s h)
]

pub among_end : (known : List (List ℕ)) (s : List ℕ) → among (known ++ (s ∷ [])) s ≡ true
among_end [] s = or_left (same_list s s) false (same_list_self s)
among_end (t ∷ ts) s = or_right (same_list t s) (among (ts ++ (s ∷ [])) s) (among_end ts s)

-- a move leads to a known position, or is lost
abbrev pub Ok : List (List ℕ) → Sets → Type 0
Ok known too_wide = ⊥
Ok known (sets []) = Unit {0}
Ok known (sets (x ∷ xs)) = among known (x ∷ xs) ≡ true

abbrev pub Grows : List (List ℕ) → List (List ℕ) → Type 0
Grows known later = (rest : List (List ℕ)) × (later ≡ known ++ rest)

grows_self : (known : List (List ℕ)) → Grows known known
grows_self known = ([], sym (append-nil known))

grows_trans : (a b c : List (List ℕ)) → Grows a b → Grows b c → Grows a c
grows_trans a b c g h = (g.0 ++ h.0, h.1 ∙ ap (λ t. t ++ h.0) g.1 ∙ append_assoc a g.0 h.0)

pub grows_at : (a b : List (List ℕ)) (q : ℕ) → Grows a b → q < length a → get_or b q [] ≡ get_or a q []
grows_at a b q g l = ap (λ t. get_or t q []) g.1 ∙ get_or-append a g.0 [] q l

grows_ok : (a b : List (List ℕ)) (s : Sets) → Grows a b → Ok a s → Ok b s
grows_ok a b too_wide g h = h
grows_ok a b (sets []) g h = tt
grows_ok a b (sets (x ∷ xs)) g h = subst (λ t. among t (x ∷ xs) ≡ true) (sym g.1) (among_front a g.0 (x ∷ xs) h)

abbrev pub Is : Compiled → Type 0
Is too_large = ⊥
Is lost_start = ⊥
Is (wide_at p) = ⊥
Is too_many = ⊥
Is (positions known) = Unit {0}

pub met_ok : (p : ℕ) (known : List (List ℕ)) (s : Sets) → length known ≤ 255 → Is (met p known s)
    → Grows known (lists (met p known s)) × (length (lists (met p known s)) ≤ 255) × Ok (lists (met p known s)) s
met_ok p known too_wide l = λ h. absurd h
met_ok p known (sets []) l = λ h. (grows_self known, l, tt)
met_ok p known (sets (x ∷ xs)) l =
    cond_both (among known (x ∷ xs)) (positions known) (cond (ltb (length known) 255) (positions (known ++ ((x ∷ xs) ∷ []))) too_many)
    (λ e. Is e → Grows known (lists e) × (length (lists e) ≤ 255) × Ok (lists e) (sets (x ∷ xs)))
    (λ a h. (grows_self known, l, a))
    (λ a. cond_both (ltb (length known) 255) (positions (known ++ ((x ∷ xs) ∷ []))) too_many
    (λ e. Is e → Grows known (lists e) × (length (lists e) ≤ 255) × Ok (lists e) (sets (x ∷ xs)))
    (λ b h. (((x ∷ xs) ∷ [], refl), simp length-append (omega (arith, ltb-true (length known) 255 b)), among_end known (x ∷ xs)))
    (λ b h. absurd h))

module _ (ps : List Part) where
  move_ok : (p : ℕ) (s : List ℕ) (e : Compiled) (r : Played) → length (lists e) ≤ 255 → Is (move ps p s e r)
      → Grows (lists e) (lists (move ps p s e r)) × (length (lists (move ps p s e r)) ≤ 255) × Ok (lists (move ps p s e r)) (list_after ps r (sets s))
  move_ok p s (positions known) r l h = met_ok p known (list_after ps r (sets s)) l h
  move_ok p s e r l h = absurd h

  move_is : (p : ℕ) (s : List ℕ) (e : Compiled) (r : Played) → Is (move ps p s e r) → Is e
  move_is p s (positions known) r h = tt
  move_is p s e r h = h

  moves_is : (p : ℕ) (s : List ℕ) (rs : List Played) (e : Compiled) → Is (fold (move ps p s) e rs) → Is e
  moves_is p s [] e h = h
  moves_is p s (r ∷ rs) e h = move_is p s e r (moves_is p s rs (move ps p s e r) h)

  abbrev pub AllOk : List Played → List (List ℕ) → List ℕ → Type 0
  AllOk rs known s = Each (λ r. Ok known (list_after ps r (sets s))) rs

  all_ok_grows : (rs : List Played) (a b : List (List ℕ)) (s : List ℕ) → Grows a b → AllOk rs a s → AllOk rs b s
  all_ok_grows rs a b s g h = each_map (λ r. Ok a (list_after ps r (sets s))) (λ r. Ok b (list_after ps r (sets s))) rs (λ r k. grows_ok a b (list_after ps r (sets s)) g k) h

  moves_ok : (p : ℕ) (s : List ℕ) (rs : List Played) (e : Compiled) → length (lists e) ≤ 255 → Is (fold (move ps p s) e rs)
      → Grows (lists e) (lists (fold (move ps p s) e rs)) × (length (lists (fold (move ps p s) e rs)) ≤ 255) × AllOk rs (lists (fold (move ps p s) e rs)) s
  moves_ok p s [] e l h = (grows_self (lists e), l, tt)
  moves_ok p s (r ∷ rs) e l h =
      let one = move_ok p s e r l (moves_is p s rs (move ps p s e r) h) in
      let more = moves_ok p s rs (move ps p s e r) one.1 h in
      let end = lists (fold (move ps p s) (move ps p s e r) rs) in
      (grows_trans (lists e) (lists (move ps p s e r)) end one.0 more.0, more.1, (grows_ok (lists (move ps p s e r)) end (list_after ps r (sets s)) more.0 one.2, more.2))

  module _ (rs : List Played) where
    -- the first p positions have their moves
    abbrev Done : ℕ → List (List ℕ) → Type 0
    Done p known = (q : ℕ) → q < p → q < length known → AllOk rs known (get_or known q [])

    abbrev pub Closed : List (List ℕ) → Type 0
    Closed known = (q : ℕ) → q < length known → AllOk rs known (get_or known q [])

    abbrev Explored : List (List ℕ) → List (List ℕ) → Type 0
    Explored known end = Grows known end × Closed end × (length end ≤ 255)

    explore_is : (n p : ℕ) (e : Compiled) → Is (explore n ps rs p e) → Is e
    unfolding explore
    explore_is zero p e h = h
    explore_is (suc n) p (positions known) h = tt
    explore_is (suc n) p e h = h

    turn_ok : (n p : ℕ) (known : List (List ℕ)) → length known ≤ 255 → Done p known
        → ((e : Compiled) → length (lists e) ≤ 255 → Done (suc p) (lists e) → Is (explore n ps rs (suc p) e) → Explored (lists e) (lists (explore n ps rs (suc p) e)))
        → (rest : List (List ℕ)) → drop p known ≡ rest
        → Is (turn (positions known) (λ s. explore n ps rs (suc p) (fold (move ps (suc p) s) (positions known) rs)) rest)
        → Explored known (lists (turn (positions known) (λ s. explore n ps rs (suc p) (fold (move ps (suc p) s) (positions known) rs)) rest))
    turn_ok n p known l done ih [] e h = (grows_self known, λ q m. done q (omega (arith, length-drop p known, ap length e)) m, l)
    turn_ok n p known l done ih (s ∷ more) e h =
        let long : p < length known = omega (arith, length-drop p known, ap length e) in
        let c = drop-cons known p [] long in
        let at : get_or known p [] ≡ s = cc in
        let next = fold (move ps (suc p) s) (positions known) rs in
        let step = moves_ok (suc p) s rs (positions known) l (explore_is n (suc p) next h) in
        let g : Grows known (lists next) = step.0 in
        let done_more : Done (suc p) (lists next) = λ q a b. ⊎_elim
        (λ f. subst (AllOk rs (lists next)) (sym (ap (λ j. get_or (lists next) j []) f ∙ grows_at known (lists next) p g long ∙ at)) step.2)
        (λ no. (
        let a' : q < p = omega arith in
        let b' : q < length known = omega arith in
        subst (AllOk rs (lists next)) (sym (grows_at known (lists next) q g b')) (all_ok_grows rs known (lists next) (get_or known q []) g (done q a' b'))))
        (cases_eq q p) in
        let r = ih next step.1 done_more h in
        (grows_trans known (lists next) (lists (explore n ps rs (suc p) next)) g r.0, r.1, r.2)

    explore_ok : (n p : ℕ) (e : Compiled) → n + p ≡ 256 → length (lists e) ≤ 255 → Done p (lists e) → Is (explore n ps rs p e) → Explored (lists e) (lists (explore n ps rs p e))
    unfolding explore
    explore_ok zero p e m l done h = (grows_self (lists e), λ q a. done q (omega arith) a, l)
    explore_ok (suc n) p (positions known) m l done h =
        turn_ok n p known l done (λ e a b c. explore_ok n (suc p) e (omega arith) a b c) (drop p known) refl h
    explore_ok (suc n) p e m l done h = absurd h

  lost_stays : (rs : List Played) → list_after_all ps rs (sets []) ≡ sets []
  unfolding list_after_all list_after
  lost_stays [] = refl
  lost_stays (r ∷ rs) = lost_stays rs

  -- from a known position, rounds in range lead to one or are lost
  pub run_ok : (i o : ℕ) (known : List (List ℕ)) → Closed (rounds i o) known → (rs : List Played) → AllInRange i o rs → (s : Sets) → Ok known s
      → (xs : List ℕ) × (list_after_all ps rs s ≡ sets xs) × Ok known (sets xs)
  unfolding list_after_all
  run_ok i o known c rs l too_wide h = absurd h
  run_ok i o known c rs l (sets []) h = ([], lost_stays rs, tt)
  run_ok i o known c [] l (sets (x ∷ xs)) h = (x ∷ xs, refl, h)
  run_ok i o known c (r ∷ rs) l (sets (x ∷ xs)) h =
      let (q, m, at) = among_at known (x ∷ xs) h in
      let here = subst (AllOk (rounds i o) known) at (c q m) in
      run_ok i o known c rs l.1 (list_after ps r (sets (x ∷ xs))) (round_in (λ y. Ok known (list_after ps y (sets (x ∷ xs)))) i o r here l.0)

start_ok : (s : Sets) (known : List (List ℕ)) → Is (start s) → Grows (lists (start s)) known → Ok known s
start_ok too_wide known h g = absurd h
start_ok (sets []) known h g = absurd h
start_ok (sets (x ∷ xs)) known h g = grows_ok ((x ∷ xs) ∷ []) known (sets (x ∷ xs)) g (or_left (same_list (x ∷ xs) (x ∷ xs)) false (same_list_self (x ∷ xs)))

start_short : (s : Sets) → length (lists (start s)) ≤ 255
start_short too_wide = omega arith
start_short (sets []) = omega arith
start_short (sets (x ∷ xs)) = omega arith

abbrev pub start_of : Rule → Sets
start_of f = list_of (parts_of f).table (parts_of f).number

-- what compiling finds
pub record Found (i o : ℕ) (f : Rule) (known : List (List ℕ)) : Type 0 where
  pub closed : Closed (parts_of f).table (rounds i o) known
  pub first : Is (start (start_of f))
  pub grown : Grows (lists (start (start_of f))) known
  pub begun : Ok known (start_of f)
  pub short : length known ≤ 255
  pub duties : duty_number (parts_of f).table (length (parts_of f).table) ≤ 32

pub found : (i o : ℕ) (f : Rule) (known : List (List ℕ)) → compiled i o f ≡ positions known → Found i o f known
unfolding compiled
found i o f known e = go (leb (length ps) 64 && leb (duty_number ps (length ps)) 32) refl e
  where
    ps : List Part
    ps = (parts_of f).table

    s : Sets
    s = start_of f

    run : Compiled
    run = explore 256 ps (rounds i o) 0 (start s)

    go : (b : Bool) → (leb (length ps) 64 && leb (duty_number ps (length ps)) 32) ≡ b → (elim b as (λ x. Compiled) [ true ↦ run | false ↦ too_large ]) ≡ positions known → Found i o f known
    go true b e =
        let is : Is run = subst Is (sym e) tt in
        let all = explore_ok ps (rounds i o) 256 0 (start s) refl (start_short s) (λ q a c. absurd (omega arith)) is in
        let first = explore_is ps (rounds i o) 256 0 (start s) is in
        subst (Found i o f) (ap lists e) (record {
          closed = all.1;
          first = first;
          grown = all.0;
          begun = start_ok s (lists run) first all.0;
          short = all.2;
          duties = leb-true (duty_number ps (length ps)) 32 (and_parts (leb (length ps) 64) (leb (duty_number ps (length ps)) 32) b).1;
        })
    go false b e = absurd (subst Is (sym e) tt)

pub compiled_right : (i o : ℕ) (f : Rule) (known : List (List ℕ)) → compiled i o f ≡ positions known → (rs : List Played) → AllInRange i o rs
    → (xs : List ℕ) × (list_after_all (parts_of f).table rs (list_of (parts_of f).table (parts_of f).number) ≡ sets xs) × ((xs ≡ []) ↔ Fails f rs 0)
compiled_right i o f known e rs l =
    let w = found i o f known e in
    let r = run_ok (parts_of f).table i o known w.closed rs l (start_of f) w.begun in
    (r.0, r.1, rule_lost_right f rs r.0 w.duties r.1)
