-- A compiled rule is a game, and is lost where the rule fails.
use Rattle.std.proofs.Common.{◌≡◌, ℕ, zero, suc, ◌+◌, ◌^◌, ◌<◌, ◌≤◌, min, true, false, ◌&&◌, ◌||◌, ltb, ◌↔◌, List, [], ◌∷◌, length, get_or, sym, refl, ap, ◌∙◌, subst, inl, inr, arith}
use lib.ListN.{get_or-eq_default}
use Rattle.std.proofs.lemmas.Bool.{cond_both, cond-true, cond-false, lt-ltb, le-ltb, and_from, and_left, and_right, cases_Bool}
use Rattle.arena.specs.Tally.{Played, leads}
use Rattle.rules.specs.declared.part.Part.{Part}
use Rattle.rules.specs.Rule.{Rule, Fails}
use Rattle.rules.specs.Sets.{Sets, too_wide, sets}
use Rattle.rules.specs.Table.{parts_of}
use Rattle.rules.specs.Progress.{list_after, list_after_all}
use Rattle.terms.specs.Lists.{same_list}
use Rattle.rules.specs.Explore.{Compiled, too_large, lost_start, wide_at, too_many, positions, among, rounds, compiled, start, lists, InRange, AllInRange}
use Rattle.arena.specs.Arena.{Arena, Sound}
use Rattle.rules.specs.Game.{number_from, position, rule_move, game}
use Rattle.rules.proofs.CompileLaws.{Ok, Grows, Is, Closed, same_list_true, same_list_self, run_ok, start_of, found}
use Rattle.rules.proofs.TableLaws.{rule_lost_right}

number_most : (k : ℕ) (known : List (List ℕ)) (s : List ℕ) → number_from (suc k) known s ≤ k + length known
unfolding number_from
number_most k [] s = omega arith
number_most k (t ∷ ts) s = cond_both (same_list t s) (suc k) (number_from (suc (suc k)) ts s) (λ n. n ≤ k + suc (length ts)) (λ e. omega arith) (λ e. omega (arith, number_most (suc k) ts s))

position_most : (known : List (List ℕ)) (s : Sets) → position known s ≤ length known
unfolding position
position_most known too_wide = omega arith
position_most known (sets []) = omega arith
position_most known (sets (x ∷ xs)) = omega (arith, number_most 0 known (x ∷ xs))

-- the number of a known list, and what stands there
number_at : (k : ℕ) (known : List (List ℕ)) (s : List ℕ) → among known s ≡ true → (q : ℕ) × (number_from (suc k) known s ≡ suc (k + q)) × (get_or known q [] ≡ s)
unfolding number_from
number_at k [] s e = cc
number_at k (t ∷ ts) s e = elim (cases_Bool (same_list t s)) [
  | inl h ↦ (0, cond-true (same_list t s) (suc k) (number_from (suc (suc k)) ts s) h ∙ omega arith, same_list_true t s h)
  | inr h ↦ (
      let r = number_at (suc k) ts s (subst (λ b. (b || among ts s) ≡ true) h e) in
      (suc r.0, cond-false (same_list t s) (suc k) (number_from (suc (suc k)) ts s) h ∙ omega (arith, r.1), r.2))
]

-- a known list is at 0 only where it is lost
position_lost : (known : List (List ℕ)) (xs : List ℕ) → Ok known (sets xs) → (position known (sets xs) ≡ 0) ↔ (xs ≡ [])
unfolding position
position_lost known [] h = (λ e. refl, λ e. refl)
position_lost known (x ∷ xs) h = (
  λ e. absurd (omega (arith, (number_at 0 known (x ∷ xs) h).1)),
  λ e. cc,
)

move_most : (i o : ℕ) (ps : List Part) (known : List (List ℕ)) (p x y : ℕ) → rule_move i o ps known p x y ≤ length known
unfolding rule_move
move_most i o ps known zero x y = omega arith
move_most i o ps known (suc q) x y =
    cond_both (ltb x (2 ^ i) && ltb y (2 ^ o)) (position known (list_after ps (record { input = x; output = y }) (sets (get_or known q [])))) 0 (λ n. n ≤ length known)
    (λ e. position_most known (list_after ps (record { input = x; output = y }) (sets (get_or known q [])))) (λ e. omega arith)

move_none : (i o : ℕ) (ps : List Part) (known : List (List ℕ)) (x y : ℕ) → rule_move i o ps known 0 x y ≡ 0
unfolding rule_move
move_none i o ps known x y = refl

move_past : (i o : ℕ) (ps : List Part) (known : List (List ℕ)) (p x y : ℕ) → length known < p → rule_move i o ps known p x y ≡ 0
unfolding rule_move list_after position
move_past i o ps known zero x y l = refl
move_past i o ps known (suc q) x y l =
    let far : length known ≤ q = omega arith in
    rw (get_or-eq_default known [] far) (cond_both (ltb x (2 ^ i) && ltb y (2 ^ o)) 0 0 (λ n. n ≡ 0) (λ e. refl) (λ e. refl))

move_outside : (i o : ℕ) (ps : List Part) (known : List (List ℕ)) (p x y : ℕ) → (ltb x (2 ^ i) && ltb y (2 ^ o)) ≡ false → rule_move i o ps known p x y ≡ 0
unfolding rule_move
move_outside i o ps known zero x y e = refl
move_outside i o ps known (suc q) x y e = cond-false _ _ 0 e

-- a round in range from the position of a known list
move_at : (i o : ℕ) (ps : List Part) (known : List (List ℕ)) (r : Played) (s : Sets) → InRange i o r → Ok known s
    → rule_move i o ps known (position known s) r.input r.output ≡ position known (list_after ps r s)
unfolding rule_move position list_after
move_at i o ps known r too_wide l h = absurd h
move_at i o ps known r (sets []) l h = refl
move_at i o ps known r (sets (x ∷ xs)) l h =
    let (q, n, at) = number_at 0 known (x ∷ xs) h in
    let n' : number_from 1 known (x ∷ xs) ≡ suc q = omega arith in
    let inside = and_from (ltb r.input (2 ^ i)) (ltb r.output (2 ^ o)) (lt-ltb r.input (2 ^ i) l.0) (lt-ltb r.output (2 ^ o) l.1) in
    ap (λ p. rule_move i o ps known p r.input r.output) n'
    ∙ cond-true _ (position known (list_after ps r (sets (get_or known q [])))) 0 inside
    ∙ ap (λ t. position known (list_after ps r (sets t))) at

module _ (i o : ℕ) (ps : List Part) (known : List (List ℕ)) (c : Closed ps (rounds i o) known) where
  -- one move keeps to known lists
  next_ok : (r : Played) → InRange i o r → (s : Sets) → Ok known s → Ok known (list_after ps r s)
  unfolding list_after_all
  next_ok r l s h =
      let all = run_ok ps i o known c (r ∷ []) (l, tt) s h in
      subst (Ok known) (sym all.1) all.2

  leads_ok : (a : Arena) → ((p x y : ℕ) → a.move p x y ≡ rule_move i o ps known p x y) → (rs : List Played) → AllInRange i o rs → (s : Sets) → Ok known s
      → leads a (position known s) rs ≡ position known (list_after_all ps rs s)
  unfolding list_after_all
  leads_ok a m [] l s h = refl
  leads_ok a m (r ∷ rs) l s h =
      ap (λ p. leads a p rs) (m (position known s) r.input r.output ∙ move_at i o ps known r s l.0 h)
      ∙ leads_ok a m rs l.1 (list_after ps r s) (next_ok r l.0 s h)

lists_short : (i o : ℕ) (f : Rule) → length (lists (compiled i o f)) ≤ 255
lists_short i o f = go (compiled i o f) refl
  where
    go : (e : Compiled) → compiled i o f ≡ e → length (lists e) ≤ 255
    go too_large e = omega arith
    go lost_start e = omega arith
    go (wide_at p) e = omega arith
    go too_many e = omega arith
    go (positions known) e = (found i o f known e).short

pub game_sound : (i o : ℕ) (f : Rule) → i ≤ 4 → o ≤ 4 → Sound (game i o f)
unfolding game
game_sound i o f l m = record {
  walks = record {
    few_in = l;
    few_out = m;
    from_lost = λ x y. move_none i o (parts_of f).table (lists (compiled i o f)) x y;
    past_input = λ p x y s. move_outside i o (parts_of f).table (lists (compiled i o f)) p x y (and_left (ltb x (2 ^ i)) (ltb y (2 ^ o)) (le-ltb x (2 ^ i) s));
    past_output = λ p x y s. move_outside i o (parts_of f).table (lists (compiled i o f)) p x y (and_right (ltb x (2 ^ i)) (ltb y (2 ^ o)) (le-ltb y (2 ^ o) s));
  };
  sized = record {
    small = lists_short i o f;
    no_start = λ e. omega arith;
    start_low = λ e. omega arith;
    start_high = omega arith;
    within = λ p x y. move_most i o (parts_of f).table (lists (compiled i o f)) p x y;
    past_size = λ p x y s. move_past i o (parts_of f).table (lists (compiled i o f)) p x y s;
  };
}

-- the first position is that of the start
start_first : (s : Sets) (known : List (List ℕ)) → Is (start s) → Grows (lists (start s)) known → min 1 (length known) ≡ position known s
unfolding position number_from
start_first too_wide known h g = absurd h
start_first (sets []) known h g = absurd h
start_first (sets (x ∷ xs)) known h g =
    let e : known ≡ (x ∷ xs) ∷ g.0 = g.1 in
    subst (λ k. min 1 (length k) ≡ number_from 1 k (x ∷ xs)) (sym e) (omega (arith, cond-true (same_list (x ∷ xs) (x ∷ xs)) 1 (number_from 2 g.0 (x ∷ xs)) (same_list_self (x ∷ xs))))

pub game_right : (i o : ℕ) (f : Rule) (known : List (List ℕ)) → compiled i o f ≡ positions known → (rs : List Played) → AllInRange i o rs
    → (leads (game i o f) (game i o f).start rs ≡ 0) ↔ Fails f rs 0
unfolding game
game_right i o f known e rs l =
    let w = found i o f known e in
    let ps = (parts_of f).table in
    let r = run_ok ps i o known w.closed rs l (start_of f) w.begun in
    let lost = rule_lost_right f rs r.0 w.duties r.1 in
    let k : lists (compiled i o f) ≡ known = ap lists e in
    let at : min 1 (length (lists (compiled i o f))) ≡ position known (start_of f) = ap (λ t. min 1 (length t)) k ∙ start_first (start_of f) known w.first w.grown in
    let path : leads (game i o f) (min 1 (length (lists (compiled i o f)))) rs ≡ position known (sets r.0) =
    ap (λ p. leads (game i o f) p rs) at
    ∙ leads_ok i o ps known w.closed (game i o f) (λ p x y. ap (λ t. rule_move i o ps t p x y) k) rs l (start_of f) w.begun
    ∙ ap (position known) r.1 in
    let zero_is = position_lost known r.0 r.2 in
    (λ z. lost.0 (zero_is.0 (sym path ∙ z)), λ h. path ∙ zero_is.1 (lost.1 h))
