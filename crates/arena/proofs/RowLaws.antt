-- Over every row of calls, following the book loses at most one a round, and spoiling it at least one.
use Rattle.std.proofs.Common.{◌≡◌, ℕ, suc, ◌+◌, ◌^◌, ◌<◌, ◌≤◌, eqb, ltb, List, [], ◌∷◌, ◌++◌, length, sym, refl, subst, arith}
use Rattle.std.proofs.lemmas.Bool.{cond_both, ltb-true}
use Rattle.terms.specs.declared.call.Call.{Call}
use Rattle.terms.specs.declared.call.Call.TheVariants.{Open, Set, Close, Abandon, AskPosition, AskCount, AskSpoiling}
use Rattle.arena.specs.Arena.{Arena, Sound}
use Rattle.terms.specs.Order.{AtMost, plus}
use Rattle.arena.specs.Values.{Values}
use Rattle.arena.specs.Tally.{Played, Tally, between, during, closed, leads, after, tallied, tally}
use Rattle.arena.specs.Rows.{Following, Spoiled, LosesAtMost, LosesAtLeast}
use Rattle.terms.proofs.OrderLaws.{at_most_refl, at_most_trans, plus_none, plus_plus, plus_at_most}
use Rattle.arena.proofs.ValueLaws.{answer_costs, spoils_costs}

-- each round had an input that exists
abbrev pub ProperInputs : Arena → List Played → Type 0
ProperInputs a [] = Unit {0}
ProperInputs a (r ∷ rs) = (r.input < 2 ^ a.inputs) × ProperInputs a rs

abbrev Fair : Arena → Tally → Type 0
Fair a (between rs) = ProperInputs a rs
Fair a (during rs x y) = ProperInputs a rs × (x < 2 ^ a.inputs)

inputs_more : (a : Arena) (rs : List Played) (r : Played) → ProperInputs a rs → r.input < 2 ^ a.inputs → ProperInputs a (rs ++ r ∷ [])
inputs_more a [] r h l = (l, tt)
inputs_more a (q ∷ rs) r h l = (h.0, inputs_more a rs r h.1 l)

-- one round more leads one move further
pub leads_more : (a : Arena) (p : ℕ) (rs : List Played) (r : Played) → leads a p (rs ++ r ∷ []) ≡ a.move (leads a p rs) r.input r.output
leads_more a p [] r = refl
leads_more a p (q ∷ rs) r = leads_more a _ rs r

pub leads_within : (a : Arena) → Sound a → (p : ℕ) (rs : List Played) → p ≤ a.size → leads a p rs ≤ a.size
leads_within a s p [] h = h
leads_within a s p (r ∷ rs) h = leads_within a s _ rs (s.sized.within p _ _)

module _ {a : Arena} (s : Sound a) (v : Values a) where
  fair_after : (c : Call) (t : Tally) → Fair a t → Fair a (after v c t)
  fair_after (Open x) (between rs) h =
      let p = leads a a.start rs in
      cond_both (eqb p 0) (between rs) _ (Fair a) (λ _. h)
      (λ _. cond_both (ltb x (2 ^ a.inputs)) (during rs x (v.answer p x)) (between rs) (Fair a) (λ l. (h, ltb-true x _ l)) (λ _. h))
  fair_after (Open x) (during rs z y) h = h
  fair_after (Set y) (between rs) h = h
  fair_after (Set y) (during rs x z) h = cond_both (ltb y (2 ^ a.outputs)) (during rs x y) (during rs x z) (Fair a) (λ _. h) (λ _. h)
  fair_after Close (between rs) h = h
  fair_after Close (during rs x y) h = inputs_more a rs _ h.0 h.1
  fair_after Abandon (between rs) h = h
  fair_after Abandon (during rs x y) h = h.0
  fair_after AskPosition t h = h
  fair_after AskCount t h = h
  fair_after AskSpoiling t h = h

  fair_row : (row : List Call) (t : Tally) → Fair a t → Fair a (tallied v row t)
  fair_row [] t h = h
  fair_row (c ∷ cs) t h = fair_row cs (after v c t) (fair_after c t h)

  fair_closed : (t : Tally) → Fair a t → ProperInputs a (closed t)
  fair_closed (between rs) h = h
  fair_closed (during rs x y) h = h.0

  following_counts : (p : ℕ) (rs : List Played) → ProperInputs a rs → Following v p rs → AtMost (v.count p) (plus (v.count (leads a p rs)) (length rs))
  following_counts p [] h b = rw plus_none (at_most_refl (v.count p))
  following_counts p (r ∷ rs) h b =
      let q = a.move p r.input r.output in
      let e : length rs + 1 ≡ suc (length rs) = omega arith in
      let one : AtMost (v.count p) (plus (v.count q) 1) = subst (λ y. AtMost (v.count p) (plus (v.count (a.move p r.input y)) 1)) (sym b.0) (answer_costs v p r.input h.0) in
      let rest = plus_at_most _ _ 1 (following_counts q rs h.1 b.1) in
      subst (λ c. AtMost (v.count p) (plus (v.count (leads a q rs)) c)) e (at_most_trans _ _ _ one (rw plus_plus at rest))

  spoiled_counts : (p : ℕ) (rs : List Played) → Spoiled v p rs → AtMost (plus (v.count (leads a p rs)) (length rs)) (v.count p)
  spoiled_counts p [] b = rw plus_none (at_most_refl (v.count p))
  spoiled_counts p (r ∷ rs) b =
      let q = a.move p r.input r.output in
      let e : length rs + 1 ≡ suc (length rs) = omega arith in
      let one = spoils_costs v s p r.input r.output b.0 in
      let rest = plus_at_most _ _ 1 (spoiled_counts q rs b.1) in
      subst (λ c. AtMost (plus (v.count (leads a q rs)) c) (v.count p)) e (at_most_trans _ _ _ (rw plus_plus at rest) one)

  pub loses_at_most : (row : List Call) → LosesAtMost v row
  loses_at_most row b = following_counts a.start (closed (tally v row)) (fair_closed (tally v row) (fair_row row (between []) tt)) b

  pub loses_at_least : (row : List Call) → LosesAtLeast v row
  loses_at_least row b = spoiled_counts a.start (closed (tally v row)) b
