-- Each round goes on from what those before it left.
use Rattle.std.proofs.Common.{◌≡◌, ℕ, suc, ◌+◌, ◌*◌, ◌^◌, ◌<◌, ◌≤◌, max, List, get_or, drop, Some, Ok, fold, sym, refl, ap, ◌∙◌, subst, ap₂, mul-le-mul, arith}
use Rattle.std.proofs.lemmas.List.{get_or_default}
use Rattle.terms.specs.declared.refusal.Refusal.{Refusal}
use Rattle.rules.specs.declared.part.Part.{Part}
use Rattle.rules.specs.Sets.{sets}
use Rattle.rules.specs.Progress.{list_after}
use Rattle.rules.specs.Explore.{Compiled, positions, met, move, rounds}
use Rattle.compile.specs.declared.position.Position.{Position}
use Rattle.compile.specs.Positions.{unused, reason}
use Rattle.compile.specs.Reads.{Covers}
use Rattle.compile.specs.Charting.{known_in, list_next, Charting, Goes}
use Rattle.compile.specs.Progressing.{rule}
use Rattle.compile.proofs.GivenLaws.{err_is}
use Rattle.compile.proofs.StoreLaws.{in_store}
use Rattle.compile.proofs.ChartLaws.{chart_more, chart_next, list_kept}
use Rattle.compile.proofs.ExploreLaws.{moves_step, moves_done, moves_stuck}
use Rattle.compile.proofs.explore.Explorer.explore_position.Goals as goal
use Rattle.compile.proofs.explore.Explorer.explore_position.Goals.{After-count_of-2}

module _ (i o : ℕ) (ps : List Part) (p : ℕ) where
  -- what the rounds from t on come to
  abbrev rest : ℕ → ℕ → List Position → Compiled
  rest used t store = fold (move ps (suc p) (get_or store p unused).list) (positions (known_in used store)) (drop t (rounds i o))

  module _ (used t : ℕ) (store : List Position) {e : Compiled} (lt : t < 2 ^ i * 2 ^ o) (left : e ≡ rest used t store) where
    -- a round that leads nowhere says why
    stopped : {r : Refusal} → reason (met (suc p) (known_in used store) (list_next o ps p t store)) ≡ Some r → reason e ≡ Some r
    stopped goes = ap reason (left ∙ moves_step ps i o p t _ _ lt ∙ moves_stuck ps (suc p) (get_or store p unused).list (drop (t + 1) (rounds i o)) _ _ goes) ∙ goes

    -- a round more leaves those behind it
    gone_on : (used' : ℕ) (after : List Position) → Charting (2 ^ i * 2 ^ o) o ps used p t store → p < used → t < 256 → Goes o ps used p t store used' after (Ok tt) → (Charting (2 ^ i * 2 ^ o) o ps used' p (t + 1) after) × ((e ≡ rest used' (t + 1) after) × ((get_or after p unused).list ≡ (get_or store p unused).list))
    gone_on used' after chart inside few (n, is, round) =
        let kept = list_kept _ o ps used p t store after n chart inside few round in
        let behind = drop (t + 1) (rounds i o) in
        rw is (
          chart_more _ o ps used p t store after n chart inside few round,
          (
            left
                ∙ moves_step ps i o p t _ _ lt
                ∙ ap (λ f. fold (move ps (suc p) (get_or store p unused).list) f behind) round.is
                ∙ ap (λ s. fold (move ps (suc p) s) (positions (known_in (max used n) after)) behind) (sym kept),
            kept,
          ),
        )

-- how many rounds there are
count : (c : After-count_of-2) → c.count_of.result * c.count_of-2.result ≡ 2 ^ c.args.self.now.signals.inputs * 2 ^ c.args.self.now.signals.outputs
count c = ap₂ (λ x y. x * y) c.count_of.ensures.0 c.count_of-2.ensures.0

pub loop-t-init : goal.loop-t-init
loop-t-init c =
    let store = c.args.found.now.store.now in
    let inside = in_store _ _ store c.requires.0.stored c.requires.1 in
    record {
      chart = c.requires.0;
      left = refl;
      inside = c.requires.1;
      covers = subst (λ (e : Position). Covers c.list_mask-mask.result (λ r. list_after (rule c.args.self.now.progress) r (sets e.list))) (get_or_default store c.args.p _ unused inside) c.list_mask-mask.ensures;
      parts = refl;
      signals = refl;
      lender = refl;
    }

pub returns-in_err-explore_round-clause-leaves : goal.returns-in_err-explore_round-clause-leaves
returns-in_err-explore_round-clause-leaves c =
    let inv = c.loop-t.invariant in
    let s = c.args.self.now.signals in
    let n = count (goal.at.returns-in_err-explore_round-clause-leaves c).After-count_of-2 in
    rw (err_is _ c.from_residual.ensures.1) (stopped s.inputs s.outputs _ c.args.p c.loop-t.found.used c.loop-t.t c.loop-t.found.store.now (omega (arith, c.loop-t-test.true)) inv.left (rw (inv.signals, inv.parts) at c.in_err-explore_round.ensures.goes))

pub loop-t-preserved : goal.loop-t-preserved
loop-t-preserved c =
    let inv = c.loop-t.invariant in
    let s = c.args.self.now.signals in
    let n = count (goal.at.loop-t-preserved c).After-count_of-2 in
    let most : c.count_of.result * c.count_of-2.result ≤ 16 * 16 = mul-le-mul c.count_of.ensures.1 c.count_of-2.ensures.1 in
    let on = gone_on s.inputs s.outputs _ _ _ c.loop-t.t _ (omega (arith, c.loop-t-test.true)) inv.left _ c.explore_round.new.found.store.now inv.chart inv.inside (omega (arith, c.loop-t-test.true)) (rw (inv.signals, inv.parts) at c.in_ok-explore_round.ensures.goes) in
    record {
      chart = on.0;
      left = on.1.0;
      inside = omega (arith, c.in_ok-explore_round.ensures.goes.1, inv.inside);
      covers = subst (λ (xs : List ℕ). Covers c.list_mask-mask.result (λ r. list_after (rule c.args.self.now.progress) r (sets xs))) (sym on.1.1) inv.covers;
      parts = c.explore_round.ensures.rule.0 ∙ inv.parts;
      signals = c.explore_round.ensures.rule.1 ∙ inv.signals;
      lender = c.explore_round.ensures.lender ∙ inv.lender;
    }

pub returns-clause-leaves : goal.returns-clause-leaves
returns-clause-leaves c =
    let inv = c.loop-t.invariant in
    let s = c.args.self.now.signals in
    let n = count (goal.at.returns-clause-leaves c).After-count_of-2 in
    let all : c.loop-t.t ≡ 2 ^ s.inputs * 2 ^ s.outputs = omega (arith, c.loop-t-test.false, c.loop-t.auto.t-end) in (
      inv.left ∙ moves_done _ s.inputs s.outputs _ _ _ _ (omega arith),
      chart_next _ _ _ _ _ _ (rw all at inv.chart),
    )
