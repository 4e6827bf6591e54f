-- Each position goes on from what those before it left.
use Rattle.std.proofs.Common.{sym, ap, ◌∙◌, arith}
use Rattle.rules.specs.Explore.{explore}
use Rattle.compile.specs.Positions.{reason}
use Rattle.compile.specs.Charting.{known_in}
use Rattle.compile.proofs.StoreLaws.{known_count}
use Rattle.compile.proofs.GivenLaws.{err_is}
use Rattle.compile.proofs.ChartLaws.{chart_done}
use Rattle.compile.proofs.ExploreLaws.{explore_more, explore_done, explore_stuck}
use Rattle.compile.proofs.explore.Explorer.explore_all.Goals as goal

pub returns-in_err-explore_position-clause-explores : goal.returns-in_err-explore_position-clause-explores
returns-in_err-explore_position-clause-explores c =
    let s = c.args.self.now.signals in
    let inv = c.loop-p.invariant in
    let leaves = rw (inv.signals, inv.parts) at c.in_err-explore_position.ensures.leaves in
    rw (err_is _ c.from_residual.ensures.1) (ap reason (inv.left ∙ explore_more _ s.inputs s.outputs _ _ _ inv.chart.stored c.loop-p-test.true ∙ explore_stuck _ _ _ _ _ _ leaves) ∙ leaves)

pub loop-p-preserved : goal.loop-p-preserved
loop-p-preserved c =
    let s = c.args.self.now.signals in
    let inv = c.loop-p.invariant in
    let leaves = rw (inv.signals, inv.parts) at c.in_ok-explore_position.ensures.leaves in
    record {
      chart = leaves.1;
      left = inv.left ∙ explore_more _ s.inputs s.outputs _ _ _ inv.chart.stored c.loop-p-test.true ∙ ap (explore _ _ _ _) leaves.0;
      parts = c.explore_position.ensures.rule.0 ∙ inv.parts;
      signals = c.explore_position.ensures.rule.1 ∙ inv.signals;
      lender = c.explore_position.ensures.lender ∙ inv.lender;
    }

pub returns-clause-explores : goal.returns-clause-explores
returns-clause-explores c =
    let at = c.loop-p.found in
    let inv = c.loop-p.invariant in
    let known = known_in at.used at.store.now in
    let count = known_count at.used at.store.now (omega (arith, inv.chart.stored.room, inv.chart.stored.long)) in (
      known,
      inv.left ∙ explore_done _ _ _ _ known (omega (arith, c.loop-p-test.false)),
      sym count,
      chart_done _ _ _ _ _ _ c.loop-p-test.false inv.chart,
    )
