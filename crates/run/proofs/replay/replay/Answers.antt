use Rattle.std.proofs.Common.{get_or, take, refl, sym, ◌∙◌, arith, take_all}
use Rattle.std.proofs.lemmas.List.{take_more}
use Rattle.std.proofs.lemmas.Result.{err_from_is_err_and}
use Rattle.terms.specs.declared.call.Call.TheVariants.{Open}
use Rattle.arena.specs.Tally.{tally}
use Rattle.run.proofs.StepLaws.{stands_next, reached_more, reached_all, not_made, made_kept}
use Rattle.run.proofs.replay.replay.Goals as goal

pub loop-i-init : goal.loop-i-init
loop-i-init g c = λ v book. let e = c.in_ok-start.ensures.made (v, book) in record { stage = cc; written = refl }

pub loop-i-preserved : goal.loop-i-preserved
loop-i-preserved g c = λ v book.
    let row = c.args.row.now in
    reached_more _ (g.G.Game.sound c.args.play.now.game.now) v _ book row c.args.steps.now c.loop-i.i (get_or row c.loop-i.i (Open 0)) c.loop-i.stage _ c.loop-i.steps _ _ c.loop-i-test.true (omega arith) (take_more row c.loop-i.i (Open 0) c.loop-i-test.true) (c.loop-i.invariant v book) c.take-next.ensures.after c.take-next.ensures.told (sym c.in-Ok.is ∙ c.standing.ensures)

pub returns-in_err-start : goal.returns-in_err-start
returns-in_err-start g c =
    let p = err_from_is_err_and c.from_residual.result c.from_residual.ensures.1 in
    rw (p.1, p.2) (not_made _ _ c.args.row.now c.args.steps.now _ (omega arith) c.in_err-start.ensures)

pub returns-in-Err : goal.returns-in-Err
returns-in-Err g c =
    made_kept _ _ c.args.row.now c.args.steps.now c.loop-i.steps _ _ (omega arith) c.in_ok-start.ensures
    (λ v book.
    let row = c.args.row.now in
    let stood = stands_next _ (g.G.Game.sound c.args.play.now.game.now) v _ book (get_or row c.loop-i.i (Open 0)) (tally v (take c.loop-i.i row)) c.loop-i.stage _ c.standing.result (c.loop-i.invariant v book).stage c.take-next.ensures.after c.standing.ensures in
    let refused = c.in-Err.is in absurd (cc))

pub returns : goal.returns
returns g c =
    let row = c.args.row.now in
    made_kept _ _ row c.args.steps.now c.loop-i.steps _ _ (omega arith) c.in_ok-start.ensures
    (λ v book.
    reached_all _ (g.G.Game.sound c.args.play.now.game.now) v _ book row c.args.steps.now c.loop-i.i c.loop-i.stage c.loop-i.steps _ (omega arith) (take_all c.loop-i.i row c.loop-i-test.false) (c.loop-i.invariant v book) c.finish-2.ensures)
