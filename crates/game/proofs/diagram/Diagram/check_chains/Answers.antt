-- The lowest record without a mark refuses the image.
use Rattle.std.proofs.Common.{sym, refl, ◌∙◌, arith}
use Rattle.std.proofs.lemmas.Bool.{true≢false}
use Rattle.arena.specs.Diagram.{Refused}
use Rattle.game.proofs.ReadingLaws.{missed_refused}
use Rattle.game.proofs.diagram.Diagram.check_chains.Goals as goal

pub returns-then-not-marks-r : goal.returns-then-not-marks-r
returns-then-not-marks-r c =
    let d = c.args.self.now in
    Refused.unreached _ refl (missed_refused d.shape d.bytes.now d.fielded d.headed c.in_ok-marks.marks c.loop-r.r c.record_at.result c.in_ok-marks.ensures
    (((omega arith, omega arith), c.if-not-marks-r.true), λ j l w. true≢false (sym (c.loop-r.invariant j w.0.0 l) ∙ w.1)) c.record_at.ensures.0)
