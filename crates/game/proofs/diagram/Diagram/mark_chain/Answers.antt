-- A turn follows one record more, or finds the end or a wrong index.
use Rattle.std.proofs.Common.{◌<◌, ◌≤◌, length, arith}
use Rattle.game.proofs.ReadingLaws.{followed_more}
use Rattle.game.proofs.diagram.Diagram.mark_chain.Goals as goal

pub loop-p-preserved : goal.loop-p-preserved
loop-p-preserved c =
    let low : 1 ≤ c.word_at-r.result = omega arith in
    let within : c.word_at-r.result < length c.loop-p.marks = omega arith in (
      omega arith,
      λ qs d m. followed_more _ _ _ qs c.loop-p.marks c.loop-p.at c.word_at-r.result _ (c.loop-p.invariant.1 qs d m) c.word_at-r.ensures (low, c.if-r-self.false) within c.if-marks-r.false (omega arith),
    )
