use Rattle.arena.specs.Values.{Values}
use Rattle.arena.specs.Book.{Book}
use Rattle.run.proofs.StepLaws.{Reached}
use Rattle.run.proofs.replay.replay.Given as goal

abbrev pub invariant-loop-i : goal.invariant-loop-i
invariant-loop-i g l =
    let a = g.G.Game.meaning l.play.game.now in
    (v : Values a) → Book a v l.play.book.now → Reached v l.row l.initial.steps l.i l.stage l.steps
