use Rattle.arena.specs.Values.{Values}
use Rattle.arena.specs.Book.{Book}
use Rattle.calls.proofs.RowLaws.{Reached}
use Rattle.calls.proofs.row.replay.Given as goal

abbrev pub invariant-loop-i : goal.invariant-loop-i
invariant-loop-i g l =
    let a = g.G.Game.meaning l.play.game.now in
    (v : Values a) → Book a v l.play.book.now → Reached v l.row l.initial.answers l.i l.stage l.answers
