-- The chain is followed to the place at, and fewer records are unmarked with each turn.
use Rattle.std.proofs.Common.{ℕ, ◌^◌, ◌<◌, not, List, count_by}
use Rattle.arena.specs.Diagram.{Distinct}
use Rattle.game.specs.Reading.{Marks, Followed}
use Rattle.game.proofs.diagram.Diagram.mark_chain.Given as goal

abbrev pub invariant-loop-p : goal.invariant-loop-p
invariant-loop-p l =
    (l.at < 2 ^ 21)
    × ((qs : List ℕ) → Distinct qs → Marks l.self.shape l.initial.marks qs → Followed l.self.shape l.self.bytes.now l.p qs l.at l.marks)

abbrev pub decreases-loop-p : goal.decreases-loop-p
decreases-loop-p l = count_by not l.marks
