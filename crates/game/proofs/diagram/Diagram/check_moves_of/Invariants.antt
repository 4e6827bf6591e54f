-- The chain is met to the place at, and fewer moves are unmarked with each turn.
use Rattle.std.proofs.Common.{◌≡◌, ◌^◌, ◌<◌, not, length, count_by}
use Rattle.game.specs.Reading.{Met}
use Rattle.game.proofs.diagram.Diagram.check_moves_of.Given as goal

abbrev pub invariant-loop-record : goal.invariant-loop-record
invariant-loop-record l =
    (l.at < 2 ^ 21) × (length l.marks ≡ 256) × Met l.self.shape l.self.bytes.now l.p l.at l.marks

abbrev pub decreases-loop-record : goal.decreases-loop-record
decreases-loop-record l = count_by not l.marks
