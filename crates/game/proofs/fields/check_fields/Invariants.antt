-- The fields before the record r are right.
use Rattle.arena.specs.Diagram.{record_at}
use Rattle.game.specs.Reading.{RightBelow}
use Rattle.game.proofs.fields.check_fields.Given as goal

abbrev pub invariant-loop-r : goal.invariant-loop-r
invariant-loop-r l = RightBelow l.shape l.bytes (record_at l.shape l.r)
