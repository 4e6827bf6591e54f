-- The chains of the positions below p repeat no move.
use Rattle.std.proofs.Common.{◌-◌}
use Rattle.game.specs.Reading.{ChainsFresh}
use Rattle.game.proofs.diagram.Diagram.check_moves.Given as goal

abbrev pub invariant-loop-p : goal.invariant-loop-p
invariant-loop-p l = ChainsFresh l.self.shape l.self.bytes.now (l.p - 1)
