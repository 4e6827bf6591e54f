-- The chains of the positions below p are whole.
use Rattle.std.proofs.Common.{◌-◌}
use Rattle.game.specs.Reading.{ChainsWhole}
use Rattle.game.proofs.diagram.Diagram.reached.Given as goal

abbrev pub invariant-loop-p : goal.invariant-loop-p
invariant-loop-p l = ChainsWhole l.self.shape l.self.bytes.now (l.p - 1) l.marks
