-- The moves that stand before the place are in the table.
use Rattle.std.proofs.Common.{◌+◌, ◌*◌}
use Rattle.game.proofs.MoveLaws.{Filling}
use Rattle.game.proofs.table.MoveTable.of.Given as goal

abbrev pub invariant-loop-p : goal.invariant-loop-p
invariant-loop-p g l = Filling (g.G.Game.meaning l.game) (l.p * 256) l.moves

abbrev pub invariant-loop-x : goal.invariant-loop-x
invariant-loop-x g l = Filling (g.G.Game.meaning l.game) (l.p * 256 + l.x * 16) l.moves

abbrev pub invariant-loop-y : goal.invariant-loop-y
invariant-loop-y g l = Filling (g.G.Game.meaning l.game) (l.p * 256 + l.x * 16 + l.y) l.moves
