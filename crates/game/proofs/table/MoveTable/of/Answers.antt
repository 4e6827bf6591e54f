-- A turn adds the move of its place; what no turn asks is lost, and after the last position the table is whole.
use Rattle.std.proofs.Common.{refl}
use Rattle.game.proofs.MoveLaws.{filling_none, past_lost}
use Rattle.game.proofs.table.MoveTable.of.Goals as goal

pub loop-p-init : goal.loop-p-init
loop-p-init g c =
    let a = g.G.Game.meaning c.args.game.now in
    past_lost a _ (g.G.Game.sound c.args.game.now).walks (filling_none a 65536 refl)
