use Rattle.std.proofs.Common.{sym, arith}
use Rattle.game.proofs.MoveLaws.{input_outside, output_outside}
use Rattle.game.proofs.table.MoveTableGame.step.Goals as goal
use Rattle.game.proofs.table.MoveTableGame.step.Goals.{then-x-ge16-via-then-x-ge16, then-x-ge16-via-else-x-ge16+then-y-ge16}

pub returns-then-x-ge16 : goal.returns-then-x-ge16
returns-then-x-ge16 g c =
    let walks = (g.G.Game.sound c.args.self.now.game.now).walks in
    elim c.then-x-ge16.branch [
      | then-x-ge16-via-then-x-ge16 w ↦ sym (input_outside _ walks c.args.p c.args.x c.args.y (omega arith))
      | then-x-ge16-via-else-x-ge16+then-y-ge16 w ↦ sym (output_outside _ walks c.args.p c.args.x c.args.y (omega arith))
    ]
