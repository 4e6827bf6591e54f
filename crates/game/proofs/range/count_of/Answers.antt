use Rattle.std.proofs.Common.{◌^◌, ◌≤◌, arith, pow_mono}
use Rattle.game.proofs.range.count_of.Goals as goal

pub returns : goal.returns
returns c =
    let most : 2 ^ c.args.bits ≤ 2 ^ 4 = pow_mono c.requires in
    (omega arith, omega arith)
