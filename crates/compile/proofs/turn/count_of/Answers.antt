-- Four signals have sixteen values.
use Rattle.std.proofs.Common.{◌≡◌, ◌*◌, ◌%◌, ◌^◌, ◌<◌, ◌≤◌, ◌∙◌, mod-eq_of_lt, arith, pow_mono}
use Rattle.compile.proofs.turn.count_of.Goals as goal

pub returns : goal.returns
returns c =
    let most : 2 ^ c.args.signals ≤ 2 ^ 4 = pow_mono c.requires in
    let small : 1 * 2 ^ c.args.signals < 18446744073709551616 = omega arith in
    let is : (1 * 2 ^ c.args.signals) % 18446744073709551616 ≡ 2 ^ c.args.signals = mod-eq_of_lt small ∙ omega arith in
    (is, omega arith)
