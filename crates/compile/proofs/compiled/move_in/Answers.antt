-- What the store has no entry for is lost.
use Rattle.std.proofs.Common.{◌-◌, ◌≤◌, length, sym, arith}
use Rattle.std.proofs.lemmas.Bool.Decides.{nat_tests}
use Rattle.compile.proofs.TableGameLaws.{no_entry}
use Rattle.compile.proofs.compiled.move_in.Goals as goal

pub returns-in_default : goal.returns-in_default
returns-in_default c =
    let h = c.in_default.ensures.lookup in
    let past : length c.args.positions.now ≤ c.args.p - 1 = grind (arith, nat_tests) in
    sym (no_entry c.args.outputs c.args.positions.now c.args.p c.args.turn.input c.args.turn.output past)
