use Rattle.std.proofs.Common.{sym, ◌∙◌, eqb-true, arith}
use Rattle.compile.specs.Played.{played}
use Rattle.compile.proofs.AlikeLaws.{hidden}
use Rattle.compile.proofs.mask.Mask.hides.Goals as goal

pub returns-then-one-other-clause-agrees : goal.returns-then-one-other-clause-agrees
returns-then-one-other-clause-agrees c e =
    let one = c.shown-one.ensures in
    let other = c.shown-other.ensures in
    hidden c.args.self (played c.args.a) (played c.args.b) (omega arith, omega arith) (omega arith, omega arith)
    (sym one.0 ∙ c.if-one-other.true ∙ other.0)
    (sym one.1 ∙ eqb-true c.shown-one.result.output c.shown-other.result.output e ∙ other.1)
