use Rattle.std.proofs.Common.{◌≤◌, length, arith}
use Rattle.rules.specs.Parts.{duty_part}
use Rattle.compile.specs.Reads.{none}
use Rattle.compile.proofs.ReadsLaws.{past_covered}
use Rattle.compile.proofs.outline.Outline.duty_mask.Goals as goal

pub returns-else-k-self : goal.returns-else-k-self
returns-else-k-self c =
    let o = c.args.self.now in
    let past : length o.parts.now ≤ duty_part o.parts.now c.args.d = omega (arith, o.outlines.owned c.args.d c.requires, c.if-k-self.false) in
    past_covered o.parts.now o.outlines.falls none _ past
