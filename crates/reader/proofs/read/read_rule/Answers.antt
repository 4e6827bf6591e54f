use Rattle.std.proofs.Common.{◌≡◌, ◌-◌, length, replicate, ap, ◌∙◌, arith}
use Rattle.rules.specs.declared.part.Part.TheVariants.{True}
use Rattle.reader.proofs.SizeLaws.{cleared, zeros}
use Rattle.reader.proofs.read.read_rule.Goals as goal

pub returns-in-Ok-clause-reads : goal.returns-in-Ok-clause-reads
returns-in-Ok-clause-reads c room =
    let h = c.in-Ok.ensures in
    cleared _ room h.1 h.2 c.copy_from_slice.ensures.after c.parts-read.ensures.value (omega arith) c.clear.ensures

pub returns-in-Err-clause-reads : goal.returns-in-Err-clause-reads
returns-in-Err-clause-reads c room =
    let store = c.args.parts.now in
    let all : length store - 0 ≡ length store = omega arith in
    (c.in-Err.ensures, zeros store (c.clear-in-Err.ensures ∙ ap (λ n. replicate n True) all))
