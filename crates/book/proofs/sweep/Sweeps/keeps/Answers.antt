use Rattle.std.proofs.Common.{rules}
use Rattle.book.proofs.RunLaws.{all_below}
use Rattle.book.proofs.sweep.Sweeps.keeps.Goals as goal

pub returns : goal.returns
returns g c = all_below c.all.ensures.runs c.input_count.ensures.0 (search rules) (λ x r t. search rules)
