use Rattle.std.proofs.Common.{rules}
use Rattle.book.proofs.RunLaws.{any_below}
use Rattle.book.proofs.sweep.Sweeps.is_answered.Goals as goal

pub returns : goal.returns
returns g c = any_below c.any.ensures.runs c.output_count.ensures.0 (search rules) (λ y r t. search rules)
