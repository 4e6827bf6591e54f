use Rattle.std.proofs.Common.{rules}
use Rattle.book.proofs.CountPicks.{least_of}
use Rattle.book.proofs.solution.Solution.worst_input.Goals as goal

pub returns : goal.returns
returns g c v = least_of c.input_count.ensures.0 c.least.ensures (λ x r l t. search rules)
