use Rattle.std.proofs.Common.{rules}
use Rattle.terms.proofs.BestLaws.{best_once}
use Rattle.book.proofs.CountPicks.{most_of}
use Rattle.book.proofs.solution.Solution.answer.Goals as goal

pub returns : goal.returns
returns g c v = best_once (most_of c.output_count.ensures.0 c.least.ensures (λ y r l t. search rules)) (v.answers _ _ c.requires.place c.requires.input)
