use Rattle.std.proofs.Common.{rules, ◌-◌, ◌+◌, ◌∙◌, arith}
use Rattle.std.proofs.lemmas.List.{length-take-le}
use Rattle.book.proofs.RankLaws.{begun, zeros, all_zero}
use Rattle.book.proofs.sweep.Sweeps.begin.Goals as goal

pub returns-clause-ranks : goal.returns-clause-ranks
returns-clause-ranks g c =
    let m = c.size.result + 1 - 1 in
    begun _ c.fill.new.self (zeros 255) _ m (c.fill.ensures.after (search rules)) (length-take-le m (zeros 255) (omega arith) ∙ omega arith) (all_zero 255)
