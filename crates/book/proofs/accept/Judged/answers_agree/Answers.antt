use Rattle.std.proofs.Common.{rules, refl}
use Rattle.book.proofs.RunLaws.{all_below}
use Rattle.book.proofs.accept.Judged.answers_agree.Goals as goal

pub returns : goal.returns
returns g c = all_below c.all.ensures.runs refl (search rules) (λ x r t. search rules)
