use Rattle.std.proofs.Common.{rules, ◌∙◌}
use Rattle.book.proofs.RunLaws.{all_from_one}
use Rattle.book.proofs.accept.Judged.records_agree.Goals as goal

pub returns : goal.returns
returns g c = all_from_one c.all.ensures.runs c.new.ensures.exhausted c.new.ensures.start (c.new.ensures.end ∙ c.size.ensures) (search rules) (λ p r t. search rules)
