use Rattle.std.proofs.Common.{sym, ap, ◌∙◌}
use Rattle.rules.specs.Sets.{trim, fit, join_and}
use Rattle.compile.proofs.join.both_in.Goals as goal

pub returns : goal.returns
unfolding join_and
returns c = ap (λ l. fit (trim l)) (sym c.put_unions.ensures) ∙ c.trimmed.ensures
