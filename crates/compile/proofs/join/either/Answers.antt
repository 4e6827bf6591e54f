use Rattle.std.proofs.Common.{◌++◌, sym, ap, ◌∙◌}
use Rattle.rules.specs.Sets.{trim, fit, join_or}
use Rattle.compile.proofs.join.either.Goals as goal

pub returns : goal.returns
unfolding join_or
returns c =
    (λ j. fit (trim (sym c.as_slice-xs.ensures.sets j ++ sym c.as_slice-ys.ensures.sets j)))
    ∙ ap (λ l. fit (trim l)) (sym c.put_both.ensures)
    ∙ c.trimmed.ensures
