use Rattle.std.proofs.Common.{◌∙◌}
use Rattle.terms.specs.Lists.{same_list}
use Rattle.compile.specs.Positions.{same_position}
use Rattle.compile.proofs.PositionLaws.{matched}
use Rattle.compile.proofs.position.PositionSame.same_as.Goals as goal

pub returns : goal.returns
unfolding same_position
returns c = matched c.as_slice.result.now c.as_slice-2.result.now _ c.eq.ensures ∙ (λ j. same_list (c.as_slice.ensures.sets j) (c.as_slice-2.ensures.sets j))
