-- Positions are the same where their lists are equal: the law by which positions are entries of a register.
-- same_position_decides: sameness of positions decides whether their lists are equal.
use Rattle.std.specs.Prelude.{◌≡◌, Decides}
use Rattle.terms.proofs.ListLaws.{same_list_decides}
use Rattle.compile.specs.declared.position.Position.{Position}
use Rattle.compile.specs.Positions.{same_position}

-- sameness of positions is that of their lists
pub same_position_decides : (x y : Position) → Decides (same_position x y) (x.list ≡ y.list)
unfolding same_position
same_position_decides x y = same_list_decides x.list y.list
