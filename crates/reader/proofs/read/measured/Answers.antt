use Rattle.std.proofs.Common.{[], subst}
use Rattle.reader.specs.Entries.{Enters}
use Rattle.reader.proofs.SizeLaws.{fits, large}
use Rattle.reader.proofs.read.measured.Goals as goal

pub returns-then-duties-gt-MOST_DUTIES : goal.returns-then-duties-gt-MOST_DUTIES
returns-then-duties-gt-MOST_DUTIES c f h =
    large f (subst (Enters [] f c.args.table.now) c.in_ok-root.ensures.ok_part h) c.parts-parts.ensures.value c.count_duties-duties.ensures c.if-duties-gt-MOST_DUTIES.true

pub returns : goal.returns
returns c f h =
    fits f (subst (Enters [] f c.args.table.now) c.in_ok-root.ensures.ok_part h) c.parts-parts.ensures.value c.count_duties-duties.ensures c.if-duties-gt-MOST_DUTIES.false c.parts-parts.ensures.few
