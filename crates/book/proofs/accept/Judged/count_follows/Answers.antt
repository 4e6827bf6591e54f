use Rattle.std.proofs.Common.{sym, ◌∙◌}
use Rattle.book.proofs.AcceptLaws.{unlimited_decides, flag_none}
use Rattle.book.proofs.accept.Judged.count_follows.Goals as goal

pub returns-in-None : goal.returns-in-None
returns-in-None g c = rw (flag_none _ _ (sym c.spoiling_told.ensures ∙ c.in-None.is)) (unlimited_decides c.worst_input-x.ensures c.answer_count-low.ensures c.eq.ensures)
