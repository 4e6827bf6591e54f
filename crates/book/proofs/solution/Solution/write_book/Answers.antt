use Rattle.std.proofs.Common.{refl, arith}
use Rattle.book.proofs.WriteLaws.{written_more, book_from}
use Rattle.book.proofs.solution.Solution.write_book.Goals as goal

pub loop-p-preserved : goal.loop-p-preserved
loop-p-preserved g c = written_more refl (omega arith) (omega arith) (omega arith) c.write_record.ensures c.loop-p.invariant

pub returns-2 : goal.returns-2
returns-2 g c = book_from (omega arith) (omega arith) (written_more refl (omega arith) (omega arith) (omega arith) c.write_record.ensures c.loop-p.invariant)
