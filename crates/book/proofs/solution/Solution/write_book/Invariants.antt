use Rattle.book.proofs.WriteLaws.{Written}
use Rattle.book.proofs.solution.Solution.write_book.Given as goal

abbrev pub invariant-loop-p : goal.invariant-loop-p
invariant-loop-p g l = Written (g.G.Game.meaning l.self.game.now) l.p l.book
