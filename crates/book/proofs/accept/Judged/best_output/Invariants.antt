use Rattle.std.proofs.Common.{◌≡◌}
use Rattle.terms.specs.Order.{Most}
use Rattle.book.specs.Told.{count_in}
use Rattle.book.proofs.accept.Judged.best_output.Given as goal

abbrev pub invariant-loop-y : goal.invariant-loop-y
invariant-loop-y g l =
    Most l.y (λ z. count_in l.self.book.now ((g.G.Game.meaning l.self.game.now).move l.p l.x z)) l.best
    × (l.high ≡ count_in l.self.book.now ((g.G.Game.meaning l.self.game.now).move l.p l.x l.best))
