use Rattle.std.proofs.Common.{◌≡◌}
use Rattle.terms.specs.Order.{Least}
use Rattle.book.specs.Told.{answer_told, count_in}
use Rattle.book.proofs.accept.Judged.worst_input.Given as goal

abbrev pub invariant-loop-x : goal.invariant-loop-x
invariant-loop-x g l =
    Least l.x (λ z. count_in l.self.book.now ((g.G.Game.meaning l.self.game.now).move l.p z (answer_told l.self.book.now l.p z))) l.worst
    × (l.low ≡ count_in l.self.book.now ((g.G.Game.meaning l.self.game.now).move l.p l.worst (answer_told l.self.book.now l.p l.worst)))
