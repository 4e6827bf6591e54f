use Rattle.std.proofs.Common.{rules, arith}
use Rattle.book.specs.Ranks.{Filled}
use Rattle.book.proofs.WriteLaws.{each_from_fn, answer_bytes_from}
use Rattle.book.proofs.solution.Solution.answers.Goals as goal

pub returns : goal.returns
returns g c v =
    let made = c.from_fn.ensures.items in
    answer_bytes_from (g.G.Game.sound c.args.self.now.game.now) c.args.p c.from_fn.result made.long (λ x l. each_from_fn _ _ c.from_fn.result (Filled v c.args.p) (λ y r q k. (search rules, search rules)) 0 16 made.each x 0 (omega arith) l)
