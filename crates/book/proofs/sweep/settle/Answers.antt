use Rattle.std.proofs.Common.{rules, suc, arith}
use Rattle.arena.specs.Held.{Settled}
use Rattle.book.specs.Ranks.{Ranks}
use Rattle.book.proofs.RankLaws.{settled_counts}
use Rattle.book.proofs.sweep.settle.Goals as goal

pub invariant_of-result : goal.invariant_of-result
invariant_of-result g c =
    let a = g.G.Game.meaning c.args.game.now in
    let over : Settled a c.loop-k.k = search rules in
    let ranks : Ranks a (suc c.loop-k.k) c.sweep.new.self.ranks = search rules in
    record {
      low = omega arith;
      within = λ q. omega (arith, (ranks q).most);
      counts = settled_counts a c.loop-k.k c.sweep.new.self.ranks over ranks;
    }
