-- Each move is a position or lost, and a question in range says that there are positions.
use Rattle.std.proofs.Common.{◌≤◌, arith}
use Rattle.std.proofs.lemmas.Bool.Decides.{nat_tests}
use Rattle.arena.specs.Arena.{beyond}
use Rattle.arena.specs.Pair.{product}
use Rattle.game.proofs.PairLaws.{joint_fits}
use Rattle.game.proofs.pair.PairGame.step.Goals as goal

pub joint_of-requires : goal.joint_of-requires
unfolding beyond
joint_of-requires g c =
    let a = g.A.Game.meaning c.args.self.now.first in
    let b = g.B.Game.meaning c.args.self.now.second in
    let low : 1 ≤ product a.size b.size = grind (arith, nat_tests) in
    let s : c.low_step-a.result ≤ a.size = omega (arith, (g.A.Game.sound c.args.self.now.first).sized.within) in
    let t : c.low_step-b.result ≤ b.size = omega (arith, (g.B.Game.sound c.args.self.now.second).sized.within) in
    rw c.size-n.ensures (joint_fits a.size b.size _ _ low s t)
