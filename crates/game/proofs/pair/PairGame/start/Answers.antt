use Rattle.std.proofs.Common.{arith}
use Rattle.game.proofs.PairLaws.{joint_fits}
use Rattle.game.proofs.pair.PairGame.start.Goals as goal

pub joint_of-requires : goal.joint_of-requires
joint_of-requires g c =
    let s = (g.A.Game.sound c.args.self.now.first).sized.start_high in
    let t = (g.B.Game.sound c.args.self.now.second).sized.start_high in
    rw (c.start.ensures, c.start-2.ensures, c.size-2.ensures) (joint_fits _ _ _ _ (omega arith) s t)
