use Rattle.std.proofs.Common.{◌≡◌, ℕ, ◌^◌, subst, arith, pow_pos}
use Rattle.std.proofs.lemmas.Bool.Decides.{not_from_Decides}
use Rattle.terms.specs.declared.count.Count.{Count}
use Rattle.terms.specs.Order.{Most}
use Rattle.terms.proofs.BestLaws.{best_one, turn_takes, turn_keeps}
use Rattle.terms.proofs.OrderLaws.{count_order}
use Rattle.book.specs.Told.{count_in}
use Rattle.book.proofs.accept.Judged.best_output.Goals.{then-not-is_at_most, else-not-is_at_most}
use Rattle.book.proofs.accept.Judged.best_output.Goals as goal

pub loop-y-init : goal.loop-y-init
loop-y-init g c = (best_one count_order _, c.move_count-high.ensures)

pub loop-y-preserved : goal.loop-y-preserved
loop-y-preserved g c =
    let f : ℕ → Count = λ z. count_in c.args.self.now.book.now ((g.G.Game.meaning c.args.self.now.game.now).move c.args.p c.args.x z) in
    elim c.if-not-is_at_most.branch [
      | then-not-is_at_most w ↦ turn_takes count_order f w.best-is w.high-is c.move_count-c.ensures c.loop-y.invariant.1 (not_from_Decides _ c.is_at_most.ensures w.if-not-is_at_most.true) c.loop-y.invariant.0
      | else-not-is_at_most w ↦ turn_keeps count_order f w.best-is w.high-is c.move_count-c.ensures c.loop-y.invariant.1 (c.is_at_most.ensures.0 w.if-not-is_at_most.false) c.loop-y.invariant.0
    ]

pub returns : goal.returns
returns g c =
    let a = g.G.Game.meaning c.args.self.now.game.now in
    let f : ℕ → Count = λ z. count_in c.args.self.now.book.now (a.move c.args.p c.args.x z) in
    let e : c.loop-y.y ≡ 2 ^ a.outputs = omega (arith, pow_pos a.outputs) in
    subst (λ n. Most n f c.loop-y.best) e c.loop-y.invariant.0
