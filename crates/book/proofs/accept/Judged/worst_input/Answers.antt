use Rattle.std.proofs.Common.{◌≡◌, ℕ, ◌^◌, subst, arith, pow_pos}
use Rattle.std.proofs.lemmas.Bool.Decides.{not_from_Decides}
use Rattle.terms.specs.declared.count.Count.{Count}
use Rattle.terms.specs.Order.{Least}
use Rattle.terms.proofs.BestLaws.{reversed, best_one, turn_takes, turn_keeps}
use Rattle.terms.proofs.OrderLaws.{count_order}
use Rattle.book.specs.Told.{answer_told, count_in}
use Rattle.book.proofs.accept.Judged.worst_input.Goals.{then-not-is_at_most, else-not-is_at_most}
use Rattle.book.proofs.accept.Judged.worst_input.Goals as goal

pub loop-x-init : goal.loop-x-init
loop-x-init g c = (best_one (reversed count_order) _, c.answer_count-low.ensures)

pub loop-x-preserved : goal.loop-x-preserved
loop-x-preserved g c =
    let a = g.G.Game.meaning c.args.self.now.game.now in
    let bs = c.args.self.now.book.now in
    let f : ℕ → Count = λ z. count_in bs (a.move c.args.p z (answer_told bs c.args.p z)) in
    elim c.if-not-is_at_most.branch [
      | then-not-is_at_most w ↦ turn_takes (reversed count_order) f w.worst-is w.low-is c.answer_count-c.ensures c.loop-x.invariant.1 (not_from_Decides _ c.is_at_most.ensures w.if-not-is_at_most.true) c.loop-x.invariant.0
      | else-not-is_at_most w ↦ turn_keeps (reversed count_order) f w.worst-is w.low-is c.answer_count-c.ensures c.loop-x.invariant.1 (c.is_at_most.ensures.0 w.if-not-is_at_most.false) c.loop-x.invariant.0
    ]

pub returns : goal.returns
returns g c =
    let a = g.G.Game.meaning c.args.self.now.game.now in
    let bs = c.args.self.now.book.now in
    let f : ℕ → Count = λ z. count_in bs (a.move c.args.p z (answer_told bs c.args.p z)) in
    let e : c.loop-x.x ≡ 2 ^ a.inputs = omega (arith, pow_pos a.inputs) in
    subst (λ n. Least n f c.loop-x.worst) e c.loop-x.invariant.0
