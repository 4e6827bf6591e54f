use Rattle.std.proofs.Common.{◌^◌, Some, sym, ap, ◌∙◌, subst}
use Rattle.terms.proofs.BestLaws.{best_once}
use Rattle.arena.specs.Values.{Spoils}
use Rattle.book.proofs.solution.Solution.spoiling.Goals as goal

pub returns-in-Limited : goal.returns-in-Limited
returns-in-Limited g c v =
    let a = g.G.Game.meaning c.args.self.now.game.now in
    let p = c.args.p in
    let s = subst (λ n. Spoils n (2 ^ a.inputs) (λ x. v.count (a.move p x (v.answer p x))) (v.spoiling p)) (sym (c.count.ensures v) ∙ c.in-Limited.is) (v.spoils p) in
    ap Some (best_once (c.worst_input.ensures v) s.2) ∙ sym s.1
