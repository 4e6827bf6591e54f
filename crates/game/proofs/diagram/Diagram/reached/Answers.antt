-- A turn adds a whole chain, or finds a wrong index.
use Rattle.std.proofs.Common.{◌≡◌, ◌-◌, refl, ap, arith}
use Rattle.arena.specs.Diagram.{Refused}
use Rattle.game.proofs.ReadingLaws.{unmarked, chains_none, chains_more, chains_broken, broken_refused, passed_on}
use Rattle.game.proofs.diagram.Diagram.reached.Goals as goal

pub loop-p-init : goal.loop-p-init
loop-p-init c = chains_none _ _ _ (unmarked 4001)

pub returns-in_err-mark_chain : goal.returns-in_err-mark_chain
returns-in_err-mark_chain c =
    let d = c.args.self.now in
    let i = c.loop-p.invariant in
    let wrong = c.in_err-mark_chain.ensures i.records i.apart i.seen in
    passed_on _ _ _ _ c.from_residual.ensures.1
    (Refused.index wrong.0 wrong.1 (broken_refused _ _ d.fielded d.headed wrong.0 (chains_broken _ _ c.loop-p.p wrong.0 c.loop-p.marks (omega arith) (omega arith) i wrong.2)))

pub loop-p-preserved : goal.loop-p-preserved
loop-p-preserved c = chains_more _ _ c.loop-p.p _ c.loop-p.marks _ (omega arith) (omega arith) c.loop-p.invariant c.in_ok-mark_chain.ensures

pub returns-in_ok-mark_chain : goal.returns-in_ok-mark_chain
returns-in_ok-mark_chain c = chains_more _ _ c.loop-p.p _ c.loop-p.marks _ (omega arith) (omega arith) c.loop-p.invariant c.in_ok-mark_chain.ensures

pub returns : goal.returns
returns c =
    let d = c.args.self.now in
    let e : c.loop-p.p - 1 ≡ d.shape.size = omega (arith, (d.fielded.measured.headed.right 2).size refl, ap (λ h. h.size) d.headed) in
    rw e at c.loop-p.invariant
