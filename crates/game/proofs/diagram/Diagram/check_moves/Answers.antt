-- A turn adds a chain without repeats, or finds one with a repeat.
use Rattle.std.proofs.Common.{refl, arith}
use Rattle.arena.specs.Diagram.{Refused}
use Rattle.game.proofs.ReadingLaws.{linked_chain, fresh_more, fresh_repeat, repeat_refused, fresh_well_formed, passed_on}
use Rattle.game.proofs.diagram.Diagram.check_moves.Goals as goal

pub check_moves_of-requires : goal.check_moves_of-requires
check_moves_of-requires c =
    let d = c.args.self.now in
    linked_chain _ _ d.fielded d.headed c.loop-p.p (omega arith) (omega arith) c.requires

pub returns-in_err-check_moves_of : goal.returns-in_err-check_moves_of
returns-in_err-check_moves_of c =
    let d = c.args.self.now in
    let wrong = c.in_err-check_moves_of.ensures in
    passed_on _ _ _ _ c.from_residual.ensures.1
    (Refused.repeated _ wrong.1 (repeat_refused _ _ d.fielded d.headed wrong.0 _ c.requires (fresh_repeat _ _ c.loop-p.p wrong.0 (omega arith) (omega arith) c.loop-p.invariant wrong.2) refl))

pub loop-p-preserved : goal.loop-p-preserved
loop-p-preserved c = fresh_more c.args.self.now.shape _ c.loop-p.p _ (omega arith) c.loop-p.invariant c.in_ok-check_moves_of.ensures

pub returns-in_ok-check_moves_of : goal.returns-in_ok-check_moves_of
returns-in_ok-check_moves_of c =
    let d = c.args.self.now in
    fresh_well_formed _ _ d.fielded d.headed c.requires (fresh_more d.shape _ c.loop-p.p _ (omega arith) c.loop-p.invariant c.in_ok-check_moves_of.ensures)
