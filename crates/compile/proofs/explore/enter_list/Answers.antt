-- The number that the register gave is that of the list.
use Rattle.std.proofs.Common.{length, sym, arith}
use Rattle.std.proofs.lemmas.Bool.{eqb-false}
use Rattle.compile.proofs.StoreLaws.{Given, enter_given}
use Rattle.compile.proofs.explore.enter_list.Goals as goal
use Rattle.compile.proofs.explore.enter_list.Goals.{After-enter}

-- what entering a list comes to, where it is not empty
entered : (c : After-enter) → Given c.args.found.now.used c.args.list c.args.found.now.store.now c.enter.new.self.store.now c.enter.result
entered c =
    let more = eqb-false (length c.args.list) 0 (sym c.if-is_empty.ensures) in
    let e = rw c.of.ensures at c.enter.ensures.entered in
    enter_given _ c.args.list _ c.requires (omega arith) _ _ e.value e.store

pub returns-in_err-k-clause-enters : goal.returns-in_err-k-clause-enters
returns-in_err-k-clause-enters c = rw c.from_residual.ensures (rw c.in_err-k.was at (entered (goal.at.returns-in_err-k-clause-enters c).After-enter))

pub returns-clause-enters : goal.returns-clause-enters
returns-clause-enters c = rw c.in_ok-k.was at (entered (goal.at.returns-clause-enters c).After-enter)
