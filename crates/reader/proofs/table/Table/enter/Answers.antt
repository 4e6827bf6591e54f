use Rattle.std.proofs.Common.{take, Some, None, sym, refl, subst₂, arith}
use Rattle.rules.specs.Table.{enter}
use Rattle.reader.specs.Entries.{Numbered}
use Rattle.reader.proofs.EntryLaws.{part_entered, no_room}
use Rattle.reader.proofs.table.Table.enter.Goals as goal

pub returns-in_err-number : goal.returns-in_err-number
returns-in_err-number c =
    let t = c.self.inside in
    let e = c.in_err-number.ensures.entered in
    subst₂ (λ r ps. Numbered (take t.used c.enter.new.self.store.now) r (enter ps c.args.part)) (sym c.from_residual.ensures) c.self.view_is
    (no_room t.parts t.used c.args.part c.self.invariant (omega arith) None _ e.value e.store refl)

pub returns : goal.returns
returns c =
    let t = c.self.inside in
    let k = c.in_ok-number.number in
    let e = c.in_ok-number.ensures in
    subst₂ (λ n ps. Numbered (take n c.enter.new.self.store.now) (Some k) (enter ps c.args.part)) (sym e.used) c.self.view_is
    (part_entered t.parts t.used c.args.part c.self.invariant (omega arith) (Some k) _ e.entered.value e.entered.store k refl)
