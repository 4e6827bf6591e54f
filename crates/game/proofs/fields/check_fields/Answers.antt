-- What is refused, stage by stage: a cut header, a wrong header field, a wrong length, a wrong field of a record.
use Rattle.std.proofs.Common.{◌≡◌, ℕ, ◌+◌, length, sym, refl, ap, ◌∙◌, subst, arith}
use Rattle.std.proofs.lemmas.Bool.Decides.{nat_tests}
use Rattle.arena.specs.Diagram.{full_length, Measured, RecordRight, FieldWrong, First, Refused}
use Rattle.game.proofs.ReadingLaws.{right_all, passed_on}
use Rattle.game.proofs.fields.check_fields.Goals as goal
use Rattle.game.proofs.fields.check_fields.Goals.{In_ok-check-2}

-- the header and the length are right
measured : (c : In_ok-check-2) → Measured c.args.bytes.now
measured c =
    let long : length c.args.bytes.now ≡ full_length c.in_ok-shape.shape = grind (arith, nat_tests) in
    record { headed = record { whole = grind (arith, nat_tests); right = c.in_ok-shape.ensures.1 }; long = long ∙ ap full_length c.in_ok-shape.ensures.0 }

pub returns-in_err-check : goal.returns-in_err-check
returns-in_err-check c = passed_on _ _ _ _ c.from_residual.ensures.1 (Refused.field _ c.in_err-check.ensures.1 (FieldWrong.cut (grind (arith, nat_tests)) refl))

pub returns-in_err-shape : goal.returns-in_err-shape
returns-in_err-shape c =
    let wrong = c.in_err-shape.ensures in
    passed_on _ _ _ _ c.from_residual-in_err-shape.ensures.1 (Refused.field wrong.0 wrong.1 (FieldWrong.header (grind (arith, nat_tests)) wrong.2))

pub returns-in_err-check-2 : goal.returns-in_err-check-2
returns-in_err-check-2 c =
    passed_on _ _ _ _ c.from_residual-in_err-check-2.ensures.1
    (Refused.field _ c.in_err-check-2.ensures.1 (FieldWrong.misfit (record { whole = grind (arith, nat_tests); right = c.in_ok-shape.ensures.1 }) (λ e. let long = e ∙ ap full_length (sym c.in_ok-shape.ensures.0) in grind (arith, nat_tests)) refl))

pub check_record-requires : goal.check_record-requires
check_record-requires c =
    let right = c.in_ok-shape.ensures.1 in
    let same = c.in_ok-shape.ensures.0 in (
      (omega arith, omega arith),
      (omega (arith, (right 0).inputs refl, ap (λ h. h.inputs) same), (omega (arith, (right 1).outputs refl, ap (λ h. h.outputs) same), c.loop-r.invariant)),
    )

pub returns-in_err-check_record : goal.returns-in_err-check_record
returns-in_err-check_record c =
    let wrong = c.in_err-check_record.ensures in
    passed_on _ _ _ _ c.from_residual-in_err-check_record.ensures.1
    (Refused.field wrong.0 wrong.1 (FieldWrong.field (measured (goal.at.returns-in_err-check_record c).In_ok-check-2) (subst (λ h. First (λ j. RecordRight h c.args.bytes.now j → ⊥) wrong.0) c.in_ok-shape.ensures.0 wrong.2)))

pub returns-in_ok-check_record : goal.returns-in_ok-check_record
returns-in_ok-check_record c =
    let same = c.in_ok-shape.ensures.0 in
    let right = right_all c.in_ok-shape.shape c.args.bytes.now (c.loop-r.r + 1) (omega arith) c.in_ok-check_record.ensures in
    (same, record { measured = measured (goal.at.returns-in_ok-check_record c).In_ok-check-2; right = subst (λ h. (k : ℕ) → RecordRight h c.args.bytes.now k) same right })
