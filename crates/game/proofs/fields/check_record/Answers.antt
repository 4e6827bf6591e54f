-- The fields before a wrong one are right, and behind the last one all are.
use Rattle.std.proofs.Common.{arith}
use Rattle.std.proofs.lemmas.Bool.Decides.{nat_tests}
use Rattle.game.proofs.ReadingLaws.{right_part, passed_first}
use Rattle.game.proofs.fields.check_record.Goals as goal

pub returns-in_err-check-3 : goal.returns-in_err-check-3
returns-in_err-check-3 c =
    passed_first _ _ _ (right_part _ _ c.args.r _ 2 c.requires.0 c.record_at-at.ensures.0 (omega arith) c.requires.1.1.1 (grind (arith, nat_tests))) c.from_residual-in_err-check-3.ensures.1 c.in_err-check-3.ensures.1
    (λ right. let destination = right.destination c.args.r c.requires.0 (omega arith) in grind (arith, nat_tests))

pub returns-in_err-check-4 : goal.returns-in_err-check-4
returns-in_err-check-4 c =
    passed_first _ _ _ (right_part _ _ c.args.r _ 3 c.requires.0 c.record_at-at.ensures.0 (omega arith) c.requires.1.1.1 (grind (arith, nat_tests))) c.from_residual-in_err-check-4.ensures.1 c.in_err-check-4.ensures.1
    (λ right. let gap = right.gap c.args.r c.requires.0 (omega arith) in grind (arith, nat_tests))

pub returns-in_err-check-5 : goal.returns-in_err-check-5
returns-in_err-check-5 c =
    passed_first _ _ _ (right_part _ _ c.args.r _ 6 c.requires.0 c.record_at-at.ensures.0 (omega arith) c.requires.1.1.1 (grind (arith, nat_tests))) c.from_residual-in_err-check-5.ensures.1 c.in_err-check-5.ensures.1
    (λ right. let tail = right.tail c.args.r c.requires.0 (omega arith) in grind (arith, nat_tests))

pub returns : goal.returns
returns c j l = right_part _ _ c.args.r _ 8 c.requires.0 c.record_at-at.ensures.0 (omega arith) c.requires.1.1.1 (grind (arith, nat_tests)) j (omega arith)
