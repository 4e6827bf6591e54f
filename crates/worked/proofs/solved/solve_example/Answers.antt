use Rattle.std.proofs.Common.{true≢false, sym, subst, subst₂}
use Rattle.arena.proofs.DiagramLaws.{drawn_sound}
use Rattle.worked.specs.Worked.{Solves, SolvesPair}
use Rattle.worked.proofs.ExampleLaws.{stand}
use Rattle.worked.proofs.ImageLaws.{image_formed}
use Rattle.worked.proofs.SolveLaws.{rule_works, pair_works, drawn_works}
use Rattle.worked.proofs.solved.solve_example.Goals as goal

pub returns-in_err-read-in-Drawn-clause-works : goal.returns-in_err-read-in-Drawn-clause-works
returns-in_err-read-in-Drawn-clause-works c = absurd (true≢false (sym (c.in_err-read-in-Drawn.ensures.served image_formed)))

pub returns-in_err-read-in-Drawn-clause-examples :
    goal.returns-in_err-read-in-Drawn-clause-examples
returns-in_err-read-in-Drawn-clause-examples c = stand

pub returns-in-Paired-clause-works : goal.returns-in-Paired-clause-works
returns-in-Paired-clause-works c =
    rw c.in-Paired.is (pair_works _ _ _ c.solve_pair.auto.book (subst₂ (λ u v. SolvesPair u v c.args.book.now c.solve_pair.new.book c.solve_pair.result) c.text.ensures c.text-in-Paired.ensures c.solve_pair.ensures))

pub returns-in-Paired-clause-examples : goal.returns-in-Paired-clause-examples
returns-in-Paired-clause-examples c = stand

pub returns-in_ok-read-in-Drawn-clause-works : goal.returns-in_ok-read-in-Drawn-clause-works
returns-in_ok-read-in-Drawn-clause-works c =
    let d = c.in_ok-read-in-Drawn.field-0 in
    rw c.in-Drawn.is (drawn_works _ _ _ c.solve.auto.book _ (drawn_sound d.shape d.bytes.now) c.in_ok-read-in-Drawn.ensures.outcome.1 c.solve.ensures.solves)

pub returns-in_ok-read-in-Drawn-clause-examples : goal.returns-in_ok-read-in-Drawn-clause-examples
returns-in_ok-read-in-Drawn-clause-examples c = stand

pub returns-in_default : goal.returns-in_default
returns-in_default c = record {
  works = rule_works _ _ _ c.solve_rule.auto.book c.args.example c.in_default.not-Paired c.in_default.not-Drawn (subst (λ t. Solves t c.args.book.now c.solve_rule.new.book c.solve_rule.result) c.text-in_default.ensures c.solve_rule.ensures);
  examples = stand;
}
