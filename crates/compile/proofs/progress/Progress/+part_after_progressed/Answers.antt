use Rattle.std.proofs.Common.{sym, ap, ◌∙◌, ap₂, cond}
use Rattle.rules.specs.Sets.{join_or, join_and}
use Rattle.rules.specs.Progress.{own, of_true, of_false}
use Rattle.rules.specs.Parts.{is_duty, duty_number}
use Rattle.compile.proofs.GivenLaws.{or_strict, and_strict, wide_left, wide_right}
use Rattle.compile.proofs.ExpandLaws.{after_at, number_is, number_fits, after_stays}
use Rattle.compile.proofs.progress.Progress.+part_after_progressed.Goals as goal

pub progressed-released-requires : goal.progressed-released-requires
progressed-released-requires t c =
    let same = c.part_after-in-Release.ensures.stays.parts ∙ c.part_after.ensures.stays.parts in
    number_fits c.part_after-in-Release.new.self.outline _ same c.args.k c.requires (ap is_duty c.in-Release.is)

pub progressed-returns-in-True-clause-value : goal.progressed-returns-in-True-clause-value
progressed-returns-in-True-clause-value t c = after_at c.args.self.now _ c.in-True.is ∙ sym c.of_true.ensures

pub progressed-returns-in-False-clause-value : goal.progressed-returns-in-False-clause-value
progressed-returns-in-False-clause-value t c = after_at c.args.self.now _ c.in-False.is ∙ sym c.of_false.ensures

pub progressed-returns-in-Literal-clause-value : goal.progressed-returns-in-Literal-clause-value
progressed-returns-in-Literal-clause-value t c = after_at c.args.self.now _ c.in-Literal.is ∙ ap (λ b. cond b of_true of_false) (sym c.is_agreed.ensures) ∙ sym c.constant.ensures

pub progressed-returns-in-Next-clause-value : goal.progressed-returns-in-Next-clause-value
progressed-returns-in-Next-clause-value t c = after_at c.args.self.now _ c.in-Next.is ∙ c.list_of.ensures.value

pub progressed-returns-in_err-y-in-Release-clause-value : goal.progressed-returns-in_err-y-in-Release-clause-value
progressed-returns-in_err-y-in-Release-clause-value t c = after_at c.args.self.now _ c.in-Release.is ∙ wide_left and_strict c.in_err-y-in-Release.ensures.value c.from_residual.ensures

pub progressed-returns-in_err-x-in-Release-clause-value : goal.progressed-returns-in_err-x-in-Release-clause-value
progressed-returns-in_err-x-in-Release-clause-value t c =
    let x = after_stays c.part_after.ensures.stays c.in-Release.a ∙ c.in_err-x-in-Release.ensures.value in
    after_at c.args.self.now _ c.in-Release.is
    ∙ wide_right and_strict c.in_ok-y-in-Release.ensures.value (ap (λ s. join_or s (own (duty_number c.args.self.now.outline.parts.now c.args.k))) x ∙ or_strict.left _) c.from_residual-in_err-x-in-Release.ensures

pub progressed-returns-in_ok-x-in-Release-clause-value : goal.progressed-returns-in_ok-x-in-Release-clause-value
progressed-returns-in_ok-x-in-Release-clause-value t c =
    let x = after_stays c.part_after.ensures.stays c.in-Release.a ∙ c.in_ok-x-in-Release.ensures.value in
    let same = c.part_after-in-Release.ensures.stays.parts ∙ c.part_after.ensures.stays.parts in
    let d = number_is c.part_after-in-Release.new.self.outline _ same c.args.k c.requires in
    after_at c.args.self.now _ c.in-Release.is
    ∙ ap₂ join_and c.in_ok-y-in-Release.ensures.value (ap₂ join_or x (ap own (sym d)))
    ∙ c.released.ensures

pub progressed-returns-in_err-x-in-Both-clause-value : goal.progressed-returns-in_err-x-in-Both-clause-value
progressed-returns-in_err-x-in-Both-clause-value t c = after_at c.args.self.now _ c.in-Both.is ∙ wide_left and_strict c.in_err-x-in-Both.ensures.value c.from_residual-in_err-x-in-Both.ensures

pub progressed-returns-in_err-y-in-Both-clause-value : goal.progressed-returns-in_err-y-in-Both-clause-value
progressed-returns-in_err-y-in-Both-clause-value t c = after_at c.args.self.now _ c.in-Both.is ∙ wide_right and_strict c.in_ok-x-in-Both.ensures.value (after_stays c.part_after-in-Both.ensures.stays _ ∙ c.in_err-y-in-Both.ensures.value) c.from_residual-in_err-y-in-Both.ensures

pub progressed-returns-in_ok-y-in-Both-clause-value : goal.progressed-returns-in_ok-y-in-Both-clause-value
progressed-returns-in_ok-y-in-Both-clause-value t c = after_at c.args.self.now _ c.in-Both.is ∙ ap₂ join_and c.in_ok-x-in-Both.ensures.value (after_stays c.part_after-in-Both.ensures.stays _ ∙ c.in_ok-y-in-Both.ensures.value) ∙ c.both.ensures

pub progressed-returns-in_err-x-in-Either-clause-value : goal.progressed-returns-in_err-x-in-Either-clause-value
progressed-returns-in_err-x-in-Either-clause-value t c = after_at c.args.self.now _ c.in-Either.is ∙ wide_left or_strict c.in_err-x-in-Either.ensures.value c.from_residual-in_err-x-in-Either.ensures

pub progressed-returns-in_err-y-in-Either-clause-value : goal.progressed-returns-in_err-y-in-Either-clause-value
progressed-returns-in_err-y-in-Either-clause-value t c = after_at c.args.self.now _ c.in-Either.is ∙ wide_right or_strict c.in_ok-x-in-Either.ensures.value (after_stays c.part_after-in-Either.ensures.stays _ ∙ c.in_err-y-in-Either.ensures.value) c.from_residual-in_err-y-in-Either.ensures

pub progressed-returns-in_ok-y-in-Either-clause-value : goal.progressed-returns-in_ok-y-in-Either-clause-value
progressed-returns-in_ok-y-in-Either-clause-value t c = after_at c.args.self.now _ c.in-Either.is ∙ ap₂ join_or c.in_ok-x-in-Either.ensures.value (after_stays c.part_after-in-Either.ensures.stays _ ∙ c.in_ok-y-in-Either.ensures.value) ∙ c.either.ensures
