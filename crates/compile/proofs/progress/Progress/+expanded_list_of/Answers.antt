use Rattle.std.proofs.Common.{sym, refl, ap, ◌∙◌, ap₂}
use Rattle.rules.specs.Sets.{join_or, join_and}
use Rattle.rules.specs.Progress.{own}
use Rattle.compile.proofs.GivenLaws.{or_strict, and_strict, wide_left, wide_right}
use Rattle.compile.proofs.ExpandLaws.{list_at, number_is, number_fits, is_own, list_own, list_stays}
use Rattle.compile.proofs.progress.Progress.+expanded_list_of.Goals as goal

pub expanded-own-requires : goal.expanded-own-requires
expanded-own-requires t c =
    let o = c.args.self.now.outline in
    number_fits o o.parts.now refl c.args.k c.requires (is_own _ c.in-Literal.is)

pub expanded-returns-in-True-clause-value : goal.expanded-returns-in-True-clause-value
expanded-returns-in-True-clause-value t c = list_at c.args.self.now _ c.in-True.is ∙ sym c.of_true.ensures

pub expanded-returns-in-False-clause-value : goal.expanded-returns-in-False-clause-value
expanded-returns-in-False-clause-value t c = list_at c.args.self.now _ c.in-False.is ∙ sym c.of_false.ensures

pub expanded-returns-in-Literal-clause-value : goal.expanded-returns-in-Literal-clause-value
expanded-returns-in-Literal-clause-value t c =
    let o = c.args.self.now.outline in
    list_at c.args.self.now _ refl ∙ list_own _ _ _ c.in-Literal.is ∙ ap own (sym (number_is o o.parts.now refl c.args.k c.requires)) ∙ sym c.own.ensures

pub expanded-returns-in_err-x-in-Both-clause-value : goal.expanded-returns-in_err-x-in-Both-clause-value
expanded-returns-in_err-x-in-Both-clause-value t c = list_at c.args.self.now _ c.in-Both.is ∙ wide_left and_strict c.in_err-x-in-Both.ensures.value c.from_residual.ensures

pub expanded-returns-in_err-y-in-Both-clause-value : goal.expanded-returns-in_err-y-in-Both-clause-value
expanded-returns-in_err-y-in-Both-clause-value t c = list_at c.args.self.now _ c.in-Both.is ∙ wide_right and_strict c.in_ok-x-in-Both.ensures.value (list_stays c.list_of.ensures.stays _ ∙ c.in_err-y-in-Both.ensures.value) c.from_residual-in_err-y-in-Both.ensures

pub expanded-returns-in_ok-y-in-Both-clause-value : goal.expanded-returns-in_ok-y-in-Both-clause-value
expanded-returns-in_ok-y-in-Both-clause-value t c = list_at c.args.self.now _ c.in-Both.is ∙ ap₂ join_and c.in_ok-x-in-Both.ensures.value (list_stays c.list_of.ensures.stays _ ∙ c.in_ok-y-in-Both.ensures.value) ∙ c.both.ensures

pub expanded-returns-in_err-x-in-Either-clause-value : goal.expanded-returns-in_err-x-in-Either-clause-value
expanded-returns-in_err-x-in-Either-clause-value t c = list_at c.args.self.now _ c.in-Either.is ∙ wide_left or_strict c.in_err-x-in-Either.ensures.value c.from_residual-in_err-x-in-Either.ensures

pub expanded-returns-in_err-y-in-Either-clause-value : goal.expanded-returns-in_err-y-in-Either-clause-value
expanded-returns-in_err-y-in-Either-clause-value t c = list_at c.args.self.now _ c.in-Either.is ∙ wide_right or_strict c.in_ok-x-in-Either.ensures.value (list_stays c.list_of-in-Either.ensures.stays _ ∙ c.in_err-y-in-Either.ensures.value) c.from_residual-in_err-y-in-Either.ensures

pub expanded-returns-in_ok-y-in-Either-clause-value : goal.expanded-returns-in_ok-y-in-Either-clause-value
expanded-returns-in_ok-y-in-Either-clause-value t c = list_at c.args.self.now _ c.in-Either.is ∙ ap₂ join_or c.in_ok-x-in-Either.ensures.value (list_stays c.list_of-in-Either.ensures.stays _ ∙ c.in_ok-y-in-Either.ensures.value) ∙ c.either.ensures
