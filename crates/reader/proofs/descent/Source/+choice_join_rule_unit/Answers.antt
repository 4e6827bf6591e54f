use Rattle.std.proofs.Common.{◌∷◌, refl, ap}
use Rattle.rules.specs.declared.part.Part.TheVariants as part
use Rattle.rules.specs.Rule.{always, never}
use Rattle.rules.specs.Table.{parts_on}
use Rattle.reader.specs.Grammar.{rule_choice, choice_join, join_unit, unit_true, unit_false}
use Rattle.reader.specs.Allowed.{due}
use Rattle.words.specs.Words.{says as told}
use Rattle.reader.proofs.DescentLaws.{past_and, past_or, past_release, leaf_comes, name_comes, not_comes, no_unit, too_deep, level_wrong, next_comes, always_comes, group_comes, join_more, join_wrong, choice_more, choice_wrong, release_comes, release_wrong, release_deep, wider, exits}
use Rattle.reader.proofs.descent.Source.+choice_join_rule_unit.Goals as goal

pub choice-returns-in_default : goal.choice-returns-in_default
choice-returns-in_default t c =
    (c.loop-table.invariant.1 _ _ _ (wider (λ f ms. choice_join) c.in_ok-left.ensures.0), (c.loop-table.invariant.0, past_or c.word_at-t.ensures.peek c.in_default.not-Or))

pub choice-returns-in_err-right : goal.choice-returns-in_err-right
choice-returns-in_err-right t c =
    exits c.args.self.now _ _ _ _ _ c.from_residual-in_err-right.result _ c.from_residual-in_err-right.ensures.1
    (choice_wrong c.args.self.now c.loop-table.left c.word_at-t.ensures.peek c.word_at-t.ensures.moves (ap told c.in-Or.is) (c.loop-table.invariant.1 _ _ _ (wider (λ f ms. choice_join) c.in_ok-left.ensures.0)) c.in_err-right.ensures)

pub choice-loop-table-preserved : goal.choice-loop-table-preserved
choice-loop-table-preserved t c =
    (c.in_ok-right.ensures.1, λ ws p table g. choice_more c.args.self.now c.loop-table.left c.word_at-t.ensures.peek c.word_at-t.ensures.moves (ap told c.in-Or.is) (c.loop-table.invariant.1 ws p table g) c.in_ok-right.ensures.0 (c.enter_two-number.ensures part.Either (λ a b q h. h)))

pub join-returns-in_default : goal.join-returns-in_default
join-returns-in_default t c =
    (c.loop-table.invariant _ _ _ (wider (λ f ms. join_unit) c.in_ok-left.ensures.0), past_and c.word_at-t.ensures.peek c.in_default.not-And)

pub join-returns-in_err-right : goal.join-returns-in_err-right
join-returns-in_err-right t c =
    exits c.args.self.now _ _ _ _ _ c.from_residual-in_err-right.result _ c.from_residual-in_err-right.ensures.1
    (join_wrong c.args.self.now c.loop-table.left c.word_at-t.ensures.peek c.word_at-t.ensures.moves (ap told c.in-And.is) (c.loop-table.invariant _ _ _ (wider (λ f ms. join_unit) c.in_ok-left.ensures.0)) c.in_err-right.ensures)

pub join-loop-table-preserved : goal.join-loop-table-preserved
join-loop-table-preserved t c =
    λ ws p table g. join_more c.args.self.now c.loop-table.left c.word_at-t.ensures.peek c.word_at-t.ensures.moves (ap told c.in-And.is) (c.loop-table.invariant ws p table g) c.in_ok-right.ensures.0 (c.enter_two-number.ensures part.Both (λ a b q h. h))

pub rule-returns-in_default : goal.rule-returns-in_default
rule-returns-in_default t c =
    (wider (λ f ms. rule_choice) c.in_ok-left.ensures.0, (c.in_ok-left.ensures.1.0, c.in_ok-left.ensures.1.1, past_release c.word_at-t.ensures.peek c.in_default.not-Release))

pub rule-returns-in_err-inside : goal.rule-returns-in_err-inside
rule-returns-in_err-inside t c =
    exits c.args.self.now _ _ _ _ _ c.from_residual-in_err-inside.result _ c.from_residual-in_err-inside.ensures.1
    (release_deep c.args.self.now c.in_ok-left.left c.word_at-t.ensures.peek c.word_at-t.ensures.moves (ap told c.in-Release.is) c.in_err-inside.ensures.0 c.in_err-inside.ensures.1 c.in_ok-left.ensures.0)

pub rule-returns-in_err-right : goal.rule-returns-in_err-right
rule-returns-in_err-right t c =
    exits c.args.self.now _ _ _ _ _ c.from_residual-in_err-right.result _ c.from_residual-in_err-right.ensures.1
    (release_wrong c.args.self.now c.in_ok-left.left c.word_at-t.ensures.peek c.word_at-t.ensures.moves (ap told c.in-Release.is) c.in_ok-inside.ensures c.in_ok-left.ensures.0 c.in_err-right.ensures)

pub rule-returns : goal.rule-returns
rule-returns t c =
    release_comes c.args.self.now c.in_ok-left.left c.word_at-t.ensures.peek c.word_at-t.ensures.moves (ap told c.in-Release.is) c.in_ok-inside.ensures c.in_ok-left.ensures.0 c.in_ok-right.ensures (c.enter_two-number.ensures part.Release (λ a b q h. h))

pub unit-returns-in_err-inside-in-Next : goal.unit-returns-in_err-inside-in-Next
unit-returns-in_err-inside-in-Next t c =
    exits c.args.self.now _ _ _ _ _ c.from_residual.result _ c.from_residual.ensures.1
    (too_deep c.args.self.now c.word_at-t.ensures.peek c.word_at-t.ensures.moves (ap told c.in-Next.is) (λ b os ms. refl) c.in_err-inside-in-Next.ensures.0 c.in_err-inside-in-Next.ensures.1)

pub unit-returns-in_err-inner-in-Next : goal.unit-returns-in_err-inner-in-Next
unit-returns-in_err-inner-in-Next t c =
    exits c.args.self.now _ _ _ _ _ c.from_residual-in_err-inner-in-Next.result _ c.from_residual-in_err-inner-in-Next.ensures.1
    (level_wrong c.args.self.now c.word_at-t.ensures.peek c.word_at-t.ensures.moves (λ b os. due c.in_ok-inside-in-Next.inside b os) (ap told c.in-Next.is) c.in_ok-inside-in-Next.ensures (λ b os ms. refl) c.in_err-inner-in-Next.ensures)

pub unit-returns-in_err-inside-in-Always : goal.unit-returns-in_err-inside-in-Always
unit-returns-in_err-inside-in-Always t c =
    exits c.args.self.now _ _ _ _ _ c.from_residual-in_err-inside-in-Always.result _ c.from_residual-in_err-inside-in-Always.ensures.1
    (too_deep c.args.self.now c.word_at-t.ensures.peek c.word_at-t.ensures.moves (ap told c.in-Always.is) (λ b os ms. refl) c.in_err-inside-in-Always.ensures.0 c.in_err-inside-in-Always.ensures.1)

pub unit-returns-in_err-inner-in-Always : goal.unit-returns-in_err-inner-in-Always
unit-returns-in_err-inner-in-Always t c =
    exits c.args.self.now _ _ _ _ _ c.from_residual-in_err-inner-in-Always.result _ c.from_residual-in_err-inner-in-Always.ensures.1
    (level_wrong c.args.self.now c.word_at-t.ensures.peek c.word_at-t.ensures.moves (λ b os. due c.in_ok-inside-in-Always.inside b os) (ap told c.in-Always.is) c.in_ok-inside-in-Always.ensures (λ b os ms. refl) c.in_err-inner-in-Always.ensures)

pub unit-returns-in_err-inside-in-Open : goal.unit-returns-in_err-inside-in-Open
unit-returns-in_err-inside-in-Open t c =
    exits c.args.self.now _ _ _ _ _ c.from_residual-in_err-inside-in-Open.result _ c.from_residual-in_err-inside-in-Open.ensures.1
    (too_deep c.args.self.now c.word_at-t.ensures.peek c.word_at-t.ensures.moves (ap told c.in-Open.is) (λ b os ms. refl) c.in_err-inside-in-Open.ensures.0 c.in_err-inside-in-Open.ensures.1)

pub unit-returns-in_err-inner-in-Open : goal.unit-returns-in_err-inner-in-Open
unit-returns-in_err-inner-in-Open t c =
    exits c.args.self.now _ _ _ _ _ c.from_residual-in_err-inner-in-Open.result _ c.from_residual-in_err-inner-in-Open.ensures.1
    (level_wrong c.args.self.now c.word_at-t.ensures.peek c.word_at-t.ensures.moves (λ b os. due c.in_ok-inside-in-Open.inside c.in_ok-inside-in-Open.inside (b ∷ os)) (ap told c.in-Open.is) c.in_ok-inside-in-Open.ensures (λ b os ms. refl) (λ b os. c.in_err-inner-in-Open.ensures (b ∷ os)))

pub unit-returns-in-True : goal.unit-returns-in-True
unfolding parts_on
unit-returns-in-True t c =
    leaf_comes c.args.self.now always part.True c.word_at-t.ensures.peek c.word_at-t.ensures.moves (ap told c.in-True.is) (λ ws. unit_true) refl c.enter.ensures

pub unit-returns-in-False : goal.unit-returns-in-False
unfolding parts_on
unit-returns-in-False t c =
    leaf_comes c.args.self.now never part.False c.word_at-t.ensures.peek c.word_at-t.ensures.moves (ap told c.in-False.is) (λ ws. unit_false) refl c.enter-in-False.ensures

pub unit-returns-in-Name : goal.unit-returns-in-Name
unit-returns-in-Name t c =
    name_comes c.args.self.now c.word_at-t.ensures.peek c.word_at-t.ensures.moves _ _ _ (ap told c.in-Name.is) c.literal.result c.literal.ensures

pub unit-returns-in-Not : goal.unit-returns-in-Not
unit-returns-in-Not t c =
    not_comes c.args.self.now c.word_at-t.ensures.peek c.word_at-t.ensures.moves _ _ _ (ap told c.in-Not.is) c.negated.result c.negated.ensures

pub unit-returns-in_ok-inner-in-Next : goal.unit-returns-in_ok-inner-in-Next
unit-returns-in_ok-inner-in-Next t c =
    next_comes c.args.self.now c.word_at-t.ensures.peek c.word_at-t.ensures.moves (ap told c.in-Next.is) c.in_ok-inside-in-Next.ensures c.in_ok-inner-in-Next.ensures.0 (c.enter_one-number.ensures part.Next (λ a q h. h))

pub unit-returns-in_ok-inner-in-Always : goal.unit-returns-in_ok-inner-in-Always
unit-returns-in_ok-inner-in-Always t c =
    always_comes c.args.self.now c.word_at-t.ensures.peek c.word_at-t.ensures.moves (ap told c.in-Always.is) c.in_ok-inside-in-Always.ensures c.enter-never.ensures c.in_ok-inner-in-Always.ensures.0 (c.enter_two-number.ensures part.Release (λ a b q h. h))

pub unit-returns-in_ok-inner-in-Open : goal.unit-returns-in_ok-inner-in-Open
unit-returns-in_ok-inner-in-Open t c =
    group_comes c.args.self.now c.word_at-t.ensures.peek c.word_at-t.ensures.moves (ap told c.in-Open.is) c.in_ok-inside-in-Open.ensures c.in_ok-inner-in-Open.ensures c.closed.result c.closed.ensures

pub unit-returns-in_default : goal.unit-returns-in_default
unit-returns-in_default t c =
    no_unit c.args.self.now c.word_at-t.ensures.peek c.word_at-t.ensures.moves c.refuse.ensures c.in_default.not-True c.in_default.not-False c.in_default.not-Name c.in_default.not-Not c.in_default.not-Next c.in_default.not-Always c.in_default.not-Open
