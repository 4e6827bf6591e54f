use Rattle.std.proofs.Common.{◌≡◌, get_or, fold, sym, refl, ap, ◌∙◌}
use Rattle.rules.specs.Sets.{too_wide, sets, join_or}
use Rattle.rules.specs.Progress.{list_after}
use Rattle.compile.specs.Listed.{told}
use Rattle.compile.specs.Known.{join_set}
use Rattle.compile.specs.Progressing.{rule, round}
use Rattle.compile.proofs.GivenLaws.{or_strict}
use Rattle.compile.proofs.ExpandLaws.{set_stays}
use Rattle.compile.proofs.AfterLaws.{list_begins, set_wide}
use Rattle.compile.proofs.progress.Progress.list_joined.Goals as goal
use Rattle.compile.proofs.progress.Progress.list_joined.Goals.{In-loop-set}

-- a list is too wide where a set makes it so
wide : (c : In-loop-set) → join_set (rule c.args.self.now) (round c.args.self.now) (sets c.loop-set.any) (get_or c.as_slice-set-items.result.now c.loop-set.set-index 0) ≡ too_wide → list_after (rule c.args.self.now) (round c.args.self.now) (sets c.args.list.now) ≡ too_wide
wide c step = ap (λ xs. list_after (rule c.args.self.now) (round c.args.self.now) (sets xs)) (sym c.as_slice-set-items.ensures.sets) ∙ sym c.loop-set.invariant.same ∙ set_wide _ _ _ c.as_slice-set-items.result.now c.loop-set.set-index c.loop-set-test.true step

pub loop-set-init : goal.loop-set-init
loop-set-init c =
    let ps = c.args.self.now.outline.parts.now in
    let items = c.as_slice-set-items.result.now in
    record {
      stays = record { parts = refl; played = refl };
      same = ap (λ s. fold (join_set ps (round c.args.self.now)) s items) c.of_false-any.ensures ∙ sym (list_begins ps (round c.args.self.now) items);
    }

pub returns-in_err-one-clause-value : goal.returns-in_err-one-clause-value
returns-in_err-one-clause-value c =
    let any = c.loop-set.any in
    wide (goal.at.returns-in_err-one-clause-value c).In-loop-set (ap (join_or (sets any)) (set_stays c.loop-set.invariant.stays _ ∙ c.in_err-one.ensures.value) ∙ or_strict.right any) ∙ ap told (sym c.from_residual.ensures)

pub returns-in_err-any-clause-value : goal.returns-in_err-any-clause-value
returns-in_err-any-clause-value c =
    wide (goal.at.returns-in_err-any-clause-value c).In-loop-set (ap (join_or (sets c.loop-set.any)) (set_stays c.loop-set.invariant.stays _ ∙ c.in_ok-one.ensures.value) ∙ c.in_err-any.ensures) ∙ ap told (sym c.from_residual-in_err-any.ensures)
