use Rattle.std.proofs.Common.{◌≡◌, ◌-◌, fold, sym, refl, ap, ◌∙◌, arith}
use lib.Bits.{bit_and, and_le_l}
use lib.Count.{count_trailing_zeros}
use Rattle.rules.specs.Sets.{too_wide, sets, members, join_and}
use Rattle.rules.specs.Progress.{set_after}
use Rattle.compile.specs.Listed.{told}
use Rattle.compile.specs.Known.{join_duty}
use Rattle.compile.specs.Played.{played}
use Rattle.compile.specs.Progressing.{rule, round}
use Rattle.compile.proofs.ExpandLaws.{duty_stays, stays_on}
use Rattle.compile.proofs.AfterLaws.{set_begins, duty_joined, duty_wide, no_duty_left}
use Rattle.compile.proofs.progress.Progress.set_after.Goals as goal
use Rattle.compile.proofs.progress.Progress.set_after.Goals.{In-loop-rest}

-- a set is too wide where a duty makes it so
wide : (c : In-loop-rest) → join_duty (rule c.args.self.now) (round c.args.self.now) (sets c.loop-rest.all) (count_trailing_zeros 32 c.loop-rest.rest) ≡ too_wide → set_after (rule c.args.self.now) (round c.args.self.now) c.args.set ≡ too_wide
wide c step = sym c.loop-rest.invariant.same ∙ duty_wide _ _ _ _ (omega (arith, c.loop-rest-test.true)) c.loop-rest.invariant.fits step

pub loop-rest-init : goal.loop-rest-init
loop-rest-init c =
    let ps = c.args.self.now.outline.parts.now in
    let r = played c.args.self.now.turn in
    record {
      fits = c.ranges.set.fits;
      stays = record { parts = refl; played = refl };
      same = ap (λ s. fold (join_duty ps r) s (members c.args.set)) c.of_true-all.ensures ∙ sym (set_begins ps r c.args.set);
    }

pub returns-in_err-add_duty-clause-value : goal.returns-in_err-add_duty-clause-value
returns-in_err-add_duty-clause-value c =
    wide (goal.at.returns-in_err-add_duty-clause-value c).In-loop-rest (ap (join_and (sets c.loop-rest.all)) (duty_stays c.loop-rest.invariant.stays _) ∙ c.in_err-add_duty.ensures.value) ∙ ap told (sym c.from_residual.ensures)

pub loop-rest-preserved : goal.loop-rest-preserved
loop-rest-preserved c =
    let ps = c.args.self.now.outline.parts.now in
    let r = played c.args.self.now.turn in
    let inv = c.loop-rest.invariant in
    let n = c.loop-rest.rest in
    let all = c.loop-rest.all in
    let step = ap (join_and (sets all)) (duty_stays inv.stays (count_trailing_zeros 32 n)) ∙ c.in_ok-add_duty.ensures.value in
    record {
      fits = omega (arith, and_le_l n (n - 1), inv.fits);
      stays = stays_on inv.stays c.add_duty.ensures.stays;
      same = ap (λ s. fold (join_duty ps r) s (members (bit_and n (n - 1)))) (sym step) ∙ sym (duty_joined ps r (sets all) n (omega (arith, c.loop-rest-test.true)) inv.fits) ∙ inv.same;
    }

pub returns-clause-value : goal.returns-clause-value
returns-clause-value c =
    sym c.loop-rest.invariant.same ∙ no_duty_left c.args.self.now.outline.parts.now (played c.args.self.now.turn) _ c.loop-rest.rest c.loop-rest-test.false
