-- The list after the round is entered, and its number is written.
use Rattle.std.proofs.Common.{◌≡◌, suc, ◌<◌, length, set, Some, None, ap, ◌∙◌, subst, arith}
use Rattle.std.proofs.lemmas.List.{get_or_default}
use Rattle.terms.specs.declared.refusal.Refusal.TheVariants.{TooManyPositions}
use Rattle.rules.specs.Sets.{sets}
use Rattle.rules.specs.Explore.{met}
use Rattle.compile.specs.declared.position.Position.{Position}
use Rattle.compile.specs.Listed.{told}
use Rattle.compile.specs.Positions.{unused, reason}
use Rattle.compile.specs.Charting.{known_in, list_next, Round}
use Rattle.compile.specs.Progressing.{rule}
use Rattle.compile.proofs.GivenLaws.{err_is}
use Rattle.compile.proofs.StoreLaws.{in_store}
use Rattle.compile.proofs.ChartLaws.{next_is, round_from, entered_length}
use Rattle.compile.proofs.explore.Explorer.explore_anew.Goals as goal
use Rattle.compile.proofs.explore.Explorer.explore_anew.Goals.{In_ok-next}

-- the list after the round from the position at p
leads : (c : In_ok-next) → list_next c.args.self.now.signals.outputs (rule c.args.self.now.progress) c.args.p c.args.t c.args.found.now.store.now ≡ sets c.in_ok-next.next
leads c =
    let went : c.list_after.result ≡ Some c.in_ok-next.next = grind arith in
    next_is _ _ _ _ _ c.index-found-p.result _ _ (in_store _ _ _ c.requires.stored.0 c.requires.stored.1) c.at-turn.ensures (c.list_after.ensures.value ∙ ap told went)

pub returns-in_err-n-clause-goes : goal.returns-in_err-n-clause-goes
returns-in_err-n-clause-goes c =
    let old = c.args.found.now in
    let full : c.enter_list.result ≡ None = grind arith in
    let many : c.in_err-n.field-0.0 ≡ TooManyPositions = grind arith in
    let enters = rw full at c.enter_list.ensures.enters in
    rw (err_is _ c.from_residual-in_err-n.ensures.1, many)
    (ap (λ s. reason (met (suc c.args.p) (known_in old.used old.store.now) s)) (leads (goal.at.returns-in_err-n-clause-goes c).In_ok-next) ∙ ap reason (enters (suc c.args.p)))

pub returns-clause-goes : goal.returns-clause-goes
returns-clause-goes c =
    let store = c.args.found.now.store.now in
    let used = c.args.found.now.used in
    let n = c.in_ok-n.n in
    let after = c.enter_list.new.found.store.now in
    let given : c.enter_list.result ≡ Some n = grind arith in
    let entry = rw given at c.enter_list.ensures.enters in
    let lt-after : c.args.p < length after = omega (arith, ap length entry.holds, entered_length used c.in_ok-next.next n store, in_store _ _ _ c.requires.stored.0 c.requires.stored.1) in (
      n,
      rw given at c.enter_list.ensures.used,
      subst (λ (x : Position). Round c.args.self.now.signals.outputs (rule c.args.self.now.progress) used c.args.p c.args.t store (set after c.args.p (record { list = x.list; moves = set x.moves c.args.t n })) n)
          (get_or_default after c.args.p unused _ lt-after)
          (round_from _ _ used c.args.p c.args.t store after c.in_ok-next.next n c.requires.stored.0 c.requires.stored.1 (leads (goal.at.returns-clause-goes c).In_ok-next) entry),
    )
