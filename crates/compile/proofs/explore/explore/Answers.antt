-- The list of the root is the first position's, and exploring goes on from it.
use Rattle.std.proofs.Common.{◌≡◌, ◌*◌, ◌^◌, [], set, None, Some, sym, ap, ◌∙◌, subst, arith}
use Rattle.std.proofs.lemmas.List.{nil_from_length}
use Rattle.std.proofs.lemmas.Bool.{eqb-true}
use Rattle.terms.specs.declared.refusal.Refusal.TheVariants.{TooWide}
use Rattle.rules.specs.Progress.{list_of}
use Rattle.compile.specs.Listed.{told}
use Rattle.compile.specs.Positions.{reason}
use Rattle.compile.specs.Charting.{Charting}
use Rattle.compile.proofs.GivenLaws.{err_is}
use Rattle.compile.proofs.ChartLaws.{chart_first}
use Rattle.compile.proofs.CompilingLaws.{built_wide, built_lost}
use Rattle.compile.proofs.explore.explore.Goals as goal
use Rattle.compile.proofs.explore.explore.Goals.{After-list_of}

-- the list of the root, as it was worked out
first_list : (c : After-list_of) → list_of c.args.outline.parts.now c.args.root ≡ told c.list_of.result
first_list c = ap (λ ps. list_of ps c.args.root) (sym c.of-progress.ensures) ∙ c.list_of.ensures.value

pub returns-in_err-first : goal.returns-in_err-first
returns-in_err-first c =
    let none : c.list_of.result ≡ None = grind arith in
    let refusal : c.in_err-first.field-0.0 ≡ TooWide 0 = grind arith in
    rw (err_is _ c.from_residual.ensures.1, refusal) (ap reason (built_wide c.args.signals.inputs c.args.signals.outputs _ _ (first_list (goal.at.returns-in_err-first c).After-list_of ∙ ap told none)))

pub returns-then-is_empty : goal.returns-then-is_empty
returns-then-is_empty c =
    let first = c.in_ok-first.first in
    let some : c.list_of.result ≡ Some first = grind arith in
    let is = first_list (goal.at.returns-then-is_empty c).After-list_of ∙ ap told some in
    let none : first ≡ [] = nil_from_length first (eqb-true _ 0 (sym c.if-is_empty.ensures)) in
    ap reason (built_lost c.args.signals.inputs c.args.signals.outputs _ _ first is none)

pub explore_all-requires-clause-first : goal.explore_all-requires-clause-first
explore_all-requires-clause-first c =
    let i = c.args.signals.inputs in
    let o = c.args.signals.outputs in
    let ps = c.list_of.new.self.outline.parts.now in
    subst (λ e. Charting (2 ^ i * 2 ^ o) o ps 1 0 0 (set c.args.positions.now 0 e)) (sym c.of.ensures)
    (chart_first (2 ^ i * 2 ^ o) o ps c.in_ok-first.first c.args.positions.now c.requires.store.0 c.requires.store.1)
