-- The round that is alike comes before, and its move is this one's.
use Rattle.std.proofs.Common.{◌≡◌, ◌<◌, length, get_or, set, sym, ap, ◌∙◌, subst, arith}
use Rattle.std.proofs.lemmas.List.{get_or_default}
use lib.Bits.{bit_and, and_le_l}
use Rattle.arena.specs.Tally.{Played}
use Rattle.compile.specs.declared.position.Position.{Position}
use Rattle.compile.specs.Positions.{unused, turn_at}
use Rattle.compile.specs.Charting.{list_next, Round}
use Rattle.compile.specs.Progressing.{rule}
use Rattle.compile.proofs.StoreLaws.{in_store}
use Rattle.compile.proofs.AlikeLaws.{round_few, shown_agrees, round_alike}
use Rattle.compile.proofs.explore.Explorer.explore_round.Goals as goal

pub at-requires : goal.at-requires
at-requires c =
    let s = c.args.self.now in
    ((round_few s.signals.inputs s.signals.outputs c.args.t s.few_inputs s.few_outputs c.requires.round).0, s.few_outputs)

pub number-alike-requires : goal.number-alike-requires
number-alike-requires c =
    let s = c.args.self.now in
    let few = round_few s.signals.inputs s.signals.outputs c.args.t s.few_inputs s.few_outputs c.requires.round in
    let turn = c.at.result in (
      s.few_outputs,
      (
        omega (arith, c.shown.ensures.0, and_le_l turn.input c.args.mask.inputs, ap (λ (r : Played). r.input) c.at.ensures, few.1.0),
        omega (arith, c.shown.ensures.1, and_le_l turn.output c.args.mask.outputs, ap (λ (r : Played). r.output) c.at.ensures, few.1.1),
      ),
    )

pub bounds-found-t : goal.bounds-found-t
bounds-found-t c =
    let s = c.args.self.now in
    (round_few s.signals.inputs s.signals.outputs c.args.t s.few_inputs s.few_outputs c.requires.round).0

pub returns-clause-goes : goal.returns-clause-goes
returns-clause-goes c =
    let s = c.args.self.now in
    let o = s.signals.outputs in
    let p = c.args.p in
    let t = c.args.t in
    let u = c.number-alike.result in
    let store = c.args.found.now.store.now in
    let used = c.args.found.now.used in
    let inside : p < length store = in_store used p store c.requires.charting.0.stored c.requires.charting.1 in
    let few = round_few s.signals.inputs o t s.few_inputs s.few_outputs c.requires.round in
    let agrees = shown_agrees c.args.mask o t _ _ u few.0
    (c.shown.ensures.0 ∙ ap (λ (r : Played). bit_and r.input c.args.mask.inputs) c.at.ensures)
    (c.shown.ensures.1 ∙ ap (λ (r : Played). bit_and r.output c.args.mask.outputs) c.at.ensures) c.number-alike.ensures.0 in
    let same : list_next o (rule s.progress) p u store ≡ list_next o (rule s.progress) p t store = sym (c.requires.covers (turn_at o t) (turn_at o u) agrees) in
    let m = get_or (get_or store p c.index-found-p.result).moves u 0 in
    let is : m ≡ get_or (get_or store p unused).moves u 0 = ap (λ (e : Position). get_or e.moves u 0) (get_or_default store p _ unused inside) in
    let w = round_alike _ o (rule s.progress) used p t u store m c.requires.charting.0 c.requires.charting.1 (omega (arith, c.if-t-alike.false)) same is in (
      m,
      w.0,
      subst (λ (e : Position). Round o (rule s.progress) used p t store (set store p (record { list = e.list; moves = set e.moves t m })) m)
          (sym (get_or_default store p _ unused inside)) w.1,
    )
