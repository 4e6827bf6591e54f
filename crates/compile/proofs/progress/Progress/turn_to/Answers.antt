use Rattle.std.proofs.Common.{false, true≢false, get_or, set, get_or-set_same, get_or-set_other, inl, inr, sym, refl, ap, ◌∙◌, subst, arith}
use Rattle.std.proofs.lemmas.Bool.{cases_eq}
use Rattle.compile.specs.Played.{played}
use Rattle.compile.specs.Progressing.{rule}
use Rattle.compile.specs.Reads.{none, Agree}
use Rattle.compile.proofs.ReadsLaws.{reading_all}
use Rattle.compile.proofs.ExpandLaws.{remembers_on}
use Rattle.compile.proofs.progress.Progress.turn_to.Goals as goal
use Rattle.compile.proofs.progress.Progress.turn_to.Goals.{then-not-hides, else-not-hides}

pub loop-k-preserved : goal.loop-k-preserved
loop-k-preserved c =
    let inv = c.loop-k.invariant in
    let k = c.loop-k.k in
    elim c.if-not-hides.branch [
      | then-not-hides w ↦ rw w.self-is (record {
        outline = inv.outline;
        turn = inv.turn;
        alike = λ j l e. elim (cases_eq j k) [
          | inl same ↦ absurd (true≢false (sym e ∙ ap (λ m. get_or m j false) w.forget.ensures.0 ∙ ap (λ i. get_or (set c.loop-k.self.afters.known k false) i false) same ∙ get_or-set_same c.loop-k.self.afters.known k false false (omega (arith, c.loop-k.self.afters_right.marks, c.loop-k-test.true))))
          | inr other ↦ inv.alike j (omega arith) (sym (get_or-set_other c.loop-k.self.afters.known k j false false other) ∙ ap (λ m. get_or m j false) (sym w.forget.ensures.0) ∙ e)
        ];
      })
      | else-not-hides w ↦ rw w.self-is (record {
        outline = inv.outline;
        turn = inv.turn;
        alike = λ j l e. elim (cases_eq j k) [
          | inl same ↦ subst (λ i. Agree (get_or c.loop-k.self.outline.masks i none) (played c.loop-k.self.turn) (played c.args.turn)) (sym same) (w.if-not-hides.ensures.agrees refl)
          | inr other ↦ inv.alike j (omega arith) e
        ];
      })
    ]

pub invariant_of-self-2 : goal.invariant_of-self-2
invariant_of-self-2 c =
    let self = c.loop-k.self in
    record {
      lists_right = self.lists_right;
      afters_right = remembers_on _ _ self.afters.known self.afters.lists (λ k l e. reading_all (rule self) self.outline.outlines.falls self.outline.masks self.outline.reads k _ _ (c.loop-k.invariant.alike k (omega (arith, c.loop-k-test.false)) e)) self.afters_right;
    }
