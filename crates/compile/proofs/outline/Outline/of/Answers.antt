use Rattle.std.proofs.Common.{◌≡◌, ◌<◌, true, length, sym, subst, arith}
use Rattle.rules.specs.Parts.{part, is_duty}
use Rattle.rules.proofs.PartLaws.{duty_below}
use Rattle.compile.specs.Numbering.{Numbered}
use Rattle.compile.proofs.NumberLaws.{numbered_none, numbered_other, numbered_duty, numbered_owners}
use Rattle.compile.proofs.outline.Outline.of.Goals as goal
use Rattle.compile.proofs.outline.Outline.of.Goals.{In-loop-k, then-is_duty, else-is_duty}

pub loop-k-init : goal.loop-k-init
loop-k-init c = numbered_none c.args.parts.now

-- the next number is that of a duty
next_low : (c : In-loop-k) → is_duty (part c.args.parts.now c.loop-k.k) ≡ true → c.loop-k.next < 32
next_low c duty = omega (arith, duty_below c.args.parts.now c.loop-k.k duty, c.loop-k.invariant.next_is, c.requires.1.1)

pub bounds-owners-next : goal.bounds-owners-next
bounds-owners-next c =
    next_low (goal.at.bounds-owners-next c).In-loop-k (sym c.if-is_duty.ensures)

pub loop-k-preserved : goal.loop-k-preserved
loop-k-preserved c =
    elim c.if-is_duty.branch [
      | then-is_duty w ↦
          let duty = sym w.if-is_duty.ensures in
          rw (w.owners-is, w.next-is) (numbered_duty _ _ _ _ _ c.loop-k.invariant c.loop-k-test.true c.requires.0 duty (next_low (goal.at.loop-k-preserved c).In-loop-k duty))
      | else-is_duty w ↦
          rw (w.owners-is, w.next-is) (numbered_other _ _ _ _ _ c.loop-k.invariant c.loop-k-test.true c.requires.0 (sym w.if-is_duty.ensures))
    ]

pub invariant_of-result : goal.invariant_of-result
invariant_of-result c =
    let ps = c.args.parts.now in
    let whole : c.loop-k.k ≡ length ps = omega arith in
    let all = subst (λ k. Numbered ps k c.loop-k.numbers c.loop-k.owners c.loop-k.next) whole c.loop-k.invariant in
    record {
      outlines = record { short = c.requires.0; falls = c.requires.1.0; numbered = all.numbers_are; duties = c.requires.1.1; owned = numbered_owners ps _ _ _ all };
      reads = c.masks_of.ensures;
    }
