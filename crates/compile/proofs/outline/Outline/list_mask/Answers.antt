-- Each duty of the list is covered, and so is the list.
use Rattle.std.proofs.Common.{◌≡◌, fold, ap, ◌∙◌, arith}
use lib.Bits.{bit_or}
use Rattle.std.proofs.lemmas.Nat.Bits.{shr_and_one}
use Rattle.rules.specs.Rule.{bit}
use Rattle.compile.proofs.ReadsLaws.{duty_in, duty_out, list_covered}
use Rattle.compile.proofs.outline.Outline.list_mask.Goals as goal
use Rattle.compile.proofs.outline.Outline.list_mask.Goals.{then-duties-d-eq1, else-duties-d-eq1}

pub loop-d-preserved : goal.loop-d-preserved
loop-d-preserved c =
    let ps = c.args.self.now.parts.now in
    let n = c.union-duties.result in
    let d = c.loop-d.d in
    let m = c.loop-d.mask in
    elim c.if-duties-d-eq1.branch [
      | then-duties-d-eq1 w ↦ rw (w.mask-is, w.join-mask.ensures) (λ e l has. duty_in ps n d m c.loop-d.invariant e l has w.duty_mask.result w.duty_mask.ensures)
      | else-duties-d-eq1 w ↦ rw w.mask-is (λ e l has. duty_out ps n d m c.loop-d.invariant e l has (λ b. omega (arith, shr_and_one n d, w.if-duties-d-eq1.false, b)))
    ]

pub returns : goal.returns
returns c =
    let xs = c.args.list.now in
    let is : c.union-duties.result ≡ fold bit_or 0 xs = c.union-duties.ensures ∙ ap (fold bit_or 0) c.as_slice.ensures.sets in
    list_covered c.args.self.now.parts.now c.loop-d.mask xs (λ d low has. c.loop-d.invariant d (omega (arith, c.loop-d-test.false, c.loop-d.auto.d-end)) (ap (λ n. bit n d) is ∙ has))
