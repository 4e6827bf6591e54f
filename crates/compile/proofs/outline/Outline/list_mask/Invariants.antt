-- The mask covers the duties of the list that were come to.
use Rattle.std.proofs.Common.{◌≡◌, ℕ, ◌<◌}
use Rattle.rules.specs.Rule.{bit}
use Rattle.rules.specs.Parts.{duty_part}
use Rattle.rules.specs.Progress.{part_after}
use Rattle.compile.specs.Reads.{Covers}
use Rattle.compile.proofs.outline.Outline.list_mask.Given as goal

abbrev pub invariant-loop-d : goal.invariant-loop-d
invariant-loop-d l = (e : ℕ) → e < l.d → bit l.duties e ≡ 1 → Covers l.mask (λ r. part_after l.fn.self.parts.now r (duty_part l.fn.self.parts.now e))
