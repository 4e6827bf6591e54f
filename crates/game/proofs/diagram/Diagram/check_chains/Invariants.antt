-- The records below r are marked.
use Rattle.std.proofs.Common.{◌≡◌, ℕ, ◌<◌, ◌≤◌, true, false, get_or}
use Rattle.game.proofs.diagram.Diagram.check_chains.Given as goal

abbrev pub invariant-loop-r : goal.invariant-loop-r
invariant-loop-r l = (q : ℕ) → 1 ≤ q → q < l.r → get_or l.marks q false ≡ true
