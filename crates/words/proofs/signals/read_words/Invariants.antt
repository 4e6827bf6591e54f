-- The words before the place are read, and fewer bytes are left with each.
use Rattle.std.proofs.Common.{◌-◌, ◌≤◌, length}
use Rattle.words.proofs.ReadLaws.{Reading}
use Rattle.words.proofs.signals.read_words.Given as goal

abbrev pub invariant-loop-names : goal.invariant-loop-names
invariant-loop-names l = (l.at ≤ length l.text) × Reading l.text l.reader l.at l.names

abbrev pub decreases-loop-names : goal.decreases-loop-names
decreases-loop-names l = length l.text - l.at
