use Rattle.compile.specs.Numbering.{Numbered}
use Rattle.compile.proofs.outline.Outline.of.Given as goal

abbrev pub invariant-loop-k : goal.invariant-loop-k
invariant-loop-k l = Numbered l.parts l.k l.numbers l.owners l.next
