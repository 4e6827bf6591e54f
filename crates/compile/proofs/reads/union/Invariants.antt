use Rattle.std.proofs.Common.{◌≡◌, drop, fold}
use lib.Bits.{bit_or}
use Rattle.compile.proofs.reads.union.Given as goal

abbrev pub invariant-loop-set : goal.invariant-loop-set
invariant-loop-set l = fold bit_or l.all (drop l.set-index l.sets) ≡ fold bit_or 0 l.sets
