use Rattle.std.proofs.Common.{◌≡◌, length}
use Rattle.compile.specs.Reads.{Reading}
use Rattle.compile.proofs.reads.masks_of.Given as goal

abbrev pub invariant-loop-k : goal.invariant-loop-k
invariant-loop-k l = record {
  long : length l.masks ≡ 64;
  reads : Reading l.k l.parts l.masks;
}
