use Rattle.std.proofs.Common.{◌≡◌, ◌≤◌, [], length, drop}
use Rattle.rules.specs.Sets.{sifted}
use Rattle.compile.proofs.join.sift.Given as goal

abbrev pub invariant-loop-x : goal.invariant-loop-x
invariant-loop-x l = record { few : length l.kept ≤ 32; same : sifted l.kept (drop l.x-index l.ascending) ≡ sifted [] l.ascending }
