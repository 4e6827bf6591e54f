use Rattle.std.proofs.Common.{◌≡◌, map, take}
use lib.Bits.{bit_or}
use Rattle.compile.proofs.join.put_row.Given as goal

abbrev pub invariant-loop-i : goal.invariant-loop-i
invariant-loop-i l = take l.i l.row ≡ map (bit_or l.x) (take l.i l.ys)
