use Rattle.std.proofs.Common.{◌≡◌, ◌*◌, ◌++◌, length, take, drop}
use Rattle.rules.specs.Sets.{unions}
use Rattle.compile.proofs.join.put_unions.Given as goal

abbrev pub invariant-loop-i : goal.invariant-loop-i
invariant-loop-i l = take (l.i * length l.ys) l.out ++ unions (drop l.i l.xs) l.ys ≡ unions l.xs l.ys
