-- The test is whether the numbers fit.
use Rattle.std.proofs.Common.{arith}
use Rattle.std.proofs.lemmas.Bool.Decides.{nat_tests}
use Rattle.arena.specs.Tabled.{fitting}
use Rattle.compile.proofs.compiled.Compiled.offered.Goals as goal

pub returns-then-self-ge1 : goal.returns-then-self-ge1
unfolding fitting
returns-then-self-ge1 c = grind (arith, nat_tests)

pub returns-else-self-le4 : goal.returns-else-self-le4
unfolding fitting
returns-else-self-le4 c = grind (arith, nat_tests)
