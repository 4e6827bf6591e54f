-- The derived `==` of parts is their sameness.
use Rattle.std.proofs.Common.{◌≡◌, refl, arith}
use Rattle.std.proofs.lemmas.Bool.Decides.{nat_tests}
use Rattle.rules.specs.declared.part.Signal.TheVariants.{Input, Output}
use Rattle.rules.specs.declared.part.Part.{Part}
use Rattle.rules.specs.declared.part.Part.TheVariants.{True, False, Literal, Next, Release, Both, Either}
use Rattle.rules.specs.contracts.part.PartPartialEq.TheImpl
use Rattle.rules.specs.Table.{same_part}

pub derived_same : (x y : Part) → TheImpl.eq-value.it x y ≡ same_part x y
unfolding same_part
derived_same (Literal (Input j) want) (Literal (Input k) wish) = grind (arith, nat_tests)
derived_same (Literal (Output j) want) (Literal (Output k) wish) = grind (arith, nat_tests)
derived_same (Next f) (Next g) = grind (arith, nat_tests)
derived_same (Release a b) (Release d e) = refl
derived_same (Both a b) (Both d e) = refl
derived_same (Either a b) (Either d e) = refl
derived_same True True = refl
derived_same False False = refl
derived_same (Literal (Input k) want) y = refl
derived_same x (Literal (Input k) want) = refl
derived_same x y = refl
