-- Lists of numbers are the same exactly where they are equal.
use Rattle.std.specs.Prelude.{◌≡◌, ℕ, List, Decides, refl}
use Rattle.std.proofs.lemmas.Slice.Eq.{compares_Decides}
use Rattle.terms.specs.Lists.{same_list}

pub same_list_decides : (xs ys : List ℕ) → Decides (same_list xs ys) (xs ≡ ys)
same_list_decides xs ys = compares_Decides same_list (record { empty = refl; shorter = λ y s. refl; longer = λ x s. refl; heads = λ x y s t. refl }) xs ys
