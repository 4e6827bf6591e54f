-- What is out of range.
use Rattle.std.proofs.Common.{◌≡◌, ℕ, ◌^◌, ◌<◌, ◌≤◌, true, false, ◌⊎◌, arith}
use Rattle.std.proofs.lemmas.Bool.Decides.{nat_tests}
use Rattle.arena.specs.Arena.{beyond}

pub in_range : (n i o p x y : ℕ) → beyond n i o p x y ≡ false → (1 ≤ p) × (p ≤ n) × (x < 2 ^ i) × (y < 2 ^ o)
unfolding beyond
in_range n i o p x y h = grind (arith, nat_tests)

pub range_beyond : (n i o p x y : ℕ) → (p ≡ 0) ⊎ ((n < p) ⊎ ((2 ^ i ≤ x) ⊎ (2 ^ o ≤ y))) → beyond n i o p x y ≡ true
unfolding beyond
range_beyond n i o p x y h = grind (arith, nat_tests)

-- what is in range is not beyond it
pub range_within : (n i o p x y : ℕ) → 1 ≤ p → p ≤ n → x < 2 ^ i → y < 2 ^ o → beyond n i o p x y ≡ false
unfolding beyond
range_within n i o p x y l h a b = grind (arith, nat_tests)
