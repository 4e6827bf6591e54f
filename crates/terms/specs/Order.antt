-- The order of counts.
-- AtMost, Below, plus: counts compared and added to. Most, Least: the best and the worst of several, the lowest on ties.
use Rattle.std.specs.Prelude.{ℕ, zero, suc, ◌+◌, ◌≤◌}
use Rattle.terms.specs.declared.count.Count.{Count}
use Rattle.terms.specs.declared.count.Count.TheVariants.{Lost, Limited, Unlimited}
use Rattle.terms.specs.Best.{Best}

-- c is at most d: lost is below every number, and unlimited above
unfoldable pub AtMost : Count → Count → Type 0
AtMost Lost d = Unit {0}
AtMost (Limited k) Lost = ⊥
AtMost (Limited k) (Limited j) = k ≤ j
AtMost (Limited k) Unlimited = Unit {0}
AtMost Unlimited Lost = ⊥
AtMost Unlimited (Limited j) = ⊥
AtMost Unlimited Unlimited = Unit {0}

-- c is less than d
abbrev pub Below : Count → Count → Type 0
Below c d = AtMost d c → ⊥

-- c and k rounds more, where lost is -1; unlimited stays so
unfoldable pub plus : Count → ℕ → Count
plus Lost zero = Lost
plus Lost (suc k) = Limited k
plus (Limited n) k = Limited (n + k)
plus Unlimited k = Unlimited

-- of the numbers below m, y has the greatest count, and is the lowest that has
abbrev pub Most : ℕ → (ℕ → Count) → ℕ → Type 0
Most m f y = Best AtMost m f y

-- of the numbers below m, x has the least count, and is the lowest that has
abbrev pub Least : ℕ → (ℕ → Count) → ℕ → Type 0
Least m f x = Best (λ c d. AtMost d c) m f x
