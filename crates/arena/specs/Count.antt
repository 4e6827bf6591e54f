-- A position's count.
use Rattle.std.specs.Prelude.{ℕ, suc}
use Rattle.terms.specs.declared.count.Count.{Count}
use Rattle.terms.specs.declared.count.Count.TheVariants.{Lost, Limited, Unlimited}
use Rattle.arena.specs.Arena.{Arena, Place}
use Rattle.arena.specs.Held.{Held}

-- p counts c: the greatest number of rounds that it is held for, or unlimited where there is none; what is no position
-- is lost
unfoldable pub Counts : Arena → ℕ → Count → Type 0
Counts a p Lost = Place a p → ⊥
Counts a p (Limited k) = Held a k p × (Held a (suc k) p → ⊥)
Counts a p Unlimited = (k : ℕ) → Held a k p
