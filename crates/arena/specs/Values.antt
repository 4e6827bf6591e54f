-- The values of a game: what its book says.
use Rattle.std.specs.Prelude.{◌≡◌, ℕ, ◌^◌, ◌<◌, Some, None, Option}
use Rattle.terms.specs.declared.count.Count.{Count}
use Rattle.terms.specs.declared.count.Count.TheVariants.{Lost, Limited, Unlimited}
use Rattle.arena.specs.Arena.{Arena, Place}
use Rattle.terms.specs.Order.{Most, Least}
use Rattle.arena.specs.Count.{Counts}

-- s is the spoiling input of what counts c, where each of m inputs leads, by its answer, to a count: the input that
-- leads to the least; only what is limited has one
abbrev pub Spoils : Count → ℕ → (ℕ → Count) → Option ℕ → Type 0
Spoils Lost m f s = s ≡ None
Spoils (Limited k) m f s = (x : ℕ) × (s ≡ Some x) × Least m f x
Spoils Unlimited m f s = s ≡ None

-- the count of each position, its answer to each input (the output whose move counts most), and its spoiling input
pub record Values (a : Arena) : Type 0 where
  pub count : ℕ → Count
  pub answer : ℕ → ℕ → ℕ
  pub spoiling : ℕ → Option ℕ
  pub counts : (p : ℕ) → Counts a p (count p)
  pub answers : (p x : ℕ) → Place a p → x < 2 ^ a.inputs → Most (2 ^ a.outputs) (λ y. count (a.move p x y)) (answer p x)
  pub spoils : (p : ℕ) → Spoils (count p) (2 ^ a.inputs) (λ x. count (a.move p x (answer p x))) (spoiling p)
