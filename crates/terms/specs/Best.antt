-- The best of several by an order, the lowest on ties.
use Rattle.std.specs.Prelude.{ℕ, ◌<◌}

-- of the numbers below m, y has the best f, by an order that says of two what is no better, and y is the lowest that has
pub record Best {A : Type 0} (le : A → A → Type 0) (m : ℕ) (f : ℕ → A) (y : ℕ) : Type 0 where
  pub here : y < m
  pub best : (z : ℕ) → z < m → le (f z) (f y)
  pub lowest : (z : ℕ) → z < y → le (f y) (f z) → ⊥
