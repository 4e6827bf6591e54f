-- What a pick of the least says.
use Rattle.std.specs.Prelude.{◌≡◌, ℕ, ◌<◌, Option, IsTrue}
use Rattle.std.specs.declared.cmp.Ordering.{Ordering}
use Rattle.std.specs.Ordering.{partial_le}

-- c is no more than d, by the order of a type
abbrev pub UpTo : {A : Type 0} → (A → A → Option Ordering) → A → A → Type 0
UpTo cmp c d = IsTrue (partial_le cmp c d)

-- each result of a call at a number below n is the one that f gives
abbrev pub Computes : {A : Type 0} → (ℕ → A → Type 0) → ℕ → (ℕ → A) → Type 0
Computes {A} gives n f = (x : ℕ) (r : A) → x < n → gives x r → r ≡ f x
