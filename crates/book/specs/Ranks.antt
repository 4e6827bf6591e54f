-- What the solver keeps: a rank for each position, one more than its count so far, and 0 for lost.
-- Tells, Ranks, Amid: ranks in the course of the sweeps. counts_of: the counts that they stand for when these are over.
-- Filled: an answer in a book.
use Rattle.std.specs.Prelude.{◌≡◌, ℕ, zero, suc, ◌^◌, ◌<◌, ◌≤◌, cond, List, nat_le, slice_index}
use Rattle.terms.specs.declared.count.Count.{Count}
use Rattle.terms.specs.declared.count.Count.TheVariants.{Lost, Limited, Unlimited}
use Rattle.arena.specs.Arena.{Arena}
use Rattle.arena.specs.Held.{Held}
use Rattle.arena.specs.Values.{Values}

-- r is how many of the numbers 0 to k the position q is held for
pub record Tells (a : Arena) (k q r : ℕ) : Type 0 where
  pub most : r ≤ suc k
  pub below : (j : ℕ) → j < r → Held a j q
  pub above : (j : ℕ) → r ≤ j → j ≤ k → Held a j q → ⊥

-- the ranks after k sweeps
abbrev pub Ranks : Arena → ℕ → List ℕ → Type 0
Ranks a k rs = (q : ℕ) → Tells a k q (slice_index rs q)

-- the ranks amid the sweep after k, which has come to p
pub record Amid (a : Arena) (k p : ℕ) (rs : List ℕ) : Type 0 where
  pub done : (q : ℕ) → q < p → Tells a (suc k) q (slice_index rs q)
  pub ahead : (q : ℕ) → p ≤ q → Tells a k q (slice_index rs q)

-- q is held for k, by the ranks
abbrev pub Over : List ℕ → ℕ → ℕ → Type 0
Over rs k q = k < slice_index rs q

-- the count that a rank stands for, where top is unlimited
unfoldable pub count_of : ℕ → ℕ → Count
count_of top zero = Lost
count_of top (suc r) = cond (nat_le top (suc r)) Unlimited (Limited r)

abbrev pub counts_of : ℕ → List ℕ → ℕ → Count
counts_of top rs q = count_of top (slice_index rs q)

-- y is the answer to x, or 0 where there is no such input
pub record Filled {a : Arena} (v : Values a) (p x y : ℕ) : Type 0 where
  pub answer : x < 2 ^ a.inputs → y ≡ v.answer p x
  pub no_answer : 2 ^ a.inputs ≤ x → y ≡ 0
