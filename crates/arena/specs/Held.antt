-- How long a position is held, by sets of positions.
-- Held: for a number of rounds. Settled: nothing is dropped any more. InTime: 256 sweeps suffice.
use Rattle.std.specs.Prelude.{ℕ, zero, suc, ◌^◌, ◌<◌, ◌≤◌}
use Rattle.arena.specs.Arena.{Arena, Place}

-- an output answers the input x with a move into H
abbrev pub Answered : Arena → (ℕ → Type 0) → ℕ → ℕ → Type 0
Answered a H p x = (y : ℕ) × (y < 2 ^ a.outputs) × H (a.move p x y)

-- a round from p can end in H: the input comes first, then the output, so each input needs one
abbrev pub Keeps : Arena → (ℕ → Type 0) → ℕ → Type 0
Keeps a H p = (x : ℕ) → x < 2 ^ a.inputs → Answered a H p x

-- every position is held for 0 rounds, and for k + 1 when a round can end in what is held for k
unfoldable pub Held : Arena → ℕ → ℕ → Type 0
Held a zero p = Place a p
Held a (suc k) p = Place a p × Keeps a (Held a k) p

-- what is held for k is held for k + 1: the sweep behind sweep k drops no position
abbrev pub Settled : Arena → ℕ → Type 0
Settled a k = (p : ℕ) → Held a k p → Held a (suc k) p

-- one of the first 256 sweeps drops none
abbrev pub InTime : Arena → Type 0
InTime a = (k : ℕ) × (k ≤ 255) × Settled a k
