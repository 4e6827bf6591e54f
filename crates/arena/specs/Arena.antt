-- The arena of a game: what the game means.
-- Arena: its five things. Walks, Sized, Sound: the laws that they keep. Place: a position.
-- beyond: whether a question is out of range.
use Rattle.std.specs.Prelude.{◌≡◌, ℕ, ◌^◌, ◌<◌, ◌≤◌, Bool, ◌||◌, ◌==◌, nat_le, nat_lt}

-- the number of positions, of input signals and of output signals, the start, and the move from a position
-- under an input and an output; 0 as a start or a move says lost
pub record Arena : Type 0 where
  pub size : ℕ
  pub inputs : ℕ
  pub outputs : ℕ
  pub start : ℕ
  pub move : ℕ → ℕ → ℕ → ℕ

-- the positions are numbered from 1 to the size
abbrev pub Place : Arena → ℕ → Type 0
Place a p = (1 ≤ p) × (p ≤ a.size)

-- whether position, input or output lies outside n positions, i input and o output signals
unfoldable pub beyond : ℕ → ℕ → ℕ → ℕ → ℕ → ℕ → Bool
beyond n i o p x y = p == 0 || (nat_lt n p || (nat_le (2 ^ i) x || nat_le (2 ^ o) y))

-- the laws that do not speak of the size: there are at most four signals each way, and nothing leads out of
-- lost or answers an input or an output that does not exist
pub record Walks (a : Arena) : Type 0 where
  pub few_in : a.inputs ≤ 4
  pub few_out : a.outputs ≤ 4
  pub from_lost : (x y : ℕ) → a.move 0 x y ≡ 0
  pub past_input : (p x y : ℕ) → 2 ^ a.inputs ≤ x → a.move p x y ≡ 0
  pub past_output : (p x y : ℕ) → 2 ^ a.outputs ≤ y → a.move p x y ≡ 0

-- the laws of the size: it is at most 255, the start is a position unless the size is 0, moves are positions or
-- lost, and nothing leads out of what is no position
pub record Sized (a : Arena) : Type 0 where
  pub small : a.size ≤ 255
  pub no_start : a.size ≡ 0 → a.start ≡ 0
  pub start_low : 1 ≤ a.size → 1 ≤ a.start
  pub start_high : a.start ≤ a.size
  pub within : (p x y : ℕ) → a.move p x y ≤ a.size
  pub past_size : (p x y : ℕ) → a.size < p → a.move p x y ≡ 0

pub record Sound (a : Arena) : Type 0 where
  pub walks : Walks a
  pub sized : Sized a
