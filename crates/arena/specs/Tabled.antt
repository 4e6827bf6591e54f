-- The arena of a table of moves, whatever the table says.
-- fitting: whether the numbers can be a game's. offered: a number of it. tabled: the arena.
use Rattle.std.specs.Prelude.{ℕ, Bool, cond, ◌&&◌, nat_le}
use Rattle.arena.specs.Arena.{Arena, beyond}

-- whether so many positions, inputs and outputs can be a game's
unfoldable pub fitting : ℕ → ℕ → ℕ → Bool
fitting n i o = (nat_le i 4 && nat_le o 4) && (nat_le 1 n && nat_le n 255)

-- the number k, or 0 where the numbers can be no game's
abbrev pub offered : ℕ → ℕ → ℕ → ℕ → ℕ
offered n i o k = cond (fitting n i o) k 0

-- the start is position 1, and a move is what the table says, or lost where that is no position; numbers that can be
-- no game's make size 0
abbrev pub tabled : ℕ → ℕ → ℕ → (ℕ → ℕ → ℕ → ℕ) → Arena
tabled n i o f = record {
  size = offered n i o n;
  inputs = offered n i o i;
  outputs = offered n i o o;
  start = offered n i o 1;
  move = λ p x y. cond (beyond (offered n i o n) (offered n i o i) (offered n i o o) p x y) 0 (cond (nat_le (f p x y) n) (f p x y) 0);
}
