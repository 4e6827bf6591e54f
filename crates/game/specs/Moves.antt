-- A game's moves as a table.
use Rattle.std.specs.Prelude.{◌≡◌, ℕ, ◌+◌, ◌*◌, ◌<◌, List, slice_index}
use Rattle.arena.specs.Arena.{Arena}

-- the table has every move: 16 rows for each position, one for an input, of 16 outputs each
abbrev pub HasMoves : Arena → List ℕ → Type 0
HasMoves a moves = (p x y : ℕ) → p < 256 → x < 16 → y < 16 → slice_index moves (p * 256 + x * 16 + y) ≡ a.move p x y
