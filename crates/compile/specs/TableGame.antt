-- A compiled rule as a game: the table of moves in a store of positions.
-- move_in: what the store says. arena_in: the game.
use Rattle.std.specs.Prelude.{ℕ, ◌-◌, List, slice_index, slice_index_or}
use Rattle.arena.specs.Arena.{Arena}
use Rattle.arena.specs.Tabled.{tabled}
use Rattle.compile.specs.declared.compiled.Compiled.{Compiled}
use Rattle.compile.specs.declared.position.Position.{Position}
use Rattle.compile.specs.Positions.{unused, turn_number}

-- the number that the entry of position p has for the round of input x and output y; 0 where there is no entry
abbrev pub move_in : ℕ → List Position → ℕ → ℕ → ℕ → ℕ
move_in o store p x y = slice_index (slice_index_or store (p - 1) unused).moves (turn_number o x y)

-- the game of these numbers whose moves stand in the store
abbrev pub arena_in : Compiled → List Position → Arena
arena_in c store = tabled c.positions c.inputs c.outputs (move_in c.outputs store)
