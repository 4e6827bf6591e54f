-- The bytes of an image.
use Rattle.std.specs.Prelude.{ℕ, ◌+◌, ◌*◌, List, slice_index}

-- the byte at a place, 0 past the end
abbrev pub byte : List ℕ → ℕ → ℕ
byte bs k = slice_index bs k

-- two bytes as a number, the higher first
abbrev pub word : List ℕ → ℕ → ℕ
word bs k = 256 * byte bs k + byte bs (k + 1)
