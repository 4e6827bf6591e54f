-- A play book: the bytes that say a game's values.
-- front, Entry: a position's record. Book: the whole. IsBook: the bytes are this game's book.
use Rattle.std.specs.Prelude.{◌≡◌, ℕ, ◌+◌, ◌-◌, ◌*◌, ◌/◌, ◌%◌, ◌^◌, ◌<◌, ◌≤◌, List, [], ◌∷◌, ◌++◌, length, take, drop, Some, None, Option, slice_index}
use Rattle.terms.specs.declared.count.Count.{Count}
use Rattle.terms.specs.declared.count.Count.TheVariants.{Lost, Limited, Unlimited}
use Rattle.arena.specs.Arena.{Arena, Place}
use Rattle.arena.specs.Values.{Values}

-- the status flag of a count: 1 for unlimited, 2 for limited; a position is never lost
abbrev pub status : Count → ℕ
status Lost = 0
status (Limited k) = 2
status Unlimited = 1

-- the number of rounds that stands for a count
abbrev pub rounds : Count → ℕ
rounds Lost = 0
rounds (Limited k) = k
rounds Unlimited = 0

-- the byte that stands for a spoiling input
abbrev pub input_byte : Option ℕ → ℕ
input_byte None = 0
input_byte (Some x) = x

-- a record's first eight bytes: flag, three alignment zeros, the count in two bytes, the spoiling input, a zero
abbrev pub front : Count → Option ℕ → List ℕ
front c s = status c ∷ 0 ∷ 0 ∷ 0 ∷ rounds c / 256 ∷ rounds c % 256 ∷ input_byte s ∷ 0 ∷ []

-- a record's other sixteen bytes: the answers, and 0 for each input that does not exist
pub record AnswerBytes (a : Arena) (v : Values a) (p : ℕ) (bytes : List ℕ) : Type 0 where
  pub sixteen : length bytes ≡ 16
  pub answer : (x : ℕ) → x < 2 ^ a.inputs → slice_index bytes x ≡ v.answer p x
  pub no_answer : (x : ℕ) → 2 ^ a.inputs ≤ x → slice_index bytes x ≡ 0

-- the record of p, 24 bytes
pub record Entry (a : Arena) (v : Values a) (p : ℕ) (bytes : List ℕ) : Type 0 where
  pub answers : List ℕ
  pub layout : bytes ≡ front (v.count p) (v.spoiling p) ++ answers
  pub answered : AnswerBytes a v p answers

-- the first eight bytes: the layout's number, the numbers of signals and positions, the start, and three zeros
abbrev pub header : Arena → List ℕ
header a = 1 ∷ a.inputs ∷ a.outputs ∷ a.size ∷ a.start ∷ 0 ∷ 0 ∷ 0 ∷ []

-- where the record of p begins, and how long a book of n positions is
abbrev pub entry_at : ℕ → ℕ
entry_at p = 8 + 24 * (p - 1)

abbrev pub book_length : ℕ → ℕ
book_length n = 8 + 24 * n

-- the bytes are the book of the game a, whose values are v; a game of size 0 has none
pub record Book (a : Arena) (v : Values a) (bytes : List ℕ) : Type 0 where
  pub sized : 1 ≤ a.size
  pub long : length bytes ≡ book_length a.size
  pub head : take 8 bytes ≡ header a
  pub entries : (p : ℕ) → Place a p → Entry a v p (take 24 (drop (entry_at p) bytes))

-- the bytes are the game's book
abbrev pub IsBook : Arena → List ℕ → Type 0
IsBook a bytes = (v : Values a) × Book a v bytes
