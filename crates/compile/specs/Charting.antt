-- A store of positions while it is filled.
-- known_in: the lists of its entries. Numbers: the number of the position that a move leads to. Stored: entries that are
-- in order. entered, with_move: a store with a list or a move more. Entry, Enters: what entering a list comes to.
-- list_next, Round, Goes: what one round comes to. made, Charting: how far the moves are. left_from, Leaves: what all
-- rounds of one position come to.
use Rattle.std.specs.Prelude.{◌≡◌, ℕ, suc, ◌+◌, ◌*◌, ◌^◌, ◌<◌, ◌≤◌, max, true, cond, List, [], ◌∷◌, map, length, get_or, take, Some, None, Ok, Err, fold, Option, Result, ◌==◌, nat_lt, slice_index, slice_index_or, slice_set}
use Rattle.terms.specs.declared.refusal.Refusal.{Refusal}
use Rattle.rules.specs.declared.part.Part.{Part}
use Rattle.rules.specs.Sets.{Sets, too_wide, sets}
use Rattle.rules.specs.Progress.{list_after}
use Rattle.rules.specs.Explore.{Compiled, too_many, positions, among, met, move, rounds}
use Rattle.rules.specs.Game.{number_from}
use Rattle.compile.specs.declared.position.Position.{Position}
use Rattle.compile.specs.Positions.{unused, entry_of, turn_at, reason}

-- the lists of the entries in use
abbrev pub known_in : ℕ → List Position → List (List ℕ)
known_in used store = map (λ e. e.list) (take used store)

-- n is the number of the known position that a move to this list leads to, 0 where it is lost
abbrev pub Numbers : List (List ℕ) → Sets → ℕ → Type 0
Numbers known too_wide n = ⊥
Numbers known (sets []) n = n ≡ 0
Numbers known (sets (x ∷ xs)) n = (among known (x ∷ xs) ≡ true) × (number_from 1 known (x ∷ xs) ≡ n)

-- a store with room for 255 positions, of which so many are in use
pub record Stored (used : ℕ) (store : List Position) : Type 0 where
  pub room : used ≤ 255
  pub long : length store ≡ 255
  pub whole : (k : ℕ) → k < used → length (slice_index_or store k unused).moves ≡ 256

-- the store once a list was given the number n: a number past those in use is a new entry's
abbrev pub entered : ℕ → List ℕ → ℕ → List Position → List Position
entered used l n store = cond (nat_lt used n) (slice_set store used (entry_of l)) store

-- the number n of a list, which a store then has
pub record Entry (used : ℕ) (l : List ℕ) (store after : List Position) (n : ℕ) : Type 0 where
  pub few : n ≤ 255
  pub next : n ≤ suc used
  pub is : (p : ℕ) → met p (known_in used store) (sets l) ≡ positions (known_in (max used n) after)
  pub number : Numbers (known_in (max used n) after) (sets l) n
  pub holds : after ≡ entered used l n store

-- a list is given its number, or there is no room for it
abbrev pub Enters : ℕ → List ℕ → List Position → List Position → Option ℕ → Type 0
Enters used l store after None = (p : ℕ) → met p (known_in used store) (sets l) ≡ too_many
Enters used l store after (Some n) = Entry used l store after n

-- the store with a move of the position at p more: round t leads to position n
abbrev pub with_move : ℕ → ℕ → ℕ → List Position → List Position
with_move p t n store = slice_set store p (record { list = (get_or store p unused).list; moves = slice_set (get_or store p unused).moves t n })

-- the list after round t from the position at p
abbrev pub list_next : ℕ → List Part → ℕ → ℕ → List Position → Sets
list_next o ps p t store = list_after ps (turn_at o t) (sets (slice_index_or store p unused).list)

-- round t from the position at p leads to position n: the store then has the list l, which it leads to, and the move
pub record Round (o : ℕ) (ps : List Part) (used p t : ℕ) (store after : List Position) (n : ℕ) : Type 0 where
  pub l : List ℕ
  pub few : n ≤ 255
  pub next : n ≤ suc used
  pub is : met (suc p) (known_in used store) (list_next o ps p t store) ≡ positions (known_in (max used n) after)
  pub number : Numbers (known_in (max used n) after) (list_next o ps p t store) n
  pub holds : after ≡ with_move p t n (entered used l n store)

-- a round leads to a position, and so many positions are then in use; or there is none
abbrev pub Goes : ℕ → List Part → ℕ → ℕ → ℕ → List Position → ℕ → List Position → Result (Unit {0}) Refusal → Type 0
Goes o ps used p t store used' after (Ok _) = (n : ℕ) × (used' ≡ max used n) × Round o ps used p t store after n
Goes o ps used p t store used' after (Err e) = reason (met (suc p) (known_in used store) (list_next o ps p t store)) ≡ Some e

-- how many moves the position at k has, where those before p have n moves each and the one at p has t
abbrev pub made : ℕ → ℕ → ℕ → ℕ → ℕ
made n p t k = cond (nat_lt k p) n (cond (k == p) t 0)

-- the entries in use have their moves up to round t of the position at p; zeros stand behind
pub record Charting (n o : ℕ) (ps : List Part) (used p t : ℕ) (store : List Position) : Type 0 where
  pub stored : Stored used store
  pub moves : (k s : ℕ) → k < used → s < made n p t k → Numbers (known_in used store) (list_next o ps k s store) (slice_index (get_or store k unused).moves s)
  pub no_moves : (k s : ℕ) → k < used → made n p t k ≤ s → slice_index (get_or store k unused).moves s ≡ 0
  pub rest : (k : ℕ) → used ≤ k → slice_index_or store k unused ≡ unused

-- what the rounds from the position at p come to
abbrev pub left_from : ℕ → ℕ → List Part → ℕ → ℕ → List Position → Compiled
left_from i o ps used p store = fold (move ps (suc p) (slice_index_or store p unused).list) (positions (known_in used store)) (rounds i o)

-- the position at p has all its moves, and so many positions are then in use; or there are none
abbrev pub Leaves : ℕ → ℕ → List Part → ℕ → ℕ → List Position → ℕ → List Position → Result (Unit {0}) Refusal → Type 0
Leaves i o ps used p store used' after (Ok _) = (left_from i o ps used p store ≡ positions (known_in used' after)) × Charting (2 ^ i * 2 ^ o) o ps used' (p + 1) 0 after
Leaves i o ps used p store used' after (Err e) = reason (left_from i o ps used p store) ≡ Some e
