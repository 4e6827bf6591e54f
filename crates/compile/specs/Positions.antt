-- The positions of a compiled rule in a store.
-- entry_of: a position that no round has left yet. unused: the zero entry. same_position: equal lists. turn_number, turn_at: the number of a round, and the round of a number.
-- reason: why a rule does not compile. Charted: a store holds the positions and their moves.
use Rattle.std.specs.Prelude.{◌≡◌, ℕ, ◌+◌, ◌*◌, ◌/◌, ◌%◌, ◌^◌, ◌<◌, ◌≤◌, Bool, List, [], length, get_or, replicate, Some, None, Option, slice_index, slice_index_or}
use Rattle.terms.specs.declared.refusal.Refusal.{Refusal}
use Rattle.terms.specs.declared.refusal.Refusal.TheVariants.{RuleTooLarge, StartLost, TooWide, TooManyPositions}
use Rattle.arena.specs.Tally.{Played}
use Rattle.rules.specs.declared.part.Part.{Part}
use Rattle.rules.specs.Sets.{sets}
use Rattle.rules.specs.Progress.{list_after}
use Rattle.terms.specs.Lists.{same_list}
use Rattle.rules.specs.Explore.{Compiled, too_large, lost_start, wide_at, too_many, positions}
use Rattle.rules.specs.Game.{position}
use Rattle.compile.specs.declared.position.Position.{Position}

-- the entry of a list that no round has left yet
abbrev pub entry_of : List ℕ → Position
entry_of l = record { list = l; moves = replicate 256 0 }

-- the zero entry
abbrev pub unused : Position
unused = entry_of []

-- sameness looks at the list alone
unfoldable pub same_position : Position → Position → Bool
same_position x y = same_list x.list y.list

-- the number of the round of input x and output y among o output signals, and the round of a number
abbrev pub turn_number : ℕ → ℕ → ℕ → ℕ
turn_number o x y = x * 2 ^ o + y

abbrev pub turn_at : ℕ → ℕ → Played
turn_at o t = record { input = t / 2 ^ o; output = t % 2 ^ o }

-- why a rule does not compile
abbrev pub reason : Compiled → Option Refusal
reason too_large = Some RuleTooLarge
reason lost_start = Some StartLost
reason (wide_at p) = Some (TooWide p)
reason too_many = Some TooManyPositions
reason (positions known) = None

-- the store holds these lists as its positions, from the first entry on, each with the number of the position that each
-- round leads to, and zeros behind
pub record Charted (i o : ℕ) (ps : List Part) (known : List (List ℕ)) (store : List Position) : Type 0 where
  pub lists : (k : ℕ) → k < length known → (get_or store k unused).list ≡ slice_index_or known k []
  pub moves : (k t : ℕ) → k < length known → t < 2 ^ i * 2 ^ o → slice_index (get_or store k unused).moves t ≡ position known (list_after ps (turn_at o t) (sets (slice_index_or known k [])))
  pub no_moves : (k t : ℕ) → k < length known → 2 ^ i * 2 ^ o ≤ t → slice_index (get_or store k unused).moves t ≡ 0
  pub rest : (k : ℕ) → length known ≤ k → slice_index_or store k unused ≡ unused
