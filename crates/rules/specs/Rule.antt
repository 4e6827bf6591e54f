-- Rules, rounds, and when a rule fails.
use Rattle.std.specs.Prelude.{◌≡◌, ℕ, suc, ◌/◌, ◌%◌, ◌^◌, ◌<◌, ◌≤◌, Bool, true, false, not, ◌⊎◌, List, length, ◌==◌, slice_index_or}
use Rattle.arena.specs.Tally.{Played}
use Rattle.rules.specs.declared.part.Signal.{Signal}
use Rattle.rules.specs.declared.part.Signal.TheVariants.{Input, Output}

-- a literal is a signal that is to be on (true), or off (false)
pub data Rule : Type 0 where
  always : Rule
  never : Rule
  literal : Signal → Bool → Rule
  next : Rule → Rule
  release : Rule → Rule → Rule
  both : Rule → Rule → Rule
  either : Rule → Rule → Rule

-- bit k of a round's input or output is set when signal k is on
abbrev pub bit : ℕ → ℕ → ℕ
bit n k = n / 2 ^ k % 2

abbrev pub is_on : Played → Signal → Bool
is_on r (Input k) = bit r.input k == 1
is_on r (Output k) = bit r.output k == 1

abbrev pub agrees : Played → Signal → Bool → Bool
agrees r s true = is_on r s
agrees r s false = not (is_on r s)

-- round p; where there is none, one with all signals off, which no definition reads
abbrev pub round : List Played → ℕ → Played
round rs p = slice_index_or rs p (record { input = 0; output = 0 })

-- the rule fails at place p of these rounds
unfoldable pub Fails : Rule → List Played → ℕ → Type 0
Fails always rs p = ⊥
Fails never rs p = Unit {0}
Fails (literal s want) rs p = (p < length rs) × (agrees (round rs p) s want ≡ false)
Fails (next f) rs p = (p < length rs) × Fails f rs (suc p)
Fails (release a b) rs p = (j : ℕ) × (p ≤ j) × (j < length rs) × Fails b rs j × ((i : ℕ) → p ≤ i → i < j → Fails a rs i)
Fails (both f g) rs p = Fails f rs p ⊎ Fails g rs p
Fails (either f g) rs p = Fails f rs p × Fails g rs p
