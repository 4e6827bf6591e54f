-- The positions of a compiled rule.
use Rattle.std.specs.Prelude.{◌≡◌, ℕ, zero, suc, ◌^◌, ◌<◌, Bool, true, false, cond, ◌&&◌, ◌||◌, List, [], ◌∷◌, ◌++◌, map, length, drop, fold, ◌==◌, ◌≢◌, nat_le, nat_lt, slice_index_or}
use Rattle.terms.specs.Lists.{same_list}
use Rattle.arena.specs.Tally.{Played}
use Rattle.rules.specs.declared.part.Part.{Part}
use Rattle.rules.specs.Rule.{Rule}
use Rattle.rules.specs.Sets.{Sets, too_wide, sets}
use Rattle.rules.specs.Parts.{duty_number}
use Rattle.rules.specs.Table.{parts_on, parts_of}
use Rattle.rules.specs.Progress.{list_in, list_of, list_after, list_after_all}

-- the lists found, position 1 first, or why the rule does not compile
pub data Compiled : Type 0 where
  too_large : Compiled
  lost_start : Compiled
  wide_at : ℕ → Compiled
  too_many : Compiled
  positions : List (List ℕ) → Compiled

-- whether a list is one of these
abbrev pub among : List (List ℕ) → List ℕ → Bool
among [] s = false
among (t ∷ ts) s = same_list t s || among ts s

-- a move from position p leads to this list: the empty list is lost, and a new one is one more position
abbrev pub met : ℕ → List (List ℕ) → Sets → Compiled
met p known too_wide = wide_at p
met p known (sets []) = positions known
met p known (sets (x ∷ xs)) = cond (among known (x ∷ xs)) (positions known) (cond (nat_lt (length known) 255) (positions (known ++ ((x ∷ xs) ∷ []))) too_many)

-- a move from position p, whose list is s
abbrev pub move : List Part → ℕ → List ℕ → Compiled → Played → Compiled
move ps p s too_large r = too_large
move ps p s lost_start r = lost_start
move ps p s (wide_at q) r = wide_at q
move ps p s too_many r = too_many
move ps p s (positions known) r = met p known (list_after ps r (sets s))

-- the n numbers from k on
abbrev pub numbers : ℕ → ℕ → List ℕ
numbers zero k = []
numbers (suc n) k = k ∷ numbers n (suc k)

-- the rounds of these inputs and outputs: inputs in turn, and outputs in turn under each
abbrev pub with_inputs : List ℕ → List ℕ → List Played
with_inputs [] ys = []
with_inputs (x ∷ xs) ys = map (λ y. record { input = x; output = y }) ys ++ with_inputs xs ys

-- every round of i input and o output signals: inputs ascending, outputs ascending
abbrev pub rounds : ℕ → ℕ → List Played
rounds i o = with_inputs (numbers (2 ^ i) 0) (numbers (2 ^ o) 0)

-- done, where no position is left; else go on from the next one's list
abbrev pub turn : Compiled → (List ℕ → Compiled) → List (List ℕ) → Compiled
turn done go [] = done
turn done go (s ∷ more) = go s

-- positions in turn, those after the first p, by at most n of them
unfoldable pub explore : ℕ → List Part → List Played → ℕ → Compiled → Compiled
unfolding list_after
explore zero ps rs p e = e
explore (suc n) ps rs p too_large = too_large
explore (suc n) ps rs p lost_start = lost_start
explore (suc n) ps rs p (wide_at q) = wide_at q
explore (suc n) ps rs p too_many = too_many
explore (suc n) ps rs p (positions known) = turn (positions known) (λ s. explore n ps rs (suc p) (fold (move ps (suc p) s) (positions known) rs)) (drop p known)

-- the list of the rule itself, unless it is too wide or lost
abbrev pub start : Sets → Compiled
start too_wide = wide_at 0
start (sets []) = lost_start
start (sets (x ∷ xs)) = positions ((x ∷ xs) ∷ [])

-- the lists that exploring finds from that of the rule itself, unless it has more than 64 parts or 32 duties
unfoldable pub compiled : ℕ → ℕ → Rule → Compiled
unfolding explore parts_on duty_number list_in
compiled i o f =
    let e = parts_of f in
    let run = explore 256 e.table (rounds i o) 0 (start (list_of e.table e.number)) in
    elim (nat_le (length e.table) 64 && nat_le (duty_number e.table (length e.table)) 32) [ true ↦ run | false ↦ too_large ]

-- the positions, none where the rule does not compile
abbrev pub lists : Compiled → List (List ℕ)
lists too_large = []
lists lost_start = []
lists (wide_at p) = []
lists too_many = []
lists (positions known) = known

-- how many positions there are
abbrev pub size : Compiled → ℕ
size e = length (lists e)

-- the numbers of a round of i inputs and o outputs
abbrev pub InRange : ℕ → ℕ → Played → Type 0
InRange i o r = (r.input < 2 ^ i) × (r.output < 2 ^ o)

-- so are those of all rounds
abbrev pub AllInRange : ℕ → ℕ → List Played → Type 0
AllInRange i o [] = Unit {0}
AllInRange i o (r ∷ rs) = InRange i o r × AllInRange i o rs

-- the list that rounds lead to from the start of the rule
abbrev pub led_to : Rule → List Played → Sets
led_to f rs = list_after_all (parts_of f).table rs (list_of (parts_of f).table (parts_of f).number)

-- known are the lists that rounds in range lead to and that are not lost, each once
pub record Reachable (i o : ℕ) (f : Rule) (known : List (List ℕ)) : Type 0 where
  pub reached : (k : ℕ) → k < length known → (rs : List Played) × AllInRange i o rs × (led_to f rs ≡ sets (slice_index_or known k []))
  pub not_lost : (k : ℕ) → k < length known → slice_index_or known k [] ≢ []
  pub apart : (j k : ℕ) → j < length known → k < length known → slice_index_or known j [] ≡ slice_index_or known k [] → j ≡ k
  pub complete : (rs : List Played) → AllInRange i o rs → (xs : List ℕ) → led_to f rs ≡ sets xs → (xs ≢ []) → (k : ℕ) × (k < length known) × (slice_index_or known k [] ≡ xs)
