-- What compiling two texts comes to, and what the stores then hold.
-- built: exploring from the list of a part. Builds: what building comes to. ZeroPositions: a store of zero entries.
-- ReadsAs: the rule that two texts say. Promise: what a compiled rule is. Compiles: the four outcomes. Only: there is one.
use Rattle.std.specs.Prelude.{◌≡◌, ℕ, ◌-◌, ◌≤◌, ◌↔◌, List, [], ◌++◌, length, replicate, Some, Ok, Err, Result, slice_index, slice_index_or}
use Rattle.terms.specs.declared.refusal.Refusal.{Refusal}
use Rattle.terms.specs.declared.refusal.Refusal.TheVariants.{StoreTooShort}
use Rattle.arena.specs.Arena.{Arena}
use Rattle.arena.specs.Tally.{Played, leads}
use Rattle.words.specs.declared.name.Name.{Name}
use Rattle.words.specs.Names.{HoldsNames}
use Rattle.words.specs.Signals.{Outcome, served}
use Rattle.rules.specs.declared.part.Part.{Part}
use Rattle.rules.specs.declared.part.Part.TheVariants.{True}
use Rattle.rules.specs.Rule.{Rule, Fails}
use Rattle.rules.specs.Cosafe.{negation, Holds}
use Rattle.rules.specs.Table.{parts_of}
use Rattle.rules.specs.Progress.{list_of}
use Rattle.rules.specs.Explore.{Compiled, positions, rounds, start, explore, compiled, AllInRange, Reachable}
use Rattle.rules.specs.Game.{game}
use Rattle.reader.specs.declared.texts.Text.TheVariants.{Neither}
use Rattle.reader.specs.declared.texts.Misread.{Misread}
use Rattle.reader.specs.Names.{known}
use Rattle.reader.specs.Faults.{tree}
use Rattle.reader.specs.Texts.{RuleText}
use Rattle.reader.specs.Both.{ZeroParts, Both}
use Rattle.compile.specs.declared.position.Position.{Position}
use Rattle.compile.specs.declared.compiled.Compiled.{Compiled as Numbers}
use Rattle.compile.specs.Positions.{unused, reason, Charted}
use Rattle.compile.specs.TableGame.{arena_in}

-- exploring from the list of part k
abbrev pub built : ℕ → ℕ → List Part → ℕ → Compiled
built i o ps k = explore 256 ps (rounds i o) 0 (start (list_of ps k))

-- the number of positions, which the store then holds; or why there are none
abbrev pub Builds : ℕ → ℕ → List Part → ℕ → List Position → Result ℕ Refusal → Type 0
Builds i o ps k store (Ok n) = (found : List (List ℕ)) × (built i o ps k ≡ positions found) × (n ≡ length found) × Charted i o ps found store
Builds i o ps k store (Err e) = reason (built i o ps k) ≡ Some e

-- every entry is the zero entry
abbrev pub ZeroPositions : List Position → Type 0
ZeroPositions store = store ≡ replicate (length store) unused

-- the stores have room for eight names, 64 parts and 255 positions
pub record Roomy (names : List Name) (parts : List Part) (store : List Position) : Type 0 where
  pub for_names : 8 ≤ length names
  pub for_parts : 64 ≤ length parts
  pub for_positions : 255 ≤ length store

-- the two texts say the rule f over these inputs and outputs, whose names are stored so
pub record ReadsAs (room : ℕ) (signals rule : List ℕ) (stored : List Name) (ins outs : List (List ℕ)) (f : Rule) : Type 0 where
  pub named : Outcome room signals (served ins outs)
  pub stored_names : HoldsNames (ins ++ outs) stored
  pub said : RuleText (known stored (length ins) (length outs)) rule (tree f)

-- a is the game of the rule f with i inputs and o outputs, whose positions are the lists found: those that rounds reach
-- and that are not lost, each once. Rounds lead from its start to lost exactly when the rule fails at 0 of them, which
-- is when its negation is true of them.
pub record Promise (i o : ℕ) (f : Rule) (found : List (List ℕ)) (a : Arena) : Type 0 where
  pub is_game : a ≡ game i o f
  pub reached : Reachable i o f found
  pub lost : (rs : List Played) → AllInRange i o rs → (leads a a.start rs ≡ 0) ↔ Fails f rs 0
  pub negated : (rs : List Played) → Fails f rs 0 ↔ Holds (negation f) rs 0

-- the rule compiles: the stores hold its names, its parts and its positions with their moves, and zeros behind them
pub record Served (room : ℕ) (signals rule : List ℕ) (c : Numbers) (names : List Name) (parts : List Part) (store : List Position) : Type 0 where
  pub ins : List (List ℕ)
  pub outs : List (List ℕ)
  pub says : Rule
  pub reads : ReadsAs room signals rule names ins outs says
  pub parts_are : parts ≡ (parts_of says).table ++ replicate (length parts - length (parts_of says).table) True
  pub found : List (List ℕ)
  pub compiles : compiled (length ins) (length outs) says ≡ positions found
  pub numbers : c ≡ record { inputs = length ins; outputs = length outs; positions = length found }
  pub charted : Charted (length ins) (length outs) (parts_of says).table found store
  pub promise : Promise (length ins) (length outs) says found (arena_in c store)

-- the stores are too short and stay as they were; or a text is refused; or the rule that they say does not compile; or it
-- does. Behind a refusal of a text or of a rule all three stores are zero.
pub data Compiles (names : List Name) (parts : List Part) (store : List Position) (signals rule : List ℕ) : Result Numbers Misread → List Name → List Part → List Position → Type 0 where
  stores_short : (Roomy names parts store → ⊥)
      → Compiles names parts store signals rule (Err (record { text = Neither; refusal = StoreTooShort })) names parts store
  text_refused : {m : Misread} {names' : List Name} {parts' : List Part} {store' : List Position} → Roomy names parts store
      → Both names parts signals rule (Err m) names' parts' → ZeroPositions store'
      → Compiles names parts store signals rule (Err m) names' parts' store'
  rule_refused : {stored : List Name} {ins outs : List (List ℕ)} {f : Rule} {e : Refusal} {names' : List Name} {parts' : List Part} {store' : List Position} → Roomy names parts store
      → ReadsAs (length names) signals rule stored ins outs f → reason (compiled (length ins) (length outs) f) ≡ Some e
      → HoldsNames [] names' → ZeroParts parts' → ZeroPositions store'
      → Compiles names parts store signals rule (Err (record { text = Neither; refusal = e })) names' parts' store'
  compiles : {c : Numbers} {names' : List Name} {parts' : List Part} {store' : List Position} → Roomy names parts store
      → Served (length names) signals rule c names' parts' store'
      → Compiles names parts store signals rule (Ok c) names' parts' store'

-- the entries of two stores have the same lists, and the same numbers for every round
abbrev pub SameEntries : List Position → List Position → Type 0
SameEntries s t = (k : ℕ) → ((slice_index_or s k unused).list ≡ (slice_index_or t k unused).list) × ((j : ℕ) → slice_index (slice_index_or s k unused).moves j ≡ slice_index (slice_index_or t k unused).moves j)

-- the two texts come to nothing else: whatever they come to with stores as long is this result and these stores
abbrev pub Only : List Name → List Part → List Position → List ℕ → List ℕ → Result Numbers Misread → List Name → List Part → List Position → Type 0
Only names parts store signals rule r names' parts' store' =
    (s : Result Numbers Misread) (names'' : List Name) (parts'' : List Part) (store'' : List Position)
    → length names'' ≡ length names' → length parts'' ≡ length parts' → length store'' ≡ length store'
    → Compiles names parts store signals rule s names'' parts'' store''
    → (s ≡ r) × (names'' ≡ names') × (parts'' ≡ parts') × SameEntries store'' store'
