-- What a signals text is, and what any other is refused with.
-- IsSignals: the words are a signals text with these names. Begins: words that can begin one. Fault: what is wrong
-- with a word behind such a beginning. Told: the number that it is refused with. Outcome: what a text comes to.
use Rattle.std.specs.Prelude.{◌≡◌, ℕ, ◌<◌, ◌≤◌, ◌⊎◌, List, [], ◌∷◌, ◌++◌, map, length, Ok, Err, Result, ◌≢◌}
use Rattle.std.specs.List.{AllByRecursion}
use Rattle.terms.specs.declared.refusal.Refusal.{Refusal}
use Rattle.terms.specs.Refusals as refusals
use Rattle.words.specs.declared.name.Name.{Name}
use Rattle.words.specs.declared.signals.Signals.{Signals}
use Rattle.words.specs.Words.{Said, in', out', name', strange', Placed, at, said, Words}
use Rattle.words.specs.Names.{HoldsNames}

-- x is one of xs
abbrev pub In : {A : Type 0} → A → List A → Type 0
In x [] = ⊥
In x (y ∷ ys) = (x ≡ y) ⊎ In x ys

-- nothing stands twice
abbrev pub Distinct : {A : Type 0} → List A → Type 0
Distinct [] = Unit {0}
Distinct (x ∷ xs) = (In x xs → ⊥) × Distinct xs

-- `in`, the names of inputs, `out`, the names of outputs
abbrev pub listed : List (List ℕ) → List (List ℕ) → List Said
listed ins outs = in' ∷ (map name' ins ++ (out' ∷ map name' outs))

-- the words ws are a signals text with these inputs and outputs: at most four of each, of at most eight bytes, and none
-- repeated
pub record IsSignals (ws : List Said) (ins outs : List (List ℕ)) : Type 0 where
  pub says : ws ≡ listed ins outs
  pub few_in : length ins ≤ 4
  pub few_out : length outs ≤ 4
  pub short : AllByRecursion (λ x. length x ≤ 8) (ins ++ outs)
  pub apart : Distinct (ins ++ outs)

-- words that can begin a signals text
abbrev pub Begins : List Said → Type 0
Begins ws = (rest : List Said) × (ins : List (List ℕ)) × (outs : List (List ℕ)) × IsSignals (ws ++ rest) ins outs

-- words that can begin one, if names could be long, many and repeated
abbrev pub Formed : List Said → Type 0
Formed ws = (rest : List Said) × (ins : List (List ℕ)) × (outs : List (List ℕ)) × (ws ++ rest ≡ listed ins outs)

-- the faults of a word behind the words ws, by their numbers
pub data Fault (ws : List Said) : Said → ℕ → Type 0 where
  -- a byte that begins no word
  strange : {c : ℕ} → Fault ws (strange' c) 2
  -- a word that is not allowed here, whatever the names
  misplaced : {w : Said} → ¬ Formed (ws ++ (w ∷ [])) → Fault ws w 3
  -- a name of more than eight bytes
  long : {x : List ℕ} → 8 < length x → Fault ws (name' x) 4
  -- a name that stands there already
  repeated : {x : List ℕ} → In (name' x) ws → Fault ws (name' x) 4
  -- a name behind four names, the fifth input or output
  fifth : {x : List ℕ} (before : List Said) (four : List (List ℕ)) → ws ≡ before ++ map name' four → length four ≡ 4 → Fault ws (name' x) 6

-- a word is refused with the lowest number of its faults
abbrev pub Told : List Said → Said → ℕ → Type 0
Told ws w k = Fault ws w k × ((j : ℕ) → Fault ws w j → k ≤ j)

-- what a text comes to: the names of its inputs and outputs, or a refusal by its number and place
pub data Answer : Type 0 where
  served : List (List ℕ) → List (List ℕ) → Answer
  refused : ℕ → ℕ → Answer

-- the store has room for eight names, and the text has at most 1,024 bytes
pub record Fits (room : ℕ) (text : List ℕ) : Type 0 where
  pub roomy : 8 ≤ room
  pub short : length text ≤ 1024

-- what a text comes to with a store for so many names: it is refused at the first word with a fault, or at its end
pub data Outcome (room : ℕ) (text : List ℕ) : Answer → Type 0 where
  store_short : room < 8 → Outcome room text (refused 13 0)
  text_long : 8 ≤ room → 1024 < length text → Outcome room text (refused 1 0)
  reads : {ws : List Placed} {ins outs : List (List ℕ)} → Fits room text → Words 0 text ws → IsSignals (map said ws) ins outs → Outcome room text (served ins outs)
  word_wrong : (before : List Placed) (w : Said) (p : ℕ) (rest : List Placed) {k : ℕ} → Fits room text → Words 0 text (before ++ (at w p ∷ rest)) → Begins (map said before) → Told (map said before) w k → Outcome room text (refused k p)
  end_wrong : {ws : List Placed} → Fits room text → Words 0 text ws → Begins (map said ws) → ((ins outs : List (List ℕ)) → ¬ IsSignals (map said ws) ins outs) → Outcome room text (refused 3 (length text))

-- the result of a call gives an answer
abbrev pub Gives : Result Signals Refusal → Answer → Type 0
Gives (Ok s) (served ins outs) = (s.inputs ≡ length ins) × (s.outputs ≡ length outs)
Gives (Ok s) (refused k p) = ⊥
Gives (Err e) (served ins outs) = ⊥
Gives (Err e) (refused k p) = (refusals.number e ≡ k) × (refusals.place e ≡ p)

-- what a store holds then: the names, inputs first; behind a refusal nothing, but what it held where it was too short
abbrev pub Leaves : List Name → Answer → List Name → Type 0
Leaves store (served ins outs) after = HoldsNames (ins ++ outs) after
Leaves store (refused k p) after = (k ≡ 13 → after ≡ store) × ((k ≢ 13) → HoldsNames [] after)

-- what reading has written where nothing is cleared: the names of a text that is served
abbrev pub Written : Answer → List Name → Type 0
Written (served ins outs) after = HoldsNames (ins ++ outs) after
Written (refused k p) after = Unit {0}

-- what reading the words of a text comes to
pub record Read (room : ℕ) (text : List ℕ) (r : Result Signals Refusal) (after : List Name) : Type 0 where
  pub answer : Answer
  pub outcome : Outcome room text answer
  pub gives : Gives r answer
  pub written : Written answer after
