-- Faults of words, in terms of the grammar alone.
use Rattle.std.specs.Prelude.{◌≡◌, ℕ, ◌≤◌, Bool, true, false, List, [], ◌∷◌, ◌++◌, length, Some, None}
use Rattle.words.specs.Words.{Said, X', G', R', U', F', and', or', not', open', close', in', out', true', false', name', strange'}
use Rattle.rules.specs.declared.part.Signal.TheVariants.{Input}
use Rattle.rules.specs.Rule.{Rule}
use Rattle.reader.specs.Grammar.{Names, Reads}

-- words are the beginning of some that read
abbrev pub Viable : Names → ℕ → List Said → Type 0
Viable known n ws = (rest : List Said) × (t : Rule) × Reads known n (ws ++ rest) t

-- every name is known
abbrev pub free : Names
free x = Some (Input 0)

-- words are the beginning of a rule of at most n levels, whatever the names
abbrev pub Begins : ℕ → List Said → Type 0
Begins n ws = Viable free n ws

abbrev pub foreign : Said → Bool
foreign X' = false
foreign G' = false
foreign R' = false
foreign U' = true
foreign F' = true
foreign and' = false
foreign or' = false
foreign not' = false
foreign open' = false
foreign close' = false
foreign in' = false
foreign out' = false
foreign true' = false
foreign false' = false
foreign (name' x) = false
foreign (strange' c) = false

-- the faults of a word w behind the words ws
pub data Fault (known : Names) (n : ℕ) (ws : List Said) : Said → ℕ → Type 0 where
  -- a byte that begins no word
  strange : {c : ℕ} → Fault known n ws (strange' c) 2
  -- no rule begins so, however deep
  misplaced : {w : Said} → foreign w ≡ false → ((m : ℕ) → ¬ Begins m (ws ++ (w ∷ []))) → Fault known n ws w 3
  unknown : {x : List ℕ} → known x ≡ None → Fault known n ws (name' x) 5
  until : Fault known n ws U' 7
  finally : Fault known n ws F' 7
  -- no rule of at most n levels begins so
  deep : {w : Said} → ¬ Begins n (ws ++ (w ∷ [])) → Fault known n ws w 8

-- the number that a word is refused with is the lowest of its faults'
abbrev pub Told : Names → ℕ → List Said → Said → ℕ → Type 0
Told known n ws w k = Fault known n ws w k × ((j : ℕ) → Fault known n ws w j → k ≤ j)

-- no word has a fault
abbrev pub Clean : Names → ℕ → List Said → Type 0
Clean known n ws = (a : List Said) (v : Said) (b : List Said) → ws ≡ a ++ (v ∷ b) → (k : ℕ) → ¬ Fault known n a v k

-- what words come to: the tree, or the one refusal: its number, and how many words stand before the refused one, or before the end
pub data Answer : Type 0 where
  tree : Rule → Answer
  refusal : ℕ → ℕ → Answer

pub data Outcome (known : Names) (n : ℕ) (ws : List Said) : Answer → Type 0 where
  reads : {t : Rule} → Reads known n ws t → Outcome known n ws (tree t)
  word_refused : (pre : List Said) (w : Said) (rest : List Said) {k : ℕ} → ws ≡ pre ++ (w ∷ rest) → Clean known n pre → Told known n pre w k → Outcome known n ws (refusal k (length pre))
  end_refused : Clean known n ws → ((t : Rule) → ¬ Reads known n ws t) → Outcome known n ws (refusal 3 (length ws))
