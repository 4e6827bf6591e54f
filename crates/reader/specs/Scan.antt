-- What the word reader gives.
-- Moves: the places of a word. Peek: the word at a place, or the end.
use Rattle.std.specs.Prelude.{◌≡◌, ℕ, ◌<◌, ◌≤◌, List, [], ◌∷◌, length, Some, None, Option}
use Rattle.words.specs.declared.word.Word.TheVariants.{End}
use Rattle.words.specs.declared.word.Token.{Token}
use Rattle.words.specs.Words.{Said, says, at, words_from}

-- what holds of every word but the end
abbrev pub UnlessEnd : Option Said → Type 0 → Type 0
UnlessEnd (Some s) P = P
UnlessEnd None P = Unit {0}

-- the places of a word lie behind one another, and inside the text
pub record Moves (most from : ℕ) (t : Token) : Type 0 where
  pub behind : UnlessEnd (says t.word) (from ≤ t.at)
  pub on : t.at ≤ t.next
  pub within : t.next ≤ most
  pub grows : UnlessEnd (says t.word) (t.at < t.next)

-- the first word from a place on, or the end of the text
pub data Peek (text : List ℕ) (from : ℕ) (t : Token) : Type 0 where
  word : (s : Said) → says t.word ≡ Some s → words_from text from ≡ at s t.at ∷ words_from text t.next → Peek text from t
  end : t.word ≡ End → words_from text from ≡ [] → t.at ≡ length text → Peek text from t
