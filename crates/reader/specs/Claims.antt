-- What is shown of the grammar, the refusals and the texts of rules.
use Rattle.std.specs.Prelude.{◌≡◌, ℕ, ◌↔◌, List, [], ◌∷◌, ◌++◌}
use Rattle.words.specs.Words.{Said, Placed, Words, words_from}
use Rattle.rules.specs.Rule.{Rule}
use Rattle.reader.specs.Grammar.{Names, Reads}
use Rattle.reader.specs.Allowed.{accepts, stops, run, start}
use Rattle.reader.specs.Faults.{Clean, Told, Answer, Outcome}
use Rattle.reader.specs.Texts.{RuleText}

-- a text has words, and one list of them only
pub record WordsRight : Type 0 where
  pub some : (text : List ℕ) → Words 0 text (words_from text 0)
  pub one : (p : ℕ) (text : List ℕ) (v w : List Placed) → Words p text v → Words p text w → v ≡ w

-- words say one rule
abbrev pub RuleOne : Type 0
RuleOne = (known : Names) (n : ℕ) (ws : List Said) (f g : Rule) → Reads known n ws f → Reads known n ws g → f ≡ g

-- words read exactly when the table refuses no word, nor the end
abbrev pub Agree : Type 0
Agree = (known : Names) (n : ℕ) (ws : List Said) → ((f : Rule) × Reads known n ws f) ↔ (run known (start n) ws ≡ accepts)

-- a word is refused by the table with k exactly where it is the first with a fault, and k its lowest
abbrev pub WordWrong : Type 0
WordWrong = (known : Names) (n : ℕ) (ws : List Said) (w : Said) (rest : List Said) (k : ℕ) →
    (run known (start n) (ws ++ (w ∷ rest)) ≡ stops k (w ∷ rest)) ↔ (Clean known n ws × Told known n ws w k)

-- the end is refused by the table exactly where no word has a fault and the words do not read
abbrev pub EndWrong : Type 0
EndWrong = (known : Names) (n : ℕ) (ws : List Said) →
    (run known (start n) ws ≡ stops 3 []) ↔ (Clean known n ws × ((f : Rule) → ¬ Reads known n ws f))

-- all words have an outcome, and one only
abbrev pub OutcomeOne : Type 0
OutcomeOne = (known : Names) (n : ℕ) (ws : List Said) → (a : Answer) × Outcome known n ws a × ((b : Answer) → Outcome known n ws b → a ≡ b)

-- all texts come to something, and to one thing only
abbrev pub TextOne : Type 0
TextOne = (known : Names) (text : List ℕ) → (a : Answer) × RuleText known text a × ((b : Answer) → RuleText known text b → a ≡ b)

pub record ReaderStands : Type 0 where
  pub words_right : WordsRight
  pub rule_one : RuleOne
  pub agree : Agree
  pub word_wrong : WordWrong
  pub end_wrong : EndWrong
  pub outcome_one : OutcomeOne
  pub text_one : TextOne
