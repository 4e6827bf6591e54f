-- What each step of the reader gives.
-- saids: what the words say from a place on. Passed: words were read. Stops: the reader's refusal is the table's.
-- Gives: a part of a rule was read, and its parts are in the table. Comes: one or the other.
use Rattle.std.specs.Prelude.{◌≡◌, ℕ, suc, ◌<◌, ◌≤◌, Bool, List, [], ◌∷◌, ◌++◌, map, length, Some, None, Ok, Err, Result, ◌≢◌}
use Rattle.terms.specs.declared.refusal.Refusal.{Refusal}
use Rattle.terms.specs.declared.refusal.Refusal.TheVariants.{UnknownName, TooDeep}
use Rattle.terms.specs.Refusals as refusals
use Rattle.words.specs.declared.word.Word.{Word}
use Rattle.words.specs.declared.word.Token.{Token}
use Rattle.words.specs.declared.word.Word.TheVariants.{Next, Always, Release, Until, Finally, And, Or, Not, Open, Close, In, Out, True, False, Name, Strange, End}
use Rattle.words.specs.Words.{Said, Placed, said, place, words_from, and', or', not', close', R'}
use Rattle.rules.specs.declared.part.Signal.{Signal}
use Rattle.rules.specs.declared.part.Part.{Part}
use Rattle.rules.specs.Rule.{Rule, literal}
use Rattle.reader.specs.declared.descent.Source.{Source}
use Rattle.reader.specs.declared.descent.Found.{Found}
use Rattle.reader.specs.Grammar.{Names, Sort, rule, choice, join, unit, Derives}
use Rattle.reader.specs.Allowed.{State, due, named, done, stops, run}
use Rattle.reader.specs.Names.{known}
use Rattle.reader.specs.Entries.{Enters}

-- the bytes of a source, and the names that it knows
abbrev pub text_of : Source → List ℕ
text_of s = s.text.now

abbrev pub names_of : Source → Names
names_of s = known s.names.now s.signals.inputs s.signals.outputs

-- what the words from a place on say
abbrev pub saids : List ℕ → ℕ → List Said
saids text p = map said (words_from text p)

-- the place of the first word, or of the end
abbrev pub first_place : List Placed → ℕ → ℕ
first_place [] end = end
first_place (w ∷ ws) end = place w

-- words stand from p on, and those from q on come behind them
pub record Passed (text : List ℕ) (p q : ℕ) : Type 0 where
  pub on : p < q
  pub within : q ≤ length text
  pub words : List Placed
  pub are : words_from text p ≡ words ++ words_from text q

-- from p on the table refuses, at a word or the end behind p, as the refusal says
pub record Stops (known : Names) (s : State) (text : List ℕ) (p : ℕ) (e : Refusal) : Type 0 where
  pub from : ℕ
  pub words : List Placed
  pub are : words_from text p ≡ words ++ words_from text from
  pub stop : run known s (saids text p) ≡ stops (refusals.number e) (saids text from)
  pub place_is : refusals.place e ≡ first_place (words_from text from) (length text)

-- the number of a word that is not allowed where it stands
abbrev pub number_of : Word → ℕ
number_of Next = 3
number_of Always = 3
number_of Release = 3
number_of Until = 7
number_of Finally = 7
number_of And = 3
number_of Or = 3
number_of Not = 3
number_of Open = 3
number_of Close = 3
number_of In = 3
number_of Out = 3
number_of True = 3
number_of False = 3
number_of (Name x) = 3
number_of (Strange b) = 2
number_of End = 3

-- the refusal of a word that is not allowed at p
pub record Refuses (w : Word) (p : ℕ) (e : Refusal) : Type 0 where
  pub number_is : refusals.number e ≡ number_of w
  pub place_is : refusals.place e ≡ p

-- one level less, or the refusal where none is left
abbrev pub Deeper : ℕ → ℕ → Result ℕ Refusal → Type 0
Deeper n p (Ok m) = n ≡ suc m
Deeper n p (Err e) = (n ≡ 0) × (e ≡ TooDeep p)

-- behind a join, a choice or a rule come no words that it would go on with
abbrev pub Past : Said → List Said → Type 0
Past w ws = (ms : List Said) → ws ≢ w ∷ ms

abbrev pub Ends : Sort → List Said → Type 0
Ends unit ws = Unit {0}
Ends join ws = Past and' ws
Ends choice ws = Past and' ws × Past or' ws
Ends rule ws = Past and' ws × Past or' ws × Past R' ws

-- the reader came from the place p to behind the rule f, of which D is true, and f's parts are entered
pub record Gives (text : List ℕ) (D : Rule → List Said → Type 0) (p : ℕ) (table after : List Part) (r : Found) : Type 0 where
  pub said_rule : Rule
  pub derives : D said_rule (saids text r.at)
  pub passed : Passed text p r.at
  pub entered : Enters table said_rule after r.number

-- the table refuses wherever such a part is due with n levels left
abbrev pub Wrong : Names → Sort → ℕ → List ℕ → ℕ → Refusal → Type 0
Wrong known unit n text p e = (b : ℕ) (os : List ℕ) → Stops known (due n b os) text p e
Wrong known join n text p e = (os : List ℕ) → Stops known (due n n os) text p e
Wrong known choice n text p e = (os : List ℕ) → Stops known (due n n os) text p e
Wrong known rule n text p e = (os : List ℕ) → Stops known (due n n os) text p e

-- what reading a part of a rule comes to
abbrev pub Comes : Source → Sort → ℕ → ℕ → List Part → List Part → Result Found Refusal → Type 0
Comes s sort n p table after (Ok r) = Gives (text_of s) (Derives (names_of s) sort n (saids (text_of s) p)) p table after r × Ends sort (saids (text_of s) r.at)
Comes s sort n p table after (Err e) = Wrong (names_of s) sort n (text_of s) p e

-- what a name comes to: the literal of its signal is entered, or it is unknown
abbrev pub LiteralComes : Source → List ℕ → Bool → Token → List Part → List Part → Result Found Refusal → Type 0
LiteralComes s run on t table after (Ok r) = (g : Signal) × (names_of s run ≡ Some g) × (r.at ≡ t.next) × Enters table (literal g on) after r.number
LiteralComes s run on t table after (Err e) = (names_of s run ≡ None) × (e ≡ UnknownName t.at)

-- what the words behind a `!` come to
abbrev pub NotComes : Source → ℕ → List Part → List Part → Result Found Refusal → Type 0
NotComes s p table after (Ok r) = (n : ℕ) → Gives (text_of s) (Derives (names_of s) unit n (not' ∷ saids (text_of s) p)) p table after r
NotComes s p table after (Err e) = (b : ℕ) (os : List ℕ) → Stops (names_of s) (named b os) (text_of s) p e

-- what the word behind a rule in brackets comes to
abbrev pub CloseComes : Source → Found → Result Found Refusal → Type 0
CloseComes s f (Ok r) = (saids (text_of s) f.at ≡ close' ∷ saids (text_of s) r.at) × Passed (text_of s) f.at r.at × (r.number ≡ f.number)
CloseComes s f (Err e) = Ends rule (saids (text_of s) f.at) → (m b : ℕ) (os : List ℕ) → Stops (names_of s) (done m (b ∷ os)) (text_of s) f.at e
