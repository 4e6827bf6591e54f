-- What the calls of the library come to: the promises of its public calls.
-- RuleMeans, DiagramMeans: the game of a source. RuleMisread, DiagramMisread: why a source is refused. Gives: an outcome.
use Rattle.std.specs.Prelude.{◌≡◌, ℕ, List, length, Ok, Err, Result, MatchResult}
use Rattle.terms.specs.declared.refusal.Refusal.{Refusal}
use Rattle.arena.specs.Arena.{Arena}
use Rattle.arena.specs.Diagram.{WellFormed, Refused, Draws}
use Rattle.words.specs.declared.name.Name.{Name}
use Rattle.rules.specs.declared.part.Part.{Part}
use Rattle.reader.specs.declared.texts.Text.TheVariants.{Neither}
use Rattle.reader.specs.declared.texts.Misread.{Misread}
use Rattle.book.specs.Solving.{Solved, Declined}
use Rattle.book.specs.Accepting.{Accepted, Unaccepted}
use Rattle.compile.specs.declared.position.Position.{Position}
use Rattle.compile.specs.declared.compiled.Compiled.{Compiled as Numbers}
use Rattle.compile.specs.Compiling.{Roomy, Compiles}
use Rattle.compile.specs.TableGame.{arena_in}
use Rattle.calls.specs.declared.outcome.Outcome.{Outcome}
use Rattle.calls.specs.Outcomes.{refused, outcome}

-- compiling the two texts with stores that are long enough comes to this, with these positions
pub record Compiled (signals rule : List ℕ) (r : Result Numbers Misread) (store : List Position) : Type 0 where
  pub names_before : List Name
  pub parts_before : List Part
  pub store_before : List Position
  pub names : List Name
  pub parts : List Part
  pub roomy : Roomy names_before parts_before store_before
  pub compiles : Compiles names_before parts_before store_before signals rule r names parts store

-- the two texts say a rule, and this is its game
abbrev pub RuleMeans : List ℕ → List ℕ → Arena → Type 0
RuleMeans signals rule a = (c : Numbers) × (store : List Position) × Compiled signals rule (Ok c) store × (a ≡ arena_in c store)

-- a text is refused so, or the rule that they say
abbrev pub RuleMisread : List ℕ → List ℕ → Misread → Type 0
RuleMisread signals rule m = (store : List Position) × Compiled signals rule (Err m) store

-- the bytes draw this game
abbrev pub DiagramMeans : List ℕ → Arena → Type 0
DiagramMeans bytes a = WellFormed bytes × Draws bytes a

-- the bytes draw none, with the first thing that is wrong with them
abbrev pub DiagramMisread : List ℕ → Misread → Type 0
DiagramMisread bytes m = (m.text ≡ Neither) × Refused bytes m.refusal

-- the source is refused, and what the call could have written is as it was; or the source means a game, and over that the
-- call comes to what it promises
pub data Gives (Means : Arena → Type 0) (Misreads : Misread → Type 0) (Same : Type 0) (Promise : Arena → Result ℕ Refusal → Type 0) : Outcome → Type 0 where
  misread : {m : Misread} → Misreads m → Same → Gives Means Misreads Same Promise (refused m)
  over : {a : Arena} {r : Result ℕ Refusal} → Means a → Promise a r → Gives Means Misreads Same Promise (outcome r)

-- over a game, the call comes to what it promises
abbrev pub Comes : (Result ℕ Refusal → Type 0) → Outcome → Type 0
Comes Promise o = (r : Result ℕ Refusal) × (o ≡ outcome r) × Promise r

-- solving writes the game's book, or nothing
abbrev pub SolvedInto : List ℕ → List ℕ → Arena → Result ℕ Refusal → Type 0
SolvedInto before after a r = MatchResult r (Solved a before after) (Declined a before after)

-- accepting says whether these bytes are the game's book
abbrev pub Judged : List ℕ → Arena → Result ℕ Refusal → Type 0
Judged book a r = MatchResult r (λ n. (n ≡ length book) × Accepted a book) (Unaccepted a book)
