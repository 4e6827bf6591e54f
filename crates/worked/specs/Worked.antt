-- Ten worked examples, over one input, door, and one output, lock.
-- Says: what a text says. Row, book_of: what a book says of its positions. Shows: a game's book and counts.
-- text, rule, comes_to: each example. Stands, Examples: what is shown of them, in one statement. Works: what the call does.
-- Gives, Solves, SolvesPair: what its steps do.
use Rattle.std.specs.Prelude.{◌≡◌, ℕ, suc, ◌-◌, ◌<◌, Bool, true, false, cond, List, [], ◌∷◌, ◌++◌, length, drop, flat_map, get_or, replicate, nat_lt, Some, None, Ok, Err, Option, Result, MatchResult}
use Rattle.terms.specs.declared.count.Count.{Count}
use Rattle.terms.specs.declared.count.Count.TheVariants.{Limited, Unlimited}
use Rattle.terms.specs.declared.refusal.Refusal.{Refusal}
use Rattle.terms.specs.declared.refusal.Refusal.TheVariants.{StartLost, StoreTooShort}
use Rattle.arena.specs.Arena.{Arena}
use Rattle.arena.specs.Book.{front, IsBook}
use Rattle.arena.specs.Control.{Proper}
use Rattle.arena.specs.Diagram.{shape_of, drawn, WellFormed}
use Rattle.arena.specs.Pair.{pair}
use Rattle.book.specs.Solving.{Solved, Declined}
use Rattle.words.specs.declared.name.Name.{Name}
use Rattle.rules.specs.declared.part.Signal.TheVariants.{Input, Output}
use Rattle.rules.specs.Rule.{Rule, always, never, literal, next, release, both, either}
use Rattle.rules.specs.Explore.{compiled}
use Rattle.rules.specs.Game.{game}
use Rattle.compile.specs.declared.position.Position.{Position}
use Rattle.compile.specs.declared.compiled.Compiled.{Compiled as Numbers}
use Rattle.compile.specs.Positions.{reason}
use Rattle.compile.specs.TableGame.{arena_in}
use Rattle.compile.specs.Compiling.{ReadsAs}
use Rattle.worked.specs.declared.example.Example.{Example}
use Rattle.worked.specs.declared.example.Example.TheVariants.{True, False, NextFalse, Guard, Follow, Later, Clash, Release, Paired, Drawn}

-- ---- texts

-- `door` and `lock`, and the signals text `in door out lock`
abbrev pub door_name : List ℕ
door_name = 100 ∷ 111 ∷ 111 ∷ 114 ∷ []

abbrev pub lock_name : List ℕ
lock_name = 108 ∷ 111 ∷ 99 ∷ 107 ∷ []

abbrev pub signals : List ℕ
signals = 105 ∷ 110 ∷ 32 ∷ 100 ∷ 111 ∷ 111 ∷ 114 ∷ 32 ∷ 111 ∷ 117 ∷ 116 ∷ 32 ∷ 108 ∷ 111 ∷ 99 ∷ 107 ∷ []

-- the text says the rule f over these signals
abbrev pub Says : List ℕ → Rule → Type 0
Says text f = (stored : List Name) × ReadsAs 8 signals text stored (door_name ∷ []) (lock_name ∷ []) f

abbrev pub door : Bool → Rule
door on = literal (Input 0) on

abbrev pub lock : Bool → Rule
lock on = literal (Output 0) on

-- the text of an example: of one rule; a pair and a diagram have none
unfoldable pub text : Example → List ℕ
-- `true`
text True = 116 ∷ 114 ∷ 117 ∷ 101 ∷ []
-- `false`
text False = 102 ∷ 97 ∷ 108 ∷ 115 ∷ 101 ∷ []
-- `X false`
text NextFalse = 88 ∷ 32 ∷ 102 ∷ 97 ∷ 108 ∷ 115 ∷ 101 ∷ []
-- `G (!door | lock)`
text Guard = 71 ∷ 32 ∷ 40 ∷ 33 ∷ 100 ∷ 111 ∷ 111 ∷ 114 ∷ 32 ∷ 124 ∷ 32 ∷ 108 ∷ 111 ∷ 99 ∷ 107 ∷ 41 ∷ []
-- `G (!door | X lock)`
text Follow = 71 ∷ 32 ∷ 40 ∷ 33 ∷ 100 ∷ 111 ∷ 111 ∷ 114 ∷ 32 ∷ 124 ∷ 32 ∷ 88 ∷ 32 ∷ 108 ∷ 111 ∷ 99 ∷ 107 ∷ 41 ∷ []
-- `X X door`
text Later = 88 ∷ 32 ∷ 88 ∷ 32 ∷ 100 ∷ 111 ∷ 111 ∷ 114 ∷ []
-- `X lock & X !lock`
text Clash = 88 ∷ 32 ∷ 108 ∷ 111 ∷ 99 ∷ 107 ∷ 32 ∷ 38 ∷ 32 ∷ 88 ∷ 32 ∷ 33 ∷ 108 ∷ 111 ∷ 99 ∷ 107 ∷ []
-- `lock R door`
text Release = 108 ∷ 111 ∷ 99 ∷ 107 ∷ 32 ∷ 82 ∷ 32 ∷ 100 ∷ 111 ∷ 111 ∷ 114 ∷ []
text Paired = []
text Drawn = []

-- the rule that it says; `G f` stands for `false R f`
unfoldable pub rule : Example → Rule
rule True = always
rule False = never
rule NextFalse = next never
rule Guard = release never (either (door false) (lock true))
rule Follow = release never (either (door false) (next (lock true)))
rule Later = next (next (door true))
rule Clash = both (next (lock true)) (next (lock false))
rule Release = release (lock true) (door true)
rule Paired = always
rule Drawn = always

-- the diagram: 2 positions and 3 records. Input 0 with output 0 stays in 1, input 1 with output 1 leads from 1 to 2, and
-- input 0 with output 0 leads from 2 to 1.
abbrev pub image : List ℕ
image =
    1 ∷ 1 ∷ 2 ∷ 1 ∷ 0 ∷ 3 ∷ 0 ∷ 0 ∷
    0 ∷ 1 ∷ 0 ∷ 3 ∷
    0 ∷ 0 ∷ 1 ∷ 0 ∷ 0 ∷ 2 ∷ 0 ∷ 0 ∷
    1 ∷ 1 ∷ 2 ∷ 0 ∷ 0 ∷ 0 ∷ 0 ∷ 0 ∷
    0 ∷ 0 ∷ 1 ∷ 0 ∷ 0 ∷ 0 ∷ 0 ∷ 0 ∷ []

-- ---- what a book says

-- what it says of one position: its count, its spoiling input, and the answers to input 0 and on
pub record Row : Type 0 where
  pub count : Count
  pub spoiling : Option ℕ
  pub answers : List ℕ

-- a row of an unlimited position, and of one with so many rounds left, where that input spoils
abbrev pub endless : List ℕ → Row
endless ys = record { count = Unlimited; spoiling = None; answers = ys }

abbrev pub left : ℕ → ℕ → List ℕ → Row
left k x ys = record { count = Limited k; spoiling = Some x; answers = ys }

abbrev pub row_bytes : Row → List ℕ
row_bytes r = front r.count r.spoiling ++ (r.answers ++ replicate (16 - length r.answers) 0)

-- the book with these rows, of a game with one input and one output that starts at 1
abbrev pub book_of : List Row → List ℕ
book_of rows = 1 ∷ 1 ∷ 1 ∷ length rows ∷ 1 ∷ 0 ∷ 0 ∷ 0 ∷ flat_map row_bytes rows

-- the game a has so many positions and this book, and each count is exactly what controllers can hold
pub record Shows (a : Arena) (rows : List Row) : Type 0 where
  pub size : a.size ≡ length rows
  pub book : IsBook a (book_of rows)
  pub counts : (k : ℕ) → k < length rows → Proper a (suc k) (get_or rows k (endless [])).count

-- ---- the examples

-- the rows of an example's book, position 1 first; or its refusal
unfoldable pub comes_to : Example → Result (List Row) Refusal
comes_to True = Ok (endless (0 ∷ 0 ∷ []) ∷ [])
comes_to False = Err StartLost
comes_to NextFalse = Ok (left 0 0 (0 ∷ 0 ∷ []) ∷ [])
comes_to Guard = Ok (endless (0 ∷ 1 ∷ []) ∷ [])
comes_to Follow = Ok (endless (0 ∷ 0 ∷ []) ∷ endless (1 ∷ 1 ∷ []) ∷ [])
comes_to Later = Ok (left 2 0 (0 ∷ 0 ∷ []) ∷ left 1 0 (0 ∷ 0 ∷ []) ∷ left 0 0 (0 ∷ 0 ∷ []) ∷ endless (0 ∷ 0 ∷ []) ∷ [])
comes_to Clash = Ok (left 1 0 (0 ∷ 0 ∷ []) ∷ left 0 0 (0 ∷ 0 ∷ []) ∷ [])
comes_to Release = Ok (left 0 0 (0 ∷ 1 ∷ []) ∷ endless (0 ∷ 0 ∷ []) ∷ [])
comes_to Paired = Ok (left 2 0 (0 ∷ 0 ∷ []) ∷ left 1 0 (0 ∷ 0 ∷ []) ∷ left 0 0 (0 ∷ 0 ∷ []) ∷ endless (0 ∷ 0 ∷ [])
    ∷ left 2 0 (1 ∷ 1 ∷ []) ∷ left 1 0 (1 ∷ 1 ∷ []) ∷ left 0 0 (0 ∷ 1 ∷ []) ∷ endless (1 ∷ 1 ∷ []) ∷ [])
comes_to Drawn = Ok (left 1 1 (0 ∷ 1 ∷ []) ∷ left 0 1 (0 ∷ 0 ∷ []) ∷ [])

-- the game of an example's rule
abbrev pub ruled : Example → Arena
ruled e = game 1 1 (rule e)

-- the text says the rule, and its game shows these rows; or the rule is refused
abbrev pub Compiles : Example → Result (List Row) Refusal → Type 0
Compiles e (Ok rows) = Says (text e) (rule e) × (reason (compiled 1 1 (rule e)) ≡ None) × Shows (ruled e) rows
Compiles e (Err x) = Says (text e) (rule e) × (reason (compiled 1 1 (rule e)) ≡ Some x)

-- the game shows these rows
abbrev pub Plays : Arena → Result (List Row) Refusal → Type 0
Plays a (Ok rows) = Shows a rows
Plays a (Err x) = ⊥

-- what is shown of an example: the pair is that of Follow and Later
abbrev pub Stands : Example → Type 0
Stands True = Compiles True (comes_to True)
Stands False = Compiles False (comes_to False)
Stands NextFalse = Compiles NextFalse (comes_to NextFalse)
Stands Guard = Compiles Guard (comes_to Guard)
Stands Follow = Compiles Follow (comes_to Follow)
Stands Later = Compiles Later (comes_to Later)
Stands Clash = Compiles Clash (comes_to Clash)
Stands Release = Compiles Release (comes_to Release)
Stands Paired = Plays (pair (ruled Follow) (ruled Later)) (comes_to Paired)
Stands Drawn = WellFormed image × Plays (drawn (shape_of image) image) (comes_to Drawn)

abbrev pub Examples : Type 0
Examples = (e : Example) → Stands e

-- ---- the call

-- what a call leaves of a store: the book in front, where it fits, and nothing changed where it does not or is refused
abbrev pub Works : Result (List Row) Refusal → List ℕ → List ℕ → Result ℕ Refusal → Type 0
Works (Err x) before after r = (r ≡ Err x) × (after ≡ before)
Works (Ok rows) before after r =
    cond (nat_lt (length before) (length (book_of rows)))
    ((r ≡ Err StoreTooShort) × (after ≡ before))
    ((r ≡ Ok (length (book_of rows))) × (after ≡ book_of rows ++ drop (length (book_of rows)) before))

-- what compiling a text over the signals gives: the game of the rule that it says, or its refusal
abbrev pub Gives : List ℕ → Result Numbers Refusal → List Position → Type 0
Gives rule (Ok c) store = (f : Rule) → Says rule f → (reason (compiled 1 1 f) ≡ None) × (arena_in c store ≡ game 1 1 f)
Gives rule (Err e) store = (f : Rule) → Says rule f → reason (compiled 1 1 f) ≡ Some e

-- what solving the game of a rule comes to: its refusal, and nothing written; or what solving its game does
abbrev pub SolvesAs : Option Refusal → Arena → List ℕ → List ℕ → Result ℕ Refusal → Type 0
SolvesAs (Some e) a before after r = (r ≡ Err e) × (after ≡ before)
SolvesAs None a before after r = MatchResult r (Solved a before after) (Declined a before after)

abbrev pub Solves : List ℕ → List ℕ → List ℕ → Result ℕ Refusal → Type 0
Solves rule before after r = (f : Rule) → Says rule f → SolvesAs (reason (compiled 1 1 f)) (game 1 1 f) before after r

-- the same of two rules that compile, paired
abbrev pub SolvesPair : List ℕ → List ℕ → List ℕ → List ℕ → Result ℕ Refusal → Type 0
SolvesPair first second before after r =
    (f g : Rule) → Says first f → Says second g → reason (compiled 1 1 f) ≡ None → reason (compiled 1 1 g) ≡ None
    → MatchResult r (Solved (pair (game 1 1 f) (game 1 1 g)) before after) (Declined (pair (game 1 1 f) (game 1 1 g)) before after)
