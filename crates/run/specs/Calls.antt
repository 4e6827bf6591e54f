-- What each call of a run does, with any bytes as its book.
-- IsNoRound: what no open round is. readable: the book has the record. asked: a question. open_at, set_at: an opening and
-- a setting.
use Rattle.std.specs.Prelude.{◌≡◌, ℕ, ◌^◌, ◌≤◌, Bool, cond, ◌&&◌, ◌||◌, List, length, Some, None, Ok, Err, Option, Result, ◌==◌, nat_le, nat_lt}
use Rattle.terms.specs.declared.count.Count.{Count}
use Rattle.terms.specs.declared.count.Count.TheVariants.{Lost}
use Rattle.terms.specs.declared.refusal.Refusal.{Refusal}
use Rattle.terms.specs.declared.refusal.Refusal.TheVariants.{NotThisBook, OutOfRange, RunLost}
use Rattle.arena.specs.Arena.{Arena}
use Rattle.arena.specs.Book.{book_length}
use Rattle.book.specs.Told.{flag_told, count_told, spoiling_told, answer_told}
use Rattle.run.specs.declared.run.Run.{Run}
use Rattle.run.specs.declared.run.Round.{Round}
use Rattle.run.specs.declared.run.Declined.{Declined}

-- the round stands at no position and bears an input that no game has. No opening gives such a round and no setting makes
-- one, and no question tells the input, so what asks for this of an open round asks for what nobody can show
abbrev pub IsNoRound : Round → Type 0
IsNoRound r = (r.origin ≡ 0) × (16 ≤ r.input)

-- whether the book has the record of p, with a status
abbrev pub readable : List ℕ → ℕ → Bool
readable bs p = nat_le (book_length p) (length bs) && (flag_told bs p == 1 || flag_told bs p == 2)

-- a question at p: where the run is lost, where the record is there, and else
abbrev pub asked : {X : Type 0} → List ℕ → ℕ → X → X → Result X Refusal
asked bs p lost there = cond (p == 0) (Ok lost) (cond (readable bs p) (Ok there) (Err NotThisBook))

abbrev pub position_at : List ℕ → ℕ → Result (Option ℕ) Refusal
position_at bs p = asked bs p None (Some p)

abbrev pub count_at : List ℕ → ℕ → Result Count Refusal
count_at bs p = asked bs p Lost (count_told bs p)

abbrev pub spoiling_at : List ℕ → ℕ → Result (Option ℕ) Refusal
spoiling_at bs p = asked bs p None (spoiling_told bs p)

-- the answer to the input x that is opened at p, refused in this order: the run is lost, the book has no such record, no
-- such input
abbrev pub opening_at : Arena → List ℕ → ℕ → ℕ → Result ℕ Refusal
opening_at a bs p x =
    cond (p == 0) (Err RunLost)
    (cond (readable bs p) (cond (nat_lt x (2 ^ a.inputs)) (Ok (answer_told bs p x)) (Err OutOfRange)) (Err NotThisBook))

-- an opening bears the answer as its output; a refused one gives the run back as it was
abbrev pub as_round : ℕ → ℕ → Result ℕ Refusal → Result Round Declined
as_round p x (Ok y) = Ok (record { origin = p; input = x; output = y })
as_round p x (Err e) = Err (record { run = record { position = p }; refusal = e })

abbrev pub open_at : Arena → List ℕ → ℕ → ℕ → Result Round Declined
open_at a bs p x = as_round p x (opening_at a bs p x)

-- a consultation is an opening that is abandoned: it gives the run back, and the answer
abbrev pub consulted : Result Round Declined → Result (Run × ℕ) Declined
consulted (Ok r) = Ok (record { position = r.origin }, r.output)
consulted (Err e) = Err e

abbrev pub consult_at : Arena → List ℕ → ℕ → ℕ → Result (Run × ℕ) Declined
consult_at a bs p x = consulted (open_at a bs p x)

-- a setting replaces the output, unless there is no such output
abbrev pub set_at : Arena → Round → ℕ → Round
set_at a r y = cond (nat_lt y (2 ^ a.outputs)) (record { origin = r.origin; input = r.input; output = y }) r

abbrev pub set_result : Arena → ℕ → Result Unit Refusal
set_result a y = cond (nat_lt y (2 ^ a.outputs)) (Ok tt) (Err OutOfRange)
