-- What a row of calls comes to, in numbers.
-- strange_at: the first that is no call. answer_at: one answer. Answered, Promised: a row of them. RowReplayed: that, and refusals.
use Rattle.std.specs.Prelude.{◌≡◌, ℕ, ◌<◌, ◌≤◌, ◌↔◌, List, [], ◌++◌, length, take, drop, Some, None, Ok, Err, Option, Result, position, is_none}
use Rattle.terms.specs.declared.count.Count.{Count}
use Rattle.terms.specs.declared.call.Call.{Call}
use Rattle.terms.specs.declared.call.Reply.{Reply}
use Rattle.terms.specs.declared.call.Standing.{Standing}
use Rattle.terms.specs.declared.refusal.Refusal.{Refusal}
use Rattle.terms.specs.declared.refusal.Refusal.TheVariants.{StrangeByte, StoreTooShort, SizeZero, NotThisBook}
use Rattle.arena.specs.Arena.{Arena}
use Rattle.arena.specs.Control.{Proper}
use Rattle.arena.specs.Values.{Values}
use Rattle.arena.specs.Book.{IsBook, Book}
use Rattle.arena.specs.Tally.{between, steps}
use Rattle.arena.specs.Rows.{LosesAtMost, LosesAtLeast}
use Rattle.run.specs.declared.stage.Stage.{Stage}
use Rattle.run.specs.Stages.{stage_position, stage_reply, stage_after, standing_at}
use Rattle.calls.specs.declared.code.CallCode.{CallCode}
use Rattle.calls.specs.declared.code.Answer.{Answer}
use Rattle.calls.specs.Codes.{call_of, calls_of, answer_of, answers_of}

-- the first in a row that is no call
abbrev pub strange_at : List CallCode → Option ℕ
strange_at row = position (λ c. is_none (call_of c)) row

-- what a call of a row is told, by the stage that it finds: an answer, or the refusal that no record of the position is there
abbrev pub answer_with : Reply → Result Standing Refusal → Result Answer Refusal
answer_with r (Ok s) = Ok (answer_of (record { reply = r; standing = s }))
answer_with r (Err e) = Err e

abbrev pub answer_at : Arena → List ℕ → Call → Stage → Result Answer Refusal
answer_at a bs c st = answer_with (stage_reply a bs c st) (standing_at bs (stage_position (stage_after a bs c st)))

-- there is an answer for each call, and the answers are the tally's; those behind the row are as they were
abbrev pub Answered : {a : Arena} → Values a → List CallCode → List Answer → List Answer → Type 0
Answered v row before after = after ≡ answers_of (steps v (calls_of row) (between [])) ++ drop (length row) before

-- what a run keeps whatever its calls are: after any number of them, following the book has lost at most one a round, and
-- spoiling it at least one; and the counts are exactly what controllers can hold
pub record Promised {a : Arena} (v : Values a) (calls : List Call) : Type 0 where
  pub follows : (i : ℕ) → LosesAtMost v (take i calls)
  pub spoils : (i : ℕ) → LosesAtLeast v (take i calls)
  pub proper : (p : ℕ) (c : Count) → (v.count p ≡ c) ↔ Proper a p c

-- the whole of it: a row is refused where the store for the answers is too short, where one is no call, where the game has
-- no book or where this is not it, and then nothing is written; else all are answered
pub record RowReplayed (a : Arena) (bs : List ℕ) (row : List CallCode) (before after : List Answer) (r : Result ℕ Refusal) : Type 0 where
  pub short : length before < length row → (r ≡ Err StoreTooShort) × (after ≡ before)
  pub strange : (k : ℕ) → length row ≤ length before → strange_at row ≡ Some k → (r ≡ Err (StrangeByte k)) × (after ≡ before)
  pub none : length row ≤ length before → strange_at row ≡ None → a.size ≡ 0 → (r ≡ Err SizeZero) × (after ≡ before)
  pub other : length row ≤ length before → strange_at row ≡ None → 1 ≤ a.size → (IsBook a bs → ⊥) → (r ≡ Err NotThisBook) × (after ≡ before)
  pub kept : length row ≤ length before → strange_at row ≡ None → (v : Values a) → Book a v bs → (r ≡ Ok (length row)) × Answered v row before after × Promised v (calls_of row)
