-- The promise of a run, whole.
-- Started: making a run. Kept: what a row of calls comes to. Replayed: that, and when a row is refused.
use Rattle.std.specs.Prelude.{◌≡◌, ℕ, ◌<◌, ◌≤◌, ◌↔◌, List, [], ◌++◌, length, take, drop, Ok, Err, Result}
use Rattle.terms.specs.declared.count.Count.{Count}
use Rattle.terms.specs.declared.call.Call.{Call}
use Rattle.terms.specs.declared.call.Standing.{Standing}
use Rattle.terms.specs.declared.call.Step.{Step}
use Rattle.terms.specs.declared.refusal.Refusal.{Refusal}
use Rattle.terms.specs.declared.refusal.Refusal.TheVariants.{StoreTooShort, SizeZero, NotThisBook}
use Rattle.arena.specs.Arena.{Arena}
use Rattle.arena.specs.Control.{Proper}
use Rattle.arena.specs.Values.{Values}
use Rattle.arena.specs.Book.{IsBook, Book}
use Rattle.arena.specs.Tally.{between, standing, tally, steps}
use Rattle.arena.specs.Rows.{LosesAtMost, LosesAtLeast}
use Rattle.run.specs.declared.run.Run.{Run}

-- making a run of the game a by the book bs: refused where the game has no book or this is not it
pub record Started (a : Arena) (bs : List ℕ) (r : Result Run Refusal) : Type 0 where
  pub none : a.size ≡ 0 → r ≡ Err SizeZero
  pub other : 1 ≤ a.size → (IsBook a bs → ⊥) → r ≡ Err NotThisBook
  pub made : IsBook a bs → r ≡ Ok (record { position = a.start })

-- what a row of calls comes to: what every call was told, and where the run stood after it, are the tally's, and so is
-- where it stands at the end; after any number of the calls, following the book has lost at most one a round, and
-- spoiling it at least one; and the counts are exactly what controllers can hold
pub record Kept (a : Arena) (v : Values a) (row : List Call) (before after : List Step) (end : Standing) : Type 0 where
  pub told : after ≡ steps v row (between []) ++ drop (length row) before
  pub ended : end ≡ standing v (tally v row)
  pub follows : (i : ℕ) → LosesAtMost v (take i row)
  pub spoils : (i : ℕ) → LosesAtLeast v (take i row)
  pub proper : (p : ℕ) (c : Count) → (v.count p ≡ c) ↔ Proper a p c

-- the whole promise: a row is refused where the store for its steps is too short, where the game has no book or where
-- this is not it, and then nothing is written; else it is kept
pub record Replayed (a : Arena) (bs : List ℕ) (row : List Call) (before after : List Step) (r : Result Standing Refusal) : Type 0 where
  pub short : length before < length row → (r ≡ Err StoreTooShort) × (after ≡ before)
  pub none : length row ≤ length before → a.size ≡ 0 → (r ≡ Err SizeZero) × (after ≡ before)
  pub other : length row ≤ length before → 1 ≤ a.size → (IsBook a bs → ⊥) → (r ≡ Err NotThisBook) × (after ≡ before)
  pub kept : length row ≤ length before → (v : Values a) → Book a v bs → (end : Standing) × (r ≡ Ok end) × Kept a v row before after end
