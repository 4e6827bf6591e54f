-- What solving gives and why it is refused: the promise of `solve`.
use Rattle.std.specs.Prelude.{◌≡◌, ℕ, ◌<◌, ◌≤◌, ◌↔◌, List, length, take, drop}
use Rattle.terms.specs.declared.count.Count.{Count}
use Rattle.terms.specs.declared.refusal.Refusal.{Refusal}
use Rattle.terms.specs.declared.refusal.Refusal.TheVariants.{StoreTooShort, SizeZero, TooManySweeps}
use Rattle.arena.specs.Arena.{Arena}
use Rattle.arena.specs.Held.{Held, InTime}
use Rattle.arena.specs.Control.{CanHold, Proper}
use Rattle.arena.specs.Values.{Values}
use Rattle.arena.specs.Book.{Book, IsBook, book_length}

-- the first bytes are the game's book, and no other bytes are; each count in it is exactly what controllers can hold,
-- as is each number of rounds that a position is held for; and the rest of the store is as it was
pub record Solved (a : Arena) (before after : List ℕ) (len : ℕ) : Type 0 where
  pub long : len ≡ book_length a.size
  pub values : Values a
  pub book : Book a values (take len after)
  pub only : (bytes : List ℕ) → IsBook a bytes → bytes ≡ take len after
  pub proper : (p : ℕ) (c : Count) → (values.count p ≡ c) ↔ Proper a p c
  pub held : (p k : ℕ) → Held a k p ↔ CanHold a p k
  pub rest : drop len after ≡ drop len before

-- why solving is refused, in the order of judging: the size is 0; 256 sweeps do not suffice; the store is too short
pub data Cause (a : Arena) (room : ℕ) (e : Refusal) : Type 0 where
  none : e ≡ SizeZero → a.size ≡ 0 → Cause a room e
  sweeps : e ≡ TooManySweeps → 1 ≤ a.size → (InTime a → ⊥) → Cause a room e
  short : e ≡ StoreTooShort → 1 ≤ a.size → InTime a → room < book_length a.size → Cause a room e

-- a refusal has its cause, and writes nothing
pub record Declined (a : Arena) (before after : List ℕ) (e : Refusal) : Type 0 where
  pub cause : Cause a (length before) e
  pub same : after ≡ before
