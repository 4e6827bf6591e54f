-- When a book is accepted: the promise of `accept`.
use Rattle.std.specs.Prelude.{◌≡◌, ℕ, ◌≤◌, ◌↔◌, List}
use Rattle.terms.specs.declared.count.Count.{Count}
use Rattle.terms.specs.declared.refusal.Refusal.{Refusal}
use Rattle.terms.specs.declared.refusal.Refusal.TheVariants.{SizeZero, NotThisBook}
use Rattle.arena.specs.Arena.{Arena}
use Rattle.arena.specs.Control.{Proper}
use Rattle.arena.specs.Values.{Values}
use Rattle.arena.specs.Book.{Book, IsBook}

-- the bytes are the game's book, and no other bytes are; each count in it is exactly what controllers can hold
pub record Accepted (a : Arena) (bytes : List ℕ) : Type 0 where
  pub values : Values a
  pub book : Book a values bytes
  pub only : (others : List ℕ) → IsBook a others → others ≡ bytes
  pub proper : (p : ℕ) (c : Count) → (values.count p ≡ c) ↔ Proper a p c

-- why a book is not accepted: the game has none, or it is another
pub data Unaccepted (a : Arena) (bytes : List ℕ) (e : Refusal) : Type 0 where
  none : e ≡ SizeZero → a.size ≡ 0 → Unaccepted a bytes e
  other : e ≡ NotThisBook → 1 ≤ a.size → (IsBook a bytes → ⊥) → Unaccepted a bytes e
