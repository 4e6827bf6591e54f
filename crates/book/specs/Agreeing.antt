-- When a book agrees with itself and with the moves of its game: what one pass over both can check.
use Rattle.std.specs.Prelude.{◌≡◌, ℕ, ◌^◌, ◌<◌, ◌≤◌, List, length, take, drop, Some, None, Option}
use Rattle.terms.specs.declared.count.Count.{Count}
use Rattle.terms.specs.declared.count.Count.TheVariants.{Lost, Limited, Unlimited}
use Rattle.arena.specs.Arena.{Arena, Place}
use Rattle.terms.specs.Order.{plus, Most, Least}
use Rattle.arena.specs.Book.{front, header, entry_at, book_length}
use Rattle.book.specs.Told.{count_told, spoiling_told, answer_told, count_in}

-- the count c follows from the counts to which the answers to m inputs lead: a limited one is one more than the least,
-- to which the spoiling input leads; an unlimited one leads to unlimited ones only
abbrev pub Follows : Count → ℕ → (ℕ → Count) → Option ℕ → Type 0
Follows Lost m f s = ⊥
Follows (Limited k) m f s = (x : ℕ) × (s ≡ Some x) × Least m f x × (Limited k ≡ plus (f x) 1)
Follows Unlimited m f s = (s ≡ None) × ((x : ℕ) → x < m → f x ≡ Unlimited)

-- y is the right answer to x: the output whose move counts most, and 0 where there is no such input
pub record Expected (a : Arena) (bs : List ℕ) (p x y : ℕ) : Type 0 where
  pub best : x < 2 ^ a.inputs → Most (2 ^ a.outputs) (λ z. count_in bs (a.move p x z)) y
  pub blank : 2 ^ a.inputs ≤ x → y ≡ 0

-- each of the sixteen answers in the record of p is right
abbrev pub AnswersAgree : Arena → List ℕ → ℕ → Type 0
AnswersAgree a bs p = (x : ℕ) → x < 16 → Expected a bs p x (answer_told bs p x)

-- the record of p agrees with the records to which its moves lead
pub record AgreesAt (a : Arena) (bs : List ℕ) (p : ℕ) : Type 0 where
  pub front : take 8 (drop (entry_at p) bs) ≡ front (count_told bs p) (spoiling_told bs p)
  pub answers : AnswersAgree a bs p
  pub follows : Follows (count_told bs p) (2 ^ a.inputs) (λ x. count_in bs (a.move p x (answer_told bs p x))) (spoiling_told bs p)

pub record Agrees (a : Arena) (bs : List ℕ) : Type 0 where
  pub sized : 1 ≤ a.size
  pub long : length bs ≡ book_length a.size
  pub head : take 8 bs ≡ header a
  pub here : (p : ℕ) → Place a p → AgreesAt a bs p
