-- Filling a table of moves, and what stands outside it.
use Rattle.std.proofs.Common.{◌≡◌, ℕ, zero, suc, ◌+◌, ◌*◌, ◌/◌, ◌%◌, ◌^◌, ◌<◌, ◌≤◌, List, length, get_or, set, replicate, sym, refl, ap, ◌∙◌, inl, inr, arith, pow_mono, get_or-set_other, get_or-set_same}
use Rattle.std.proofs.lemmas.List.{length-set, length-replicate}
use Rattle.std.proofs.lemmas.Bool.{cases_eq, cases_lt}
use Rattle.arena.specs.Arena.{Arena, Walks, Sound}
use Rattle.game.specs.Moves.{HasMoves}

-- where the move from p by x and y stands
abbrev place : ℕ → ℕ → ℕ → ℕ
place p x y = p * 256 + x * 16 + y

-- the moves that stand before a place are in the table, which is 0 from there on
pub record Filling (a : Arena) (at : ℕ) (moves : List ℕ) : Type 0 where
  pub long : length moves ≡ 65536
  pub done : (p x y : ℕ) → x < 16 → y < 16 → place p x y < at → get_or moves (place p x y) 0 ≡ a.move p x y
  pub ahead : (k : ℕ) → at ≤ k → get_or moves k 0 ≡ 0

all_zero : (n k : ℕ) → get_or {A = ℕ} (replicate n 0) k 0 ≡ 0
all_zero zero k = refl
all_zero (suc n) zero = refl
all_zero (suc n) (suc k) = all_zero n k

pub filling_none : (a : Arena) (n : ℕ) → n ≡ 65536 → Filling a 0 (replicate n 0)
filling_none a n e = record { long = length-replicate {A = ℕ} n 0 ∙ e; done = λ p x y _ _ l. absurd (omega arith); ahead = λ k _. all_zero n k }

-- the move that stands at a place comes next
pub filling_more : (a : Arena) (at v : ℕ) (moves : List ℕ) → at < 65536 → v ≡ a.move (at / 256) (at / 16 % 16) (at % 16) → Filling a at moves → Filling a (at + 1) (set moves at v)
filling_more a at v moves low e f = record {
  long = length-set moves at v ∙ f.long;
  done = λ p x y i o l. elim (cases_eq (place p x y) at) [
    | inl here ↦
        let at_p : at / 256 ≡ p = omega arith in
        let at_x : at / 16 % 16 ≡ x = omega arith in
        let at_y : at % 16 ≡ y = omega arith in
        ap (λ k. get_or (set moves at v) k 0) here ∙ get_or-set_same moves at v 0 (omega (arith, f.long)) ∙ e ∙ cc (at_p, at_x, at_y)
    | inr other ↦ get_or-set_other moves at (place p x y) v 0 other ∙ f.done p x y i o (omega arith)
  ];
  ahead = λ k l. get_or-set_other moves at k v 0 (λ s. omega arith) ∙ f.ahead k (omega arith);
}

-- the move that stands at a place, said by its position, input and output
pub filling_move : (a : Arena) (p x y at v : ℕ) (moves : List ℕ) → x < 16 → y < 16 → at ≡ place p x y → at < 65536 → v ≡ a.move p x y → Filling a at moves → Filling a (at + 1) (set moves at v)
filling_move a p x y at v moves i o here low e f =
    let at_p : at / 256 ≡ p = omega arith in
    let at_x : at / 16 % 16 ≡ x = omega arith in
    let at_y : at % 16 ≡ y = omega arith in
    filling_more a at v moves low (e ∙ cc (at_p, at_x, at_y)) f

-- moves that are lost need no asking
filling_past : (a : Arena) (at to : ℕ) (moves : List ℕ) → at ≤ to → ((p x y : ℕ) → x < 16 → y < 16 → at ≤ place p x y → place p x y < to → a.move p x y ≡ 0) → Filling a at moves → Filling a to moves
filling_past a at to moves up none f = record {
  long = f.long;
  done = λ p x y i o l. elim (cases_lt (place p x y) at) [
    | inl before ↦ f.done p x y i o before
    | inr ahead ↦ f.ahead (place p x y) ahead ∙ sym (none p x y i o ahead l)
  ];
  ahead = λ k l. f.ahead k (omega arith);
}

-- nothing leads out of lost
pub past_lost : (a : Arena) (moves : List ℕ) → Walks a → Filling a 0 moves → Filling a 256 moves
past_lost a moves walks = filling_past a 0 256 moves (omega arith) (λ p x y i o h l. let none : p ≡ 0 = omega arith in ap (λ q. a.move q x y) none ∙ walks.from_lost x y)

-- behind the last output of a row, and behind the last input of a position, every move is lost
pub past_row : (a : Arena) (p x m at : ℕ) (moves : List ℕ) → Walks a → x < 16 → m ≡ 2 ^ a.outputs → m ≤ 16 → at ≡ place p x m → Filling a at moves → Filling a (place p (x + 1) 0) moves
past_row a p x m at moves walks i e most here = filling_past a at (place p (x + 1) 0) moves (omega arith) (λ q z y j o h l. let past : 2 ^ a.outputs ≤ y = omega (arith, e) in walks.past_output q z y past)

pub past_rows : (a : Arena) (p n at : ℕ) (moves : List ℕ) → Walks a → n ≡ 2 ^ a.inputs → n ≤ 16 → at ≡ place p n 0 → Filling a at moves → Filling a (place (p + 1) 0 0) moves
past_rows a p n at moves walks e most here = filling_past a at (place (p + 1) 0 0) moves (omega arith) (λ q z y j o h l. let past : 2 ^ a.inputs ≤ z = omega (arith, e) in walks.past_input q z y past)

-- behind the last position every move is lost
pub filling_whole : (a : Arena) (at : ℕ) (moves : List ℕ) → Sound a → at ≡ (a.size + 1) * 256 → Filling a at moves → HasMoves a moves
filling_whole a at moves sound e f p x y _ i o = elim (cases_lt a.size p) [
  | inl past ↦ f.ahead (place p x y) (omega arith) ∙ sym (sound.sized.past_size p x y past)
  | inr below ↦ f.done p x y i o (omega arith)
]

-- no game has an input or an output of 16
module _ (a : Arena) (walks : Walks a) (p x y : ℕ) where
  pub input_outside : 16 ≤ x → a.move p x y ≡ 0
  input_outside l = let most : 2 ^ a.inputs ≤ 2 ^ 4 = pow_mono walks.few_in in walks.past_input p x y (omega (arith, most))

  pub output_outside : 16 ≤ y → a.move p x y ≡ 0
  output_outside l = let most : 2 ^ a.outputs ≤ 2 ^ 4 = pow_mono walks.few_out in walks.past_output p x y (omega (arith, most))
