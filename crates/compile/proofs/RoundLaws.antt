-- The rounds in order, by their numbers.
use Rattle.std.proofs.Common.{◌≡◌, ℕ, zero, suc, ◌+◌, ◌-◌, ◌*◌, ◌/◌, ◌%◌, ◌^◌, ◌<◌, ◌≤◌, ◌⊎◌, ◌++◌, map, length, get_or, sym, refl, ap, ◌∙◌, ap₂, inl, inr, mod-eq_of_lt, suc-mul, zero-mul, arith, pow_pos}
use native.Mathlib.Nat.{add-div_right, add-mod_right, div-eq_of_lt}
use Rattle.std.proofs.lemmas.List.{length-append, length-map, get_or_append_left, get_or-append_right, get_or-map}
use Rattle.std.proofs.lemmas.Bool.{cases_lt}
use Rattle.arena.specs.Tally.{Played}
use Rattle.rules.specs.Explore.{numbers, with_inputs, rounds}
use Rattle.compile.specs.Positions.{turn_at}

numbers_count : (n k : ℕ) → length (numbers n k) ≡ n
numbers_count zero k = refl
numbers_count (suc n) k = ap suc (numbers_count n (suc k))

numbers_at : (n k y d : ℕ) → y < n → get_or (numbers n k) y d ≡ k + y
numbers_at zero k y d l = absurd (omega arith)
numbers_at (suc n) k zero d l = omega arith
numbers_at (suc n) k (suc y) d l = numbers_at n (suc k) y d (omega arith) ∙ omega arith

abbrev round : ℕ → ℕ → Played
round x y = record { input = x; output = y }

-- the rounds of one input
row_count : (x m : ℕ) → length (map (round x) (numbers m 0)) ≡ m
row_count x m = length-map (numbers m 0) (round x) ∙ numbers_count m 0

rows_count : (n k m : ℕ) → length (with_inputs (numbers n k) (numbers m 0)) ≡ n * m
rows_count zero k m = sym (zero-mul m)
rows_count (suc n) k m =
    omega (arith, length-append (map (round k) (numbers m 0)) (with_inputs (numbers n (suc k)) (numbers m 0)), row_count k m, rows_count n (suc k) m, suc-mul n m)

-- there are as many rounds as inputs times outputs
pub rounds_count : (i o : ℕ) → length (rounds i o) ≡ 2 ^ i * 2 ^ o
rounds_count i o = rows_count (2 ^ i) 0 (2 ^ o)

module _ (m : ℕ) (some : 0 < m) where
  rows_at : (n k t : ℕ) (d : Played) → t < n * m → get_or (with_inputs (numbers n k) (numbers m 0)) t d ≡ round (k + t / m) (t % m)
  rows_at zero k t d l = absurd (omega (arith, zero-mul m))
  rows_at (suc n) k t d l = go (λ h. rows_at n (suc k) (t - m) d h) (cases_lt t m)
    where
      go : (t - m < n * m → get_or (with_inputs (numbers n (suc k)) (numbers m 0)) (t - m) d ≡ round (suc k + (t - m) / m) ((t - m) % m)) → (t < m) ⊎ (m ≤ t) → get_or (map (round k) (numbers m 0) ++ with_inputs (numbers n (suc k)) (numbers m 0)) t d ≡ round (k + t / m) (t % m)
      go on (inl h) =
          let none : t / m ≡ 0 = div-eq_of_lt h in
          let x : k ≡ k + t / m = omega arith in
          get_or_append_left (map (round k) (numbers m 0)) (with_inputs (numbers n (suc k)) (numbers m 0)) d t (omega (arith, row_count k m))
          ∙ get_or-map (round k) (numbers m 0) t 0 d (omega (arith, numbers_count m 0))
          ∙ ap₂ round x (numbers_at m 0 t 0 h ∙ omega (arith, mod-eq_of_lt h))
      go on (inr h) =
          let back : t - m + m ≡ t = omega arith in
          let quotient = add-div_right (t - m) some in
          let remainder = add-mod_right (t - m) m in
          let d-is : t / m ≡ (t - m) / m + 1 = ap (λ z. z / m) (sym back) ∙ quotient in
          let m-is : (t - m) % m ≡ t % m = sym remainder ∙ ap (λ z. z % m) back in
          get_or-append_right (map (round k) (numbers m 0)) (with_inputs (numbers n (suc k)) (numbers m 0)) m t d (row_count k m) h
          ∙ on (omega (arith, suc-mul n m))
          ∙ ap₂ round (omega arith) m-is

-- round t in order is the round of the number t
pub round_at : (i o t : ℕ) (d : Played) → t < 2 ^ i * 2 ^ o → get_or (rounds i o) t d ≡ turn_at o t
round_at i o t d l = rows_at (2 ^ o) (pow_pos o) (2 ^ i) 0 t d l ∙ ap (λ x. round x (t % 2 ^ o)) (omega arith)
