-- The lowest member of a set, and the set without it.
use Rattle.std.proofs.Common.{◌≡◌, ℕ, zero, suc, ◌+◌, ◌-◌, ◌*◌, ◌/◌, ◌%◌, ◌^◌, ◌<◌, ◌⊎◌, [], ◌∷◌, refl, ap, ◌∙◌, inl, inr, ⊎_elim, add-zero, pow-suc, arith}
use lib.Bits.{bit_and, and_step, and_self}
use lib.Count.{count_trailing_zeros}
use Rattle.std.proofs.lemmas.Bool.{cases_eq}
use Rattle.rules.specs.Sets.{digits_set, members}

odd_or_even : (n : ℕ) → (n % 2 ≡ 0) ⊎ (n % 2 ≡ 1)
odd_or_even n = ⊎_elim inl (λ no. inr (omega arith)) (cases_eq (n % 2) 0)

-- the next smaller number's digits, and what both have
less_odd : (n : ℕ) → n % 2 ≡ 1 → bit_and n (n - 1) ≡ n / 2 * 2
less_odd n e =
    let h : (n - 1) / 2 ≡ n / 2 = omega arith in
    let l : (n - 1) % 2 ≡ 0 = omega arith in
    and_step n (n - 1) ∙ rw (h, l, e, and_self) (omega arith)

less_even : (n : ℕ) → 0 < n → n % 2 ≡ 0 → bit_and n (n - 1) ≡ bit_and (n / 2) (n / 2 - 1) * 2
less_even n p e =
    let h : (n - 1) / 2 ≡ n / 2 - 1 = omega arith in
    let l : (n - 1) % 2 ≡ 1 = omega arith in
    and_step n (n - 1) ∙ rw (h, l, e) (omega arith)

doubled : (d k x : ℕ) → digits_set (suc d) k (x * 2) ≡ digits_set d (suc k) x
unfolding digits_set
doubled d k x =
    let e : x * 2 % 2 ≡ 0 = omega arith in
    let h : x * 2 / 2 ≡ x = omega arith in
    rw (e, h)

lowest_in : (d k n : ℕ) → 0 < n → n < 2 ^ d → digits_set d k n ≡ (k + count_trailing_zeros d n) ∷ digits_set d k (bit_and n (n - 1))
unfolding digits_set count_trailing_zeros
lowest_in zero k n p h = absurd (omega arith)
lowest_in (suc d) k n p h =
    ⊎_elim
    (λ even.
    let q : 0 < n / 2 = omega arith in
    let r : n / 2 < 2 ^ d = omega (arith, pow-suc 2 d) in
    let up : suc k + count_trailing_zeros d (n / 2) ≡ k + suc (count_trailing_zeros d (n / 2)) = omega arith in
    rw (less_even n p even, doubled d k (bit_and (n / 2) (n / 2 - 1)), even) (lowest_in d (suc k) (n / 2) q r ∙ ap (λ i. i ∷ digits_set d (suc k) (bit_and (n / 2) (n / 2 - 1))) up))
    (λ odd. rw (less_odd n odd, doubled d k (n / 2), odd, add-zero))
    (odd_or_even n)

-- the lowest member is told by the trailing zeros, and the others are those of the set without it
pub members_lowest : (n : ℕ) → 0 < n → n < 2 ^ 32 → members n ≡ count_trailing_zeros 32 n ∷ members (bit_and n (n - 1))
unfolding members
members_lowest n p h = lowest_in 32 0 n p h ∙ ap (λ i. i ∷ digits_set 32 0 (bit_and n (n - 1))) (omega arith)

pub members_none : members 0 ≡ []
unfolding members digits_set
members_none = refl
