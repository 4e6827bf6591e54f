-- The members of a set by its digits.
use Rattle.std.specs.Prelude.{◌≡◌, ℕ, zero, suc, ◌+◌, ◌/◌, ◌%◌, ◌^◌, ◌<◌, min, max, ◌⊎◌, ◌↔◌, List, [], ◌∷◌, refl}
use Rattle.std.proofs.Common.{sym, ap, subst, ◌∙◌, inl, inr, pow-suc, arith}
use Rattle.std.specs.Int.Bits.{bit_and, bit_or, and_step, or_step}
use Rattle.std.proofs.lemmas.Nat.{shr-shr, and_shr, or_shr}
use Rattle.rules.specs.Rule.{bit}
use Rattle.rules.specs.Sets.{put, digits_set, members}

pub bit_zero : (n : ℕ) → bit n 0 ≡ n % 2
bit_zero n = let e : n / 1 ≡ n = omega arith in ap (λ m. m % 2) e

pub bit_suc : (n k : ℕ) → bit n (suc k) ≡ bit (n / 2) k
bit_suc n k = ap (λ m. m % 2) (sym (shr-shr n 1 k ∙ ap (λ e. n / 2 ^ e) (omega arith)))

pub bit_of_and : (a b k : ℕ) → bit (bit_and a b) k ≡ min (bit a k) (bit b k)
bit_of_and a b k = rw (and_shr a b k) (omega (arith, and_step (a / 2 ^ k) (b / 2 ^ k)))

pub bit_of_or : (a b k : ℕ) → bit (bit_or a b) k ≡ max (bit a k) (bit b k)
bit_of_or a b k = rw (or_shr a b k) (omega (arith, or_step (a / 2 ^ k) (b / 2 ^ k)))

pub bit_none : (k : ℕ) → bit 0 k ≡ 0
bit_none zero = refl
bit_none (suc k) = bit_suc 0 k ∙ bit_none k

pub bit_own : (e : ℕ) → bit (2 ^ e) e ≡ 1
bit_own zero = refl
bit_own (suc e) =
    let h : 2 ^ suc e / 2 ≡ 2 ^ e = omega (arith, pow-suc 2 e) in
    bit_suc (2 ^ suc e) e ∙ rw h (bit_own e)

pub bit_other : (e d : ℕ) → bit (2 ^ e) d ≡ 1 → d ≡ e
bit_other zero zero h = refl
bit_other zero (suc d) h = absurd (omega (arith, bit_suc 1 d, bit_none d))
bit_other (suc e) zero h = absurd (omega (arith, pow-suc 2 e, bit_zero (2 ^ suc e)))
bit_other (suc e) (suc d) h =
    let half : 2 ^ suc e / 2 ≡ 2 ^ e = omega (arith, pow-suc 2 e) in
    let k : bit (2 ^ e) d ≡ 1 = rw (← half) (sym (bit_suc (2 ^ suc e) d) ∙ h) in
    ap suc (bit_other e d k)

-- one of the list has Q
abbrev pub Any : (ℕ → Type 0) → List ℕ → Type 0
Any Q [] = ⊥
Any Q (x ∷ xs) = Q x ⊎ Any Q xs

-- one of n's first d digits is set, and its place, counted from k, has Q
abbrev pub SetIn : (ℕ → Type 0) → ℕ → ℕ → ℕ → Type 0
SetIn Q d k n = (e : ℕ) × (e < d) × (bit n e ≡ 1) × Q (k + e)

put_keeps : (Q : ℕ → Type 0) (b k : ℕ) (ks : List ℕ) → Any Q ks → Any Q (put b k ks)
put_keeps Q zero k ks h = h
put_keeps Q (suc b) k ks h = inr h

later : (Q : ℕ → Type 0) (d k n : ℕ) → SetIn Q d (suc k) (n / 2) → SetIn Q (suc d) k n
later Q d k n l =
    let at : suc k + l.0 ≡ k + suc l.0 = omega arith in
    (suc l.0, omega arith, bit_suc n l.0 ∙ l.2, subst Q at l.3)

here : (Q : ℕ → Type 0) (d k n : ℕ) (ks : List ℕ) → (Any Q ks → SetIn Q d (suc k) (n / 2)) → (b : ℕ) → n % 2 ≡ b → Any Q (put b k ks) → SetIn Q (suc d) k n
here Q d k n ks f zero e l = later Q d k n (f l)
here Q d k n ks f (suc b) e l = elim l [
  | inl q ↦ (let at : k ≡ k + 0 = omega arith in (0, omega arith, omega (arith, bit_zero n), subst Q at q))
  | inr m ↦ later Q d k n (f m)
]

digits_to : (Q : ℕ → Type 0) (d k n : ℕ) → Any Q (digits_set d k n) → SetIn Q d k n
unfolding digits_set
digits_to Q zero k n h = absurd h
digits_to Q (suc d) k n h = here Q d k n (digits_set d (suc k) (n / 2)) (digits_to Q d (suc k) (n / 2)) (n % 2) refl h

digits_from : (Q : ℕ → Type 0) (d k n : ℕ) (e : ℕ) → e < d → bit n e ≡ 1 → Q (k + e) → Any Q (digits_set d k n)
unfolding digits_set
digits_from Q zero k n e s b q = absurd (omega arith)
digits_from Q (suc d) k n zero s b q =
    let odd : n % 2 ≡ 1 = omega (arith, bit_zero n) in
    let at : k + 0 ≡ k = omega arith in
    rw odd (inl (subst Q at q))
digits_from Q (suc d) k n (suc e) s b q =
    let at : k + suc e ≡ suc k + e = omega arith in
    let l = digits_from Q d (suc k) (n / 2) e (omega arith) (sym (bit_suc n e) ∙ b) (subst Q at q) in
    put_keeps Q (n % 2) k (digits_set d (suc k) (n / 2)) l

pub members_any : (Q : ℕ → Type 0) (n : ℕ) → Any Q (members n) ↔ ((e : ℕ) × (e < 32) × (bit n e ≡ 1) × Q e)
unfolding members
members_any Q n = (
  λ h. let (e, s, b, q) = digits_to Q 32 0 n h in (let at : 0 + e ≡ e = omega arith in (e, s, b, subst Q at q)),
  λ h. let at : h.0 ≡ 0 + h.0 = omega arith in digits_from Q 32 0 n h.0 h.1 h.2 (subst Q at h.3),
)
