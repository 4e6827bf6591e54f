-- One of the first size + 1 sweeps drops no position.
use Rattle.std.proofs.Common.{◌≡◌, ℕ, zero, suc, ◌+◌, ◌<◌, ◌≤◌, Bool, true, false, cond, ◌⊎◌, refl, inl, inr, arith}
use Rattle.std.proofs.lemmas.Bool.{cases_eq, cases_lt}
use Rattle.std.proofs.lemmas.Bool.Decides.{nat_tests}
use Rattle.arena.specs.Arena.{Arena, Sound}
use Rattle.arena.specs.Held.{Settled, InTime}
use Rattle.arena.proofs.HeldLaws.{held, held_decides, held_less, held_place}

-- for how many numbers below n the test passes
abbrev how_many : ℕ → (ℕ → Bool) → ℕ
how_many zero f = 0
how_many (suc n) f = cond (f n) 1 0 + how_many n f

one_more : (b c : Bool) → (b ≡ true → c ≡ true) → cond {A = ℕ} b 1 0 ≤ cond c 1 0
one_more b c h = grind (arith, nat_tests)

fewer : (f g : ℕ → Bool) → ((q : ℕ) → f q ≡ true → g q ≡ true) → (n : ℕ) → how_many n f ≤ how_many n g
fewer f g h zero = omega arith
fewer f g h (suc n) = omega (arith, fewer f g h n, one_more (f n) (g n) (h n))

-- a test that passes no fewer numbers drops none
no_fewer : (f g : ℕ → Bool) → ((q : ℕ) → f q ≡ true → g q ≡ true) → (n : ℕ) → how_many n g ≤ how_many n f → (q : ℕ) → q < n → g q ≡ true → f q ≡ true
no_fewer f g h zero l q k e = absurd (let no : 1 ≤ 0 = omega arith in omega arith)
no_fewer f g h (suc n) l q k e =
    let m = one_more (f n) (g n) (h n) in
    let r = fewer f g h n in
    elim (cases_eq q n) [
      | inl s ↦ (let gn : g n ≡ true = rw s at e in
          let one : cond {A = ℕ} (f n) 1 0 ≡ 1 = omega (arith, rw gn at m, rw gn at l) in
          rw s (grind (arith, nat_tests)))
      | inr ne ↦ no_fewer f g h n (omega arith) q (omega arith) e
    ]

at_most_all : (f : ℕ → Bool) → f 0 ≡ false → (n : ℕ) → how_many (suc n) f ≤ n
at_most_all f h zero = rw h (omega arith)
at_most_all f h (suc n) = let i = at_most_all f h n in let b = one_more (f (suc n)) true (λ _. refl) in omega arith

many : Arena → ℕ → ℕ
many a k = how_many (suc a.size) (held a k)

no_drop : (a : Arena) (k : ℕ) → many a k ≤ many a (suc k) → Settled a k
unfolding many
no_drop a k l p h =
    let place = held_place a k p h in
    let less : (q : ℕ) → held a (suc k) q ≡ true → held a k q ≡ true = λ q e. (held_decides a k q).1 (held_less a k q ((held_decides a (suc k) q).0 e)) in
    (held_decides a (suc k) p).0 (no_fewer (held a (suc k)) (held a k) less (suc a.size) l p (omega arith) ((held_decides a k p).1 h))

first_none : (a : Arena) (k : ℕ) → ((j : ℕ) × (j < k) × Settled a j) ⊎ (many a k + k ≤ many a 0)
first_none a zero = inr (omega arith)
first_none a (suc k) = elim (first_none a k) [
  | inl s ↦ inl (s.0, omega (arith, s.1), s.2)
  | inr h ↦ elim (cases_lt (many a (suc k)) (many a k)) [
    | inl l ↦ inr (omega arith)
    | inr l ↦ inl (k, omega arith, no_drop a k l)
  ]
]

few_first : (a : Arena) → many a 0 ≤ a.size
unfolding many held
few_first a = at_most_all (held a 0) refl a.size

pub settles : (a : Arena) → (k : ℕ) × (k ≤ a.size) × Settled a k
settles a = elim (first_none a (suc a.size)) [
  | inl s ↦ (s.0, omega (arith, s.1), s.2)
  | inr h ↦ absurd (omega (arith, few_first a))
]

pub in_time : (a : Arena) → Sound a → InTime a
in_time a s = let k = settles a in (k.0, omega (arith, k.1, s.sized.small), k.2)
