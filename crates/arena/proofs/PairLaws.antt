-- A pair of sound arenas is sound.
use Rattle.std.proofs.Common.{◌≡◌, ℕ, ◌+◌, ◌-◌, ◌*◌, ◌≤◌, max, false, refl, inl, inr, mul-le-mul_right, add-mul, one-mul, mul-zero, zero-mul, arith}
use Rattle.std.proofs.lemmas.Bool.Decides.{nat_tests}
use Rattle.arena.specs.Arena.{Arena, Sound, beyond}
use Rattle.arena.specs.Pair.{pair, joint, product, both}
use Rattle.arena.proofs.RangeLaws.{in_range, range_beyond}

pub joint_high : (m n a b : ℕ) → 1 ≤ a → a ≤ m → b ≤ n → (a - 1) * n + b ≤ m * n
joint_high m n a b low le l =
    let h : (a - 1) + 1 ≤ m = omega arith in
    let t : ((a - 1) + 1) * n ≤ m * n = mul-le-mul_right n h in
    omega (arith, add-mul (a - 1) 1 n, one-mul n, t)

pub product_small : (m n : ℕ) → product m n ≤ 255
unfolding product
product_small m n = grind (arith, nat_tests)

pub product_is : (m n : ℕ) → 1 ≤ product m n → (product m n ≡ m * n) × (m * n ≤ 255)
unfolding product
product_is m n h = grind (arith, nat_tests)

pub joint_within : (m n a b : ℕ) → a ≤ m → b ≤ n → joint n a b ≤ m * n
unfolding joint
joint_within m n a b l k =
    let h : 1 ≤ a → (a - 1) * n + b ≤ m * n = λ low. joint_high m n a b low l k in
    grind (arith, nat_tests)

pub joint_low : (n a b : ℕ) → 1 ≤ a → 1 ≤ b → 1 ≤ joint n a b
unfolding joint
joint_low n a b l k = grind (arith, nat_tests)

-- each factor of a positive product is positive
pub factors : (m n : ℕ) → 1 ≤ m * n → (1 ≤ m) × (1 ≤ n)
factors m n h =
    let z : m ≡ 0 → m * n ≡ 0 = λ e. rw e (zero-mul n) in
    let w : n ≡ 0 → m * n ≡ 0 = λ e. rw e (mul-zero m) in
    grind arith

module _ {a b : Arena} (s : Sound a) (t : Sound b) where
  both_within : (p x y : ℕ) → both a b p x y ≤ a.size * b.size
  unfolding both
  both_within p x y = joint_within a.size b.size _ _ (s.sized.within _ _ _) (t.sized.within _ _ _)

  start_within : joint b.size a.start b.start ≤ a.size * b.size
  start_within = joint_within a.size b.size _ _ s.sized.start_high t.sized.start_high

  start_one : 1 ≤ a.size * b.size → 1 ≤ joint b.size a.start b.start
  start_one h =
      let f = factors a.size b.size h in
      joint_low b.size _ _ (s.sized.start_low f.0) (t.sized.start_low f.1)

  pub pair_sound : Sound (pair a b)
  pair_sound =
      let n = product a.size b.size in
      let i = max a.inputs b.inputs in
      let o = max a.outputs b.outputs in
      let is : 1 ≤ n → (n ≡ a.size * b.size) × (a.size * b.size ≤ 255) = product_is a.size b.size in
      let st = start_within in
      let so : 1 ≤ a.size * b.size → 1 ≤ joint b.size a.start b.start = start_one in
      record {
        walks = record {
          few_in = omega (arith, s.walks.few_in, t.walks.few_in);
          few_out = omega (arith, s.walks.few_out, t.walks.few_out);
          from_lost = λ x y. rw (range_beyond n i o 0 x y (inl refl));
          past_input = λ p x y h. rw (range_beyond n i o p x y (inr (inr (inl h))));
          past_output = λ p x y h. rw (range_beyond n i o p x y (inr (inr (inr h))));
        };
        sized = record {
          small = product_small a.size b.size;
          no_start = λ e. grind (arith, nat_tests);
          start_low = λ h. grind (arith, nat_tests);
          start_high = grind (arith, nat_tests);
          within = λ p x y.
              let w : both a b p x y ≤ a.size * b.size = both_within p x y in
              let r : beyond n i o p x y ≡ false → (1 ≤ p) × (p ≤ n) = λ e. let w = in_range n i o p x y e in (w.0, w.1) in
              grind (arith, nat_tests);
          past_size = λ p x y h. rw (range_beyond n i o p x y (inr (inl h)));
        };
      }
