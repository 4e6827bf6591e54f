-- The positions of two games as one.
use Rattle.std.proofs.Common.{◌≡◌, ℕ, ◌+◌, ◌-◌, ◌*◌, ◌≤◌, max, subst, arith}
use Rattle.arena.specs.Pair.{product}
use Rattle.arena.proofs.PairLaws.{product_is, factors, joint_high}

-- where two games have positions, any two of them as one are at most 255
pub joint_fits : (m n p q : ℕ) → 1 ≤ product m n → p ≤ m → q ≤ n → (p - 1) * n + q ≤ 255
joint_fits m n p q low l k =
    let whole = product_is m n low in
    let some = factors m n (omega (arith, whole.0)) in
    let least : max p 1 - 1 ≡ p - 1 = omega arith in
    let high = joint_high m n (max p 1) q (omega arith) (omega (arith, some.0)) k in
    omega (arith, whole.1, subst (λ j. j * n + q ≤ m * n) least high)
