-- The pair of two arenas, played side by side on the same signals.
-- joint: the position of a pair. product: its size.
use Rattle.std.specs.Prelude.{ℕ, ◌+◌, ◌-◌, ◌*◌, ◌/◌, ◌%◌, ◌^◌, max, cond, ◌||◌, ◌==◌, nat_lt}
use Rattle.arena.specs.Arena.{Arena, beyond}

-- the positions p and q make one, where the second arena has n; lost in either is lost
unfoldable pub joint : ℕ → ℕ → ℕ → ℕ
joint n p q = cond (p == 0 || q == 0) 0 ((p - 1) * n + q)

-- the product of two sizes, or 0 where it is above 255
unfoldable pub product : ℕ → ℕ → ℕ
product m n = cond (nat_lt 255 (m * n)) 0 (m * n)

-- each arena moves from its own part of the position and reads the low bits of input and output
unfoldable pub both : Arena → Arena → ℕ → ℕ → ℕ → ℕ
both a b p x y =
    joint b.size
    (a.move ((p - 1) / b.size + 1) (x % 2 ^ a.inputs) (y % 2 ^ a.outputs))
    (b.move ((p - 1) % b.size + 1) (x % 2 ^ b.inputs) (y % 2 ^ b.outputs))

abbrev pub pair : Arena → Arena → Arena
pair a b =
    let n = product a.size b.size in
    let i = max a.inputs b.inputs in
    let o = max a.outputs b.outputs in
    record {
      size = n;
      inputs = i;
      outputs = o;
      start = cond (n == 0) 0 (joint b.size a.start b.start);
      move = λ p x y. cond (beyond n i o p x y) 0 (both a b p x y);
    }
