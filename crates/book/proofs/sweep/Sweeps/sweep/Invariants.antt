use Rattle.std.proofs.Common.{◌≡◌, ℕ, suc, ◌<◌, true, false}
use Rattle.arena.specs.Held.{Held, Settled}
use Rattle.book.specs.Ranks.{Amid}
use Rattle.book.proofs.sweep.Sweeps.sweep.Given as goal

abbrev pub invariant-loop-p : goal.invariant-loop-p
invariant-loop-p g l =
    let a = g.G.Game.meaning l.fn.self.game.now in
    (l.self.game.now ≡ l.fn.self.game.now)
    × Amid a l.k l.p l.self.ranks
    × (l.none ≡ true → (q : ℕ) → q < l.p → Held a l.k q → Held a (suc l.k) q)
    × (l.none ≡ false → Settled a l.k → ⊥)
