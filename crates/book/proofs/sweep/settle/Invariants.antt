use Rattle.std.proofs.Common.{◌≡◌, ℕ, ◌<◌}
use Rattle.arena.specs.Held.{Settled}
use Rattle.book.specs.Ranks.{Ranks}
use Rattle.book.proofs.sweep.settle.Given as goal

abbrev pub invariant-loop-k : goal.invariant-loop-k
invariant-loop-k g l =
    (l.sweeps.game.now ≡ l.game)
    × Ranks (g.G.Game.meaning l.game) l.k l.sweeps.ranks
    × ((j : ℕ) → j < l.k → Settled (g.G.Game.meaning l.game) j → ⊥)
