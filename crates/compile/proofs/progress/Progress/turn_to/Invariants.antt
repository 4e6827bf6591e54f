-- Of the parts that were come to, those known still read alike in both rounds.
use Rattle.std.proofs.Common.{◌≡◌, ℕ, ◌<◌, true, false, get_or}
use Rattle.compile.specs.Played.{played}
use Rattle.compile.specs.Reads.{none, Agree}
use Rattle.compile.proofs.progress.Progress.turn_to.Given as goal

abbrev pub invariant-loop-k : goal.invariant-loop-k
invariant-loop-k l = record {
  outline : l.self.outline ≡ l.fn.self.outline;
  turn : l.self.turn ≡ l.fn.self.turn;
  alike : (j : ℕ) → j < l.k → get_or l.self.afters.known j false ≡ true → Agree (get_or l.self.outline.masks j none) (played l.self.turn) (played l.turn);
}
