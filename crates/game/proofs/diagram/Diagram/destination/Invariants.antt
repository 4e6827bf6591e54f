-- What is left to search gives what the whole search gives.
use Rattle.std.proofs.Common.{◌≡◌, ◌-◌, ◌^◌, ◌<◌}
use Rattle.arena.specs.Diagram.{sought, head_at}
use Rattle.game.proofs.diagram.Diagram.destination.Given as goal

abbrev pub invariant-loop : goal.invariant-loop
invariant-loop l =
    (l.at < 2 ^ 21)
    × (sought l.self.shape l.self.bytes.now (l.end - l.counter) l.at l.x l.y ≡ sought l.self.shape l.self.bytes.now l.end (head_at l.p) l.x l.y)
