-- The positions before p have their moves, and going on gives what exploring comes to.
use Rattle.std.proofs.Common.{◌≡◌, ◌-◌, ◌*◌, ◌^◌, get_or}
use Rattle.rules.specs.Explore.{positions, rounds, explore}
use Rattle.compile.specs.Positions.{unused}
use Rattle.compile.specs.Charting.{known_in, Charting}
use Rattle.compile.specs.Explored.{explored}
use Rattle.compile.specs.Progressing.{rule}
use Rattle.compile.proofs.explore.Explorer.explore_all.Given as goal

abbrev pub invariant-loop-p : goal.invariant-loop-p
invariant-loop-p l = record {
  chart : Charting (2 ^ l.fn.self.signals.inputs * 2 ^ l.fn.self.signals.outputs) l.fn.self.signals.outputs (rule l.fn.self.progress) l.found.used l.p 0 l.found.store.now;
  left : explored l.fn.self.signals.inputs l.fn.self.signals.outputs (rule l.fn.self.progress) (get_or l.fn.found.store.now 0 unused).list ≡ explore (256 - l.p) (rule l.fn.self.progress) (rounds l.fn.self.signals.inputs l.fn.self.signals.outputs) l.p (positions (known_in l.found.used l.found.store.now));
  parts : rule l.self.progress ≡ rule l.fn.self.progress;
  signals : l.self.signals ≡ l.fn.self.signals;
  lender : l.found.store.ghost_name ≡ l.fn.found.store.ghost_name;
}

abbrev pub decreases-loop-p : goal.decreases-loop-p
decreases-loop-p l = 255 - l.p
