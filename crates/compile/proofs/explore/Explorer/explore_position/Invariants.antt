-- The rounds before t have their moves, and those left give what all of them come to.
use Rattle.std.proofs.Common.{◌≡◌, suc, ◌*◌, ◌^◌, ◌<◌, get_or, drop, fold}
use Rattle.rules.specs.Sets.{sets}
use Rattle.rules.specs.Progress.{list_after}
use Rattle.rules.specs.Explore.{positions, move, rounds}
use Rattle.compile.specs.Positions.{unused}
use Rattle.compile.specs.Reads.{Covers}
use Rattle.compile.specs.Charting.{known_in, Charting, left_from}
use Rattle.compile.specs.Progressing.{rule}
use Rattle.compile.proofs.explore.Explorer.explore_position.Given as goal

abbrev pub invariant-loop-t : goal.invariant-loop-t
invariant-loop-t l = record {
  chart : Charting (2 ^ l.fn.self.signals.inputs * 2 ^ l.fn.self.signals.outputs) l.fn.self.signals.outputs (rule l.fn.self.progress) l.found.used l.p l.t l.found.store.now;
  left : left_from l.fn.self.signals.inputs l.fn.self.signals.outputs (rule l.fn.self.progress) l.fn.found.used l.p l.fn.found.store.now ≡ fold (move (rule l.fn.self.progress) (suc l.p) (get_or l.found.store.now l.p unused).list) (positions (known_in l.found.used l.found.store.now)) (drop l.t (rounds l.fn.self.signals.inputs l.fn.self.signals.outputs));
  inside : l.p < l.found.used;
  covers : Covers l.mask (λ r. list_after (rule l.fn.self.progress) r (sets (get_or l.found.store.now l.p unused).list));
  parts : rule l.self.progress ≡ rule l.fn.self.progress;
  signals : l.self.signals ≡ l.fn.self.signals;
  lender : l.found.store.ghost_name ≡ l.fn.found.store.ghost_name;
}
