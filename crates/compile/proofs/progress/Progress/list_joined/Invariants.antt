use Rattle.std.proofs.Common.{◌≡◌, drop, fold}
use Rattle.rules.specs.Sets.{sets}
use Rattle.rules.specs.Progress.{list_after}
use Rattle.compile.specs.Known.{join_set}
use Rattle.compile.specs.Progressing.{rule, round, Stays}
use Rattle.compile.proofs.progress.Progress.list_joined.Given as goal

abbrev pub invariant-loop-set : goal.invariant-loop-set
invariant-loop-set l = record {
  stays : Stays l.initial.self l.self;
  same : fold (join_set (rule l.initial.self) (round l.initial.self)) (sets l.any) (drop l.set-index l.set-items) ≡ list_after (rule l.initial.self) (round l.initial.self) (sets l.set-items);
}
