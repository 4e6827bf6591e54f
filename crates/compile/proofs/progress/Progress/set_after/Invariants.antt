use Rattle.std.proofs.Common.{◌≡◌, ◌^◌, ◌<◌, fold}
use Rattle.rules.specs.Sets.{sets, members}
use Rattle.rules.specs.Progress.{set_after}
use Rattle.compile.specs.Known.{join_duty}
use Rattle.compile.specs.Progressing.{rule, round, Stays}
use Rattle.compile.proofs.progress.Progress.set_after.Given as goal

abbrev pub invariant-loop-rest : goal.invariant-loop-rest
invariant-loop-rest l = record {
  fits : l.rest < 2 ^ 32;
  stays : Stays l.initial.self l.self;
  same : fold (join_duty (rule l.initial.self) (round l.initial.self)) (sets l.all) (members l.rest) ≡ set_after (rule l.initial.self) (round l.initial.self) l.set;
}

abbrev pub decreases-loop-rest : goal.decreases-loop-rest
decreases-loop-rest l = l.rest
