use Rattle.std.proofs.Common.{sym, subst₂, replicate, None, refl}
use Rattle.compile.specs.Known.{Remembers}
use Rattle.compile.proofs.ExpandLaws.{remembers_none}
use Rattle.compile.proofs.progress.Progress.of.Goals as goal

pub invariant_of-result : goal.invariant_of-result
invariant_of-result c = record {
  lists_right = subst₂ (Remembers _) (sym c.new.ensures.0) (sym c.new.ensures.1) (remembers_none _ (replicate 64 None) refl);
  afters_right = subst₂ (Remembers _) (sym c.new-2.ensures.0) (sym c.new-2.ensures.1) (remembers_none _ (replicate 64 None) refl);
}
