use Rattle.std.proofs.Common.{sym, ◌∙◌}
use Rattle.rules.specs.Sets.{sets}
use Rattle.rules.specs.Progress.{list_after}
use Rattle.compile.specs.Played.{played}
use Rattle.compile.proofs.progress.Progress.list_after.Goals as goal

pub returns : goal.returns
returns c = record {
  value = (λ j. list_after (sym c.turn_to.ensures.0 j) (played (sym c.turn_to.ensures.1 j)) (sets c.args.list.now)) ∙ c.list_joined.ensures.value;
  stays = c.list_joined.ensures.stays ∙ c.turn_to.ensures.0;
}
