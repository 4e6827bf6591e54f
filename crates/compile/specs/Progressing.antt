-- What is worked on.
-- rule, round: the parts of the rule, and the round. Stays: both stay.
use Rattle.std.specs.Prelude.{◌≡◌, List}
use Rattle.arena.specs.Tally.{Played}
use Rattle.rules.specs.declared.part.Part.{Part}
use Rattle.compile.specs.declared.progress.Progress.{Progress}
use Rattle.compile.specs.Played.{played}

-- the parts of the rule that is worked on
abbrev pub rule : Progress → List Part
rule p = p.outline.parts.now

-- the round that is worked on
abbrev pub round : Progress → Played
round p = played p.turn

-- both stay as they are
pub record Stays (old new : Progress) : Type 0 where
  pub parts : rule new ≡ rule old
  pub played : round new ≡ round old
