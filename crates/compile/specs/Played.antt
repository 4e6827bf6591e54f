-- A turn as a round of the definitions.
use Rattle.arena.specs.Tally.{Played}
use Rattle.compile.specs.declared.turn.Turn.{Turn}

abbrev pub played : Turn → Played
played t = record { input = t.input; output = t.output }
