-- Which signal a run of letters and digits names.
-- signal_at: the signal with a number. known: the signal, if the run names one.
use Rattle.std.specs.Prelude.{ℕ, ◌+◌, ◌-◌, cond, List, Some, None, Option, nat_lt}
use Rattle.words.specs.declared.name.Name.{Name}
use Rattle.words.specs.Names.{sought}
use Rattle.rules.specs.declared.part.Signal.{Signal}
use Rattle.rules.specs.declared.part.Signal.TheVariants.{Input, Output}

-- the first names are the inputs, the others the outputs
abbrev pub signal_at : ℕ → Option ℕ → Option Signal
signal_at inputs (Some k) = Some (cond (nat_lt k inputs) (Input k) (Output (k - inputs)))
signal_at inputs None = None

-- the signal that a run names among the first names, as many as there are inputs and outputs
abbrev pub known : List Name → ℕ → ℕ → List ℕ → Option Signal
known names inputs outputs run = signal_at inputs (sought names (inputs + outputs) run)
