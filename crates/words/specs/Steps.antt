-- What the reader of a signals text does at each word, and at the end.
-- entered: a name is entered. sort: how words are told apart. by_stage: the table of stages and words. finished: the end.
use Rattle.std.specs.Prelude.{ℕ, ◌+◌, cond, List, Some, None, Ok, Err, Option, Result, nat_lt}
use Rattle.register.specs.Places.{number, kept}
use Rattle.terms.specs.declared.refusal.Refusal.{Refusal}
use Rattle.terms.specs.declared.refusal.Refusal.TheVariants.{StrangeByte, Misplaced, BadName, TooManySignals}
use Rattle.words.specs.declared.name.Name.{Name}
use Rattle.words.specs.declared.signals.Stage.{Stage}
use Rattle.words.specs.declared.signals.Stage.TheVariants.{Before, Inputs, Outputs}
use Rattle.words.specs.declared.signals.Reader.{Reader}
use Rattle.words.specs.declared.signals.Signals.{Signals}
use Rattle.words.specs.Words.{Said, X', G', R', U', F', and', or', not', open', close', in', out', true', false', name', strange'}
use Rattle.words.specs.Names.{name_of, same_name}

-- how many of its kind there are with a name that was given this number, the names in use being so many
abbrev pub counted : ℕ → ℕ → ℕ → Option ℕ → Result ℕ Refusal
counted count used at (Some k) = cond (nat_lt k used) (Err (BadName at)) (cond (nat_lt count 4) (Ok (count + 1)) (Err (TooManySignals at)))
counted count used at None = Err (TooManySignals at)

-- a name is entered into a store, behind count names of its kind
abbrev pub entered : ℕ → ℕ → ℕ → Option Name → List Name → Result ℕ Refusal × List Name
entered count used at (Some n) names = (counted count used at (number same_name n used names), kept same_name n used names)
entered count used at None names = (Err (BadName at), names)

-- a word, as a signals text tells words apart
pub data Sort : Type 0 where
  begins turns other : Sort
  called : List ℕ → Sort
  odd : Sort

-- `in` begins, `out` turns to the outputs, a name calls a signal, and a strange byte is odd
abbrev pub sort : Said → Sort
sort X' = other
sort G' = other
sort R' = other
sort U' = other
sort F' = other
sort and' = other
sort or' = other
sort not' = other
sort open' = other
sort close' = other
sort in' = begins
sort out' = turns
sort true' = other
sort false' = other
sort (name' x) = called x
sort (strange' c) = odd

-- the end is as any other word
abbrev pub sorted : Option Said → Sort
sorted (Some w) = sort w
sorted None = other

-- a reader, or why the word is refused, and the store of names
abbrev pub Step : Type 0
Step = Result Reader Refusal × List Name

-- the reader with one more input
abbrev pub with_input : Reader → Result ℕ Refusal × List Name → Step
with_input r (Ok n, names) = (Ok (record { stage = r.stage; read = record { inputs = n; outputs = r.read.outputs } }), names)
with_input r (Err e, names) = (Err e, names)

-- the reader with one more output
abbrev pub with_output : Reader → Result ℕ Refusal × List Name → Step
with_output r (Ok n, names) = (Ok (record { stage = r.stage; read = record { inputs = r.read.inputs; outputs = n } }), names)
with_output r (Err e, names) = (Err e, names)

-- the reader in another stage
abbrev pub moved : Stage → Reader → List Name → Step
moved s r names = (Ok (record { stage = s; read = r.read }), names)

-- the table of stages and words
abbrev pub by_stage : Stage → Reader → List Name → ℕ → Sort → Step
by_stage Before r names at begins = moved Inputs r names
by_stage Before r names at turns = (Err (Misplaced at), names)
by_stage Before r names at other = (Err (Misplaced at), names)
by_stage Before r names at (called x) = (Err (Misplaced at), names)
by_stage Before r names at odd = (Err (StrangeByte at), names)
by_stage Inputs r names at begins = (Err (Misplaced at), names)
by_stage Inputs r names at turns = moved Outputs r names
by_stage Inputs r names at other = (Err (Misplaced at), names)
by_stage Inputs r names at (called x) = with_input r (entered r.read.inputs (r.read.inputs + r.read.outputs) at (name_of x) names)
by_stage Inputs r names at odd = (Err (StrangeByte at), names)
by_stage Outputs r names at begins = (Err (Misplaced at), names)
by_stage Outputs r names at turns = (Err (Misplaced at), names)
by_stage Outputs r names at other = (Err (Misplaced at), names)
by_stage Outputs r names at (called x) = with_output r (entered r.read.outputs (r.read.inputs + r.read.outputs) at (name_of x) names)
by_stage Outputs r names at odd = (Err (StrangeByte at), names)

-- what the reader says at the end, which has the place at
abbrev pub finished : Reader → ℕ → Result Signals Refusal
finished r at = by_end r.stage
  where
    by_end : Stage → Result Signals Refusal
    by_end Before = Err (Misplaced at)
    by_end Inputs = Err (Misplaced at)
    by_end Outputs = Ok r.read
