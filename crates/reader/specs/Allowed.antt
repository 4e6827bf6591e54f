-- Which word is allowed where, and with which number any other is refused.
use Rattle.std.specs.Prelude.{ℕ, zero, suc, List, [], ◌∷◌, Some, None, Option}
use Rattle.words.specs.Words.{Said, X', G', R', U', F', and', or', not', open', close', in', out', true', false', name', strange'}
use Rattle.rules.specs.declared.part.Signal.{Signal}
use Rattle.reader.specs.Grammar.{Names}

-- Where a reader stands. Last come the rules that are open, the innermost first, each by the levels left in it.
pub data State : Type 0 where
  -- a unit is due, with n levels left for it
  due : ℕ → ℕ → List ℕ → State
  -- behind a `!`, a name is due
  named : ℕ → List ℕ → State
  -- a unit is complete
  done : ℕ → List ℕ → State

pub data Step : Type 0 where
  moves : State → Step
  refused : ℕ → Step

-- a name must be known
abbrev pub if_known : Option Signal → State → Step
if_known (Some s) x = moves x
if_known None x = refused 5

-- what takes a level needs one that is left
abbrev pub inside : ℕ → (ℕ → State) → Step
inside zero f = refused 8
inside (suc n) f = moves (f n)

-- a `)` needs a rule around the one that it ends
abbrev pub closing : List ℕ → Step
closing [] = refused 3
closing (b ∷ os) = moves (done b os)

abbrev pub step : Names → State → Said → Step
step known (due n b os) true' = moves (done b os)
step known (due n b os) false' = moves (done b os)
step known (due n b os) (name' x) = if_known (known x) (done b os)
step known (due n b os) not' = moves (named b os)
step known (due n b os) X' = inside n (λ m. due m b os)
step known (due n b os) G' = inside n (λ m. due m b os)
step known (due n b os) open' = inside n (λ m. due m m (b ∷ os))
step known (due n b os) close' = refused 3
step known (due n b os) and' = refused 3
step known (due n b os) or' = refused 3
step known (due n b os) R' = refused 3
step known (due n b os) in' = refused 3
step known (due n b os) out' = refused 3
step known (due n b os) U' = refused 7
step known (due n b os) F' = refused 7
step known (due n b os) (strange' c) = refused 2
step known (named b os) (name' x) = if_known (known x) (done b os)
step known (named b os) true' = refused 3
step known (named b os) false' = refused 3
step known (named b os) not' = refused 3
step known (named b os) X' = refused 3
step known (named b os) G' = refused 3
step known (named b os) open' = refused 3
step known (named b os) close' = refused 3
step known (named b os) and' = refused 3
step known (named b os) or' = refused 3
step known (named b os) R' = refused 3
step known (named b os) in' = refused 3
step known (named b os) out' = refused 3
step known (named b os) U' = refused 7
step known (named b os) F' = refused 7
step known (named b os) (strange' c) = refused 2
step known (done b os) and' = moves (due b b os)
step known (done b os) or' = moves (due b b os)
step known (done b os) R' = inside b (λ m. due m m os)
step known (done b os) close' = closing os
step known (done b os) true' = refused 3
step known (done b os) false' = refused 3
step known (done b os) (name' x) = refused 3
step known (done b os) not' = refused 3
step known (done b os) X' = refused 3
step known (done b os) G' = refused 3
step known (done b os) open' = refused 3
step known (done b os) in' = refused 3
step known (done b os) out' = refused 3
step known (done b os) U' = refused 7
step known (done b os) F' = refused 7
step known (done b os) (strange' c) = refused 2

-- at the end, or the first refusal: its number, and the words from the refused one on
pub data End : Type 0 where
  accepts : End
  stops : ℕ → List Said → End

-- the end is allowed behind a unit, with no bracket open
abbrev pub at_end : State → End
at_end (due n b os) = stops 3 []
at_end (named b os) = stops 3 []
at_end (done b []) = accepts
at_end (done b (o ∷ os)) = stops 3 []

abbrev pub run : Names → State → List Said → End
run known s [] = at_end s
run known s (w ∷ ws) = elim (step known s w) [ moves s' ↦ run known s' ws | refused k ↦ stops k (w ∷ ws) ]

-- before the first word, with n levels
abbrev pub start : ℕ → State
start n = due n n []
