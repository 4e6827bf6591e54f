-- Every refusal's number, layer and place.
use Rattle.std.specs.Prelude.{ℕ, List, codes}
use Rattle.terms.specs.declared.refusal.Refusal.{Refusal}
use Rattle.terms.specs.declared.refusal.Refusal.TheVariants.{TextTooLong, StrangeByte, Misplaced, BadName, UnknownName, TooManySignals, Unsupported, TooDeep, RuleTooLarge, StartLost, TooWide, TooManyPositions, StoreTooShort, DiagramField, DiagramChain, DiagramRepeat, SizeZero, NotThisBook, OutOfRange, RunLost, TooManySweeps}
use Rattle.terms.specs.declared.refusal.Layer.{Layer}
use Rattle.terms.specs.declared.refusal.Layer.TheVariants.{Text, Signals, Rule, Compile, Store, Diagram, Game, Run, Solve}

-- the number in the table of docs/REFUSALS.md; a number that stands for no case is not in use
abbrev pub number : Refusal → ℕ
number TextTooLong = 1
number (StrangeByte k) = 2
number (Misplaced k) = 3
number (BadName k) = 4
number (UnknownName k) = 5
number (TooManySignals k) = 6
number (Unsupported k) = 7
number (TooDeep k) = 8
number RuleTooLarge = 9
number StartLost = 10
number (TooWide k) = 11
number TooManyPositions = 12
number StoreTooShort = 13
number (DiagramField k) = 14
number (DiagramChain k) = 15
number (DiagramRepeat k) = 16
number SizeZero = 17
number NotThisBook = 18
number OutOfRange = 19
number RunLost = 20
number TooManySweeps = 21

-- the part of the product that refuses
abbrev pub layer : Refusal → Layer
layer TextTooLong = Text
layer (StrangeByte k) = Text
layer (Misplaced k) = Text
layer (BadName k) = Signals
layer (UnknownName k) = Rule
layer (TooManySignals k) = Signals
layer (Unsupported k) = Rule
layer (TooDeep k) = Rule
layer RuleTooLarge = Compile
layer StartLost = Compile
layer (TooWide k) = Compile
layer TooManyPositions = Compile
layer StoreTooShort = Store
layer (DiagramField k) = Diagram
layer (DiagramChain k) = Diagram
layer (DiagramRepeat k) = Diagram
layer SizeZero = Game
layer NotThisBook = Run
layer OutOfRange = Run
layer RunLost = Run
layer TooManySweeps = Solve

-- the word that is printed for a layer
abbrev pub layer_word : Layer → List ℕ
layer_word Text = codes "text"
layer_word Signals = codes "signals"
layer_word Rule = codes "rule"
layer_word Compile = codes "compile"
layer_word Store = codes "store"
layer_word Diagram = codes "diagram"
layer_word Game = codes "game"
layer_word Run = codes "run"
layer_word Solve = codes "solve"

-- the byte at which the cause stands, or the position that was being left; 0 where it stands at none
abbrev pub place : Refusal → ℕ
place TextTooLong = 0
place (StrangeByte k) = k
place (Misplaced k) = k
place (BadName k) = k
place (UnknownName k) = k
place (TooManySignals k) = k
place (Unsupported k) = k
place (TooDeep k) = k
place RuleTooLarge = 0
place StartLost = 0
place (TooWide k) = k
place TooManyPositions = 0
place StoreTooShort = 0
place (DiagramField k) = k
place (DiagramChain k) = k
place (DiagramRepeat k) = k
place SizeZero = 0
place NotThisBook = 0
place OutOfRange = 0
place RunLost = 0
place TooManySweeps = 0
