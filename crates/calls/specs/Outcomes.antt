-- What a call comes to, as numbers.
-- layer_number, text_number: layers and texts as numbers. served, refused: the two kinds of outcome. outcome: of a result.
use Rattle.std.specs.Prelude.{ℕ, Ok, Err, Result}
use Rattle.terms.specs.declared.refusal.Refusal.{Refusal}
use Rattle.terms.specs.declared.refusal.Layer.{Layer}
use Rattle.terms.specs.declared.refusal.Layer.TheVariants.{Text, Signals, Rule, Compile, Store, Diagram, Game, Run, Solve}
use Rattle.terms.specs.Refusals.{number, layer, place}
use Rattle.reader.specs.declared.texts.Text.{Text as Source}
use Rattle.reader.specs.declared.texts.Text.TheVariants.{Neither, Signals as SignalsText, Rule as RuleText}
use Rattle.reader.specs.declared.texts.Misread.{Misread}
use Rattle.calls.specs.declared.outcome.Outcome.{Outcome}

-- the layers are numbered from 1, in their order
abbrev pub layer_number : Layer → ℕ
layer_number Text = 1
layer_number Signals = 2
layer_number Rule = 3
layer_number Compile = 4
layer_number Store = 5
layer_number Diagram = 6
layer_number Game = 7
layer_number Run = 8
layer_number Solve = 9

-- 0 for no text
abbrev pub text_number : Source → ℕ
text_number Neither = 0
text_number SignalsText = 1
text_number RuleText = 2

-- served, with a length; all other numbers are 0
abbrev pub served : ℕ → Outcome
served n = record { number = 0; layer = 0; text = 0; place = 0; length = n }

-- refused, with the refusal's number, layer and place, and the text that has the place
abbrev pub refused : Misread → Outcome
refused m = record { number = number m.refusal; layer = layer_number (layer m.refusal); text = text_number m.text; place = place m.refusal; length = 0 }

-- what a call over a game gives: its refusals have no place in a text
abbrev pub outcome : Result ℕ Refusal → Outcome
outcome (Ok n) = served n
outcome (Err e) = refused (record { text = Neither; refusal = e })
