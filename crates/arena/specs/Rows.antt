-- What following the book and spoiling it come to, over whole rows of calls.
use Rattle.std.specs.Prelude.{◌≡◌, ℕ, List, [], ◌∷◌, length, Some}
use Rattle.terms.specs.declared.call.Call.{Call}
use Rattle.arena.specs.Arena.{Arena}
use Rattle.terms.specs.Order.{AtMost, plus}
use Rattle.arena.specs.Values.{Values}
use Rattle.arena.specs.Tally.{Played, closed, place, tally}

-- the rounds, the first of them opened at p, all bore the book's output: the answer where they opened
abbrev pub Following : {a : Arena} → Values a → ℕ → List Played → Type 0
Following {a} v p [] = Unit {0}
Following {a} v p (r ∷ rs) = (r.output ≡ v.answer p r.input) × Following v (a.move p r.input r.output) rs

-- they all took the spoiling input where they opened
abbrev pub Spoiled : {a : Arena} → Values a → ℕ → List Played → Type 0
Spoiled {a} v p [] = Unit {0}
Spoiled {a} v p (r ∷ rs) = (v.spoiling p ≡ Some r.input) × Spoiled v (a.move p r.input r.output) rs

-- if all closed rounds bore the book's outputs, the count left is at least the start's count less the rounds closed:
-- the two together are no less than the start's count
abbrev pub LosesAtMost : {a : Arena} → Values a → List Call → Type 0
LosesAtMost {a} v row =
    let rs = closed (tally v row) in
    Following v a.start rs → AtMost (v.count a.start) (plus (v.count (place a (tally v row))) (length rs))

-- if all closed rounds took the spoiling input, the count left is at most that, whatever the outputs were; an unlimited
-- position has no spoiling input, so that the start is limited where a round was closed
abbrev pub LosesAtLeast : {a : Arena} → Values a → List Call → Type 0
LosesAtLeast {a} v row =
    let rs = closed (tally v row) in
    Spoiled v a.start rs → AtMost (plus (v.count (place a (tally v row))) (length rs)) (v.count a.start)
