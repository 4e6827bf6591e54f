-- The tally of a run: what its calls come to, by the game and the calls alone.
-- Tally: the closed rounds and the open one. place: where they lead. reply, after: what one call is told and leaves.
-- tally, steps: the same of a whole row.
use Rattle.std.specs.Prelude.{ℕ, ◌^◌, cond, List, [], ◌∷◌, ◌++◌, Some, None, Option, ◌==◌, nat_lt}
use Rattle.terms.specs.declared.call.Call.{Call}
use Rattle.terms.specs.declared.call.Call.TheVariants.{Open, Set, Close, Abandon, AskPosition, AskCount, AskSpoiling}
use Rattle.terms.specs.declared.call.Reply.{Reply}
use Rattle.terms.specs.declared.call.Reply.TheVariants.{Output, Changed, Closed, Abandoned, Position, Left, Spoiling, Refused, NotAllowed}
use Rattle.terms.specs.declared.call.Standing.{Standing}
use Rattle.terms.specs.declared.call.Step.{Step}
use Rattle.terms.specs.declared.refusal.Refusal.TheVariants.{OutOfRange, RunLost}
use Rattle.arena.specs.Arena.{Arena}
use Rattle.arena.specs.Values.{Values}

-- a closed round: its input and its output
pub record Played : Type 0 where
  pub input : ℕ
  pub output : ℕ

-- the closed rounds, the first one first; and, while a round is open, its input and its output so far
pub data Tally : Type 0 where
  between : List Played → Tally
  during : List Played → ℕ → ℕ → Tally

abbrev pub closed : Tally → List Played
closed (between rs) = rs
closed (during rs x y) = rs

-- where rounds lead from p
abbrev pub leads : Arena → ℕ → List Played → ℕ
leads a p [] = p
leads a p (r ∷ rs) = leads a (a.move p r.input r.output) rs

-- the tally's position: where the closed rounds lead from the start, 0 where that is lost
abbrev pub place : Arena → Tally → ℕ
place a t = leads a a.start (closed t)

abbrev pub position_of : ℕ → Option ℕ
position_of p = cond (p == 0) None (Some p)

-- position and count of a tally
abbrev pub standing : {a : Arena} → Values a → Tally → Standing
standing {a} v t = record { position = position_of (place a t); count = v.count (place a t) }

-- an opening at p is refused where p is lost or the input does not exist; else it is told the answer
abbrev pub opening : {a : Arena} → Values a → ℕ → ℕ → Reply
opening {a} v p x = cond (p == 0) (Refused RunLost) (cond (nat_lt x (2 ^ a.inputs)) (Output (v.answer p x)) (Refused OutOfRange))

abbrev pub opened : {a : Arena} → Values a → ℕ → ℕ → List Played → Tally
opened {a} v p x rs = cond (p == 0) (between rs) (cond (nat_lt x (2 ^ a.inputs)) (during rs x (v.answer p x)) (between rs))

-- what a call is told
abbrev pub reply : {a : Arena} → Values a → Call → Tally → Reply
reply {a} v (Open x) (between rs) = opening v (place a (between rs)) x
reply {a} v (Open x) (during rs z y) = NotAllowed
reply {a} v (Set y) (between rs) = NotAllowed
reply {a} v (Set y) (during rs x z) = cond (nat_lt y (2 ^ a.outputs)) Changed (Refused OutOfRange)
reply {a} v Close (between rs) = NotAllowed
reply {a} v Close (during rs x y) = Closed
reply {a} v Abandon (between rs) = NotAllowed
reply {a} v Abandon (during rs x y) = Abandoned
reply {a} v AskPosition t = Position (position_of (place a t))
reply {a} v AskCount t = Left (v.count (place a t))
reply {a} v AskSpoiling t = Spoiling (v.spoiling (place a t))

-- the tally after a call
abbrev pub after : {a : Arena} → Values a → Call → Tally → Tally
after {a} v (Open x) (between rs) = opened v (place a (between rs)) x rs
after {a} v (Open x) (during rs z y) = during rs z y
after {a} v (Set y) (between rs) = between rs
after {a} v (Set y) (during rs x z) = cond (nat_lt y (2 ^ a.outputs)) (during rs x y) (during rs x z)
after {a} v Close (between rs) = between rs
after {a} v Close (during rs x y) = between (rs ++ record { input = x; output = y } ∷ [])
after {a} v Abandon (between rs) = between rs
after {a} v Abandon (during rs x y) = between rs
after {a} v AskPosition t = t
after {a} v AskCount t = t
after {a} v AskSpoiling t = t

-- the tally after a row of calls
abbrev pub tallied : {a : Arena} → Values a → List Call → Tally → Tally
tallied v [] t = t
tallied v (c ∷ cs) t = tallied v cs (after v c t)

-- at first no round is closed
abbrev pub tally : {a : Arena} → Values a → List Call → Tally
tally v row = tallied v row (between [])

-- what each call of a row is told, and where the tally stands after it
abbrev pub steps : {a : Arena} → Values a → List Call → Tally → List Step
steps v [] t = []
steps v (c ∷ cs) t = record { reply = reply v c t; standing = standing v (after v c t) } ∷ steps v cs (after v c t)
