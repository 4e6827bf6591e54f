-- What a call does to a run with a round open or not, with any bytes as its book.
use Rattle.std.specs.Prelude.{ℕ, ◌^◌, cond, List, Ok, Err, Option, Result, nat_lt}
use Rattle.terms.specs.declared.count.Count.{Count}
use Rattle.terms.specs.declared.call.Call.{Call}
use Rattle.terms.specs.declared.call.Call.TheVariants.{Open, Set, Close, Abandon, AskPosition, AskCount, AskSpoiling}
use Rattle.terms.specs.declared.call.Reply.{Reply}
use Rattle.terms.specs.declared.call.Reply.TheVariants.{Output, Changed, Closed, Abandoned, Position, Left, Spoiling, Refused, NotAllowed}
use Rattle.terms.specs.declared.call.Standing.{Standing}
use Rattle.terms.specs.declared.refusal.Refusal.{Refusal}
use Rattle.terms.specs.declared.refusal.Refusal.TheVariants.{OutOfRange}
use Rattle.arena.specs.Arena.{Arena}
use Rattle.run.specs.declared.run.Round.{Round}
use Rattle.run.specs.declared.run.Declined.{Declined}
use Rattle.run.specs.declared.stage.Stage.{Stage}
use Rattle.run.specs.declared.stage.Stage.TheVariants.{Between, Opened}
use Rattle.run.specs.Calls.{position_at, count_at, spoiling_at, open_at, set_at}

abbrev pub stage_position : Stage → ℕ
stage_position (Between r) = r.position
stage_position (Opened r) = r.origin

-- a call's result as a reply
abbrev pub told : {X : Type 0} → (X → Reply) → Result X Refusal → Reply
told f (Ok x) = f x
told f (Err e) = Refused e

abbrev pub opening_reply : Result Round Declined → Reply
opening_reply (Ok r) = Output r.output
opening_reply (Err e) = Refused e.refusal

abbrev pub opening_stage : Result Round Declined → Stage
opening_stage (Ok r) = Opened r
opening_stage (Err e) = Between e.run

-- what a call is told
abbrev pub stage_reply : Arena → List ℕ → Call → Stage → Reply
stage_reply a bs (Open x) (Between r) = opening_reply (open_at a bs r.position x)
stage_reply a bs (Open x) (Opened r) = NotAllowed
stage_reply a bs (Set y) (Between r) = NotAllowed
stage_reply a bs (Set y) (Opened r) = cond (nat_lt y (2 ^ a.outputs)) Changed (Refused OutOfRange)
stage_reply a bs Close (Between r) = NotAllowed
stage_reply a bs Close (Opened r) = Closed
stage_reply a bs Abandon (Between r) = NotAllowed
stage_reply a bs Abandon (Opened r) = Abandoned
stage_reply a bs AskPosition s = told Position (position_at bs (stage_position s))
stage_reply a bs AskCount s = told Left (count_at bs (stage_position s))
stage_reply a bs AskSpoiling s = told Spoiling (spoiling_at bs (stage_position s))

-- what it leaves
abbrev pub stage_after : Arena → List ℕ → Call → Stage → Stage
stage_after a bs (Open x) (Between r) = opening_stage (open_at a bs r.position x)
stage_after a bs (Open x) (Opened r) = Opened r
stage_after a bs (Set y) (Between r) = Between r
stage_after a bs (Set y) (Opened r) = Opened (set_at a r y)
stage_after a bs Close (Between r) = Between r
stage_after a bs Close (Opened r) = Between (record { position = a.move r.origin r.input r.output })
stage_after a bs Abandon (Between r) = Between r
stage_after a bs Abandon (Opened r) = Between (record { position = r.origin })
stage_after a bs AskPosition s = s
stage_after a bs AskCount s = s
stage_after a bs AskSpoiling s = s

-- where a run at p stands
abbrev pub standing_of : Result (Option ℕ) Refusal → Result Count Refusal → Result Standing Refusal
standing_of (Ok p) (Ok c) = Ok (record { position = p; count = c })
standing_of (Ok p) (Err e) = Err e
standing_of (Err e) c = Err e

abbrev pub standing_at : List ℕ → ℕ → Result Standing Refusal
standing_at bs p = standing_of (position_at bs p) (count_at bs p)
