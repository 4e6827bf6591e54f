-- The calls of a run as numbers, and what they are told.
-- call_of: the call of a code. calls_of: those of a row. answer_of: what a call was told, as numbers. answers_of: of a row.
use Rattle.std.specs.Prelude.{ℕ, ℤ, pos, negsuc, cond, List, [], ◌∷◌, ◌++◌, Some, None, Option, ◌==◌}
use Rattle.terms.specs.declared.call.Call.{Call}
use Rattle.terms.specs.declared.call.Call.TheVariants.{Open, Set, Close, Abandon, AskPosition, AskCount, AskSpoiling}
use Rattle.terms.specs.declared.call.Reply.{Reply}
use Rattle.terms.specs.declared.call.Reply.TheVariants.{Output, Changed, Closed, Abandoned, Position, Left, Spoiling, Refused, NotAllowed}
use Rattle.terms.specs.declared.call.Step.{Step}
use Rattle.terms.specs.declared.count.Count.{Count}
use Rattle.terms.specs.declared.count.Count.TheVariants.{Lost, Limited, Unlimited}
use Rattle.terms.specs.Refusals.{number}
use Rattle.calls.specs.declared.code.CallCode.{CallCode}
use Rattle.calls.specs.declared.code.Answer.{Answer}

-- the call of a kind with a number, none where no call has this kind
abbrev pub call_of : CallCode → Option Call
call_of c =
    cond (c.kind == 1) (Some (Open c.number))
    (cond (c.kind == 2) (Some (Set c.number))
    (cond (c.kind == 3) (Some Close)
    (cond (c.kind == 4) (Some Abandon)
    (cond (c.kind == 5) (Some AskPosition)
    (cond (c.kind == 6) (Some AskCount)
    (cond (c.kind == 7) (Some AskSpoiling) None))))))

abbrev pub as_list : Option Call → List Call
as_list None = []
as_list (Some c) = c ∷ []

-- the calls of a row, those left out that are none
abbrev pub calls_of : List CallCode → List Call
calls_of [] = []
calls_of (c ∷ cs) = as_list (call_of c) ++ calls_of cs

-- 0 where a run is lost
abbrev pub position_number : Option ℕ → ℕ
position_number None = 0
position_number (Some p) = p

-- -1 where there is no such input
abbrev pub input_number : Option ℕ → ℤ
input_number None = negsuc 0
input_number (Some x) = pos x

-- the numbers keep the order of counts: -1 for lost, and for unlimited one more than the highest limit
abbrev pub count_number : Count → ℤ
count_number Lost = negsuc 0
count_number (Limited n) = pos n
count_number Unlimited = pos 65536

-- the kind of a call that was served, 8 for a refusal, 9 for what is not allowed
abbrev pub kind_of : Reply → ℕ
kind_of (Output y) = 1
kind_of Changed = 2
kind_of Closed = 3
kind_of Abandoned = 4
kind_of (Position p) = 5
kind_of (Left c) = 6
kind_of (Spoiling x) = 7
kind_of (Refused e) = 8
kind_of NotAllowed = 9

-- what is told beside the kind; a refusal tells its number
abbrev pub value_of : Reply → ℤ
value_of (Output y) = pos y
value_of Changed = pos 0
value_of Closed = pos 0
value_of Abandoned = pos 0
value_of (Position p) = pos (position_number p)
value_of (Left c) = count_number c
value_of (Spoiling x) = input_number x
value_of (Refused e) = pos (number e)
value_of NotAllowed = pos 0

abbrev pub answer_of : Step → Answer
answer_of s = record { kind = kind_of s.reply; value = value_of s.reply; position = position_number s.standing.position; count = count_number s.standing.count }

abbrev pub answers_of : List Step → List Answer
answers_of [] = []
answers_of (s ∷ ss) = answer_of s ∷ answers_of ss
