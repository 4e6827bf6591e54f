use Rattle.std.proofs.Common.{arith, rules}
use Rattle.worked.proofs.SolveLaws.{gives_game, gives_refusal}
use Rattle.worked.proofs.solved.compiled.Goals as goal

pub returns-in-Ok : goal.returns-in-Ok
returns-in-Ok c = gives_game (search rules) c.in-Ok.ensures.outcome

pub returns-in-Err : goal.returns-in-Err
returns-in-Err c = gives_refusal (search rules) (record { for_names = omega arith; for_parts = omega arith; for_positions = omega arith }) c.in-Err.ensures.outcome
