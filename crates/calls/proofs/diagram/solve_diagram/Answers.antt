use Rattle.std.proofs.Common.{refl}
use Rattle.calls.specs.Giving.{misread, over}
use Rattle.calls.proofs.diagram.solve_diagram.Goals as goal

pub returns-in-Ok : goal.returns-in-Ok
returns-in-Ok c =
    let h = c.solve_game.ensures in
    rw h.1 (over c.in-Ok.ensures.outcome h.2)

pub returns-in-Err : goal.returns-in-Err
returns-in-Err c = rw c.refused.ensures (misread (refl, c.in-Err.ensures.outcome) refl)
