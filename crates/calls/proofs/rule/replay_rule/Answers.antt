use Rattle.std.proofs.Common.{refl}
use Rattle.compile.specs.TableGame.{arena_in}
use Rattle.calls.specs.Giving.{misread, over}
use Rattle.calls.proofs.rule.replay_rule.Goals as goal

pub returns-in-Ok : goal.returns-in-Ok
returns-in-Ok c =
    let h = c.replay_row.ensures in
    rw h.1 (over {a = arena_in c.game.result.numbers c.game.result.positions.now} (c.in-Ok.numbers, c.compiled.new.positions, c.in-Ok.ensures, cc (c.game.ensures.fields.0, c.game.ensures.fields.1)) h.2)

pub returns-in-Err : goal.returns-in-Err
returns-in-Err c = rw c.misread.ensures (misread (c.compiled.new.positions, c.in-Err.ensures) refl)
