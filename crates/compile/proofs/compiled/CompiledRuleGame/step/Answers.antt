-- A question out of range is lost, and any other is put to the store.
use Rattle.std.proofs.Common.{sym, ◌∙◌}
use Rattle.compile.proofs.TableGameLaws.{Asked, answered_lost, answered_found, asked_within, asked_above}
use Rattle.compile.proofs.compiled.CompiledRuleGame.step.Goals as goal
use Rattle.compile.proofs.compiled.CompiledRuleGame.step.Goals.{Else-is_outside}

-- a question in range is put to the store
asked : (c : Else-is_outside) → Asked c.args.self.now.numbers c.args.self.now.positions.now c.size.result c.outputs.result c.args.p c.args.x c.args.y
asked c = answered_found _ _ _ _ _ _ _ _ c.size.ensures c.inputs.ensures c.outputs.ensures (sym c.is_outside.ensures ∙ c.if-is_outside.false)

pub returns-then-is_outside : goal.returns-then-is_outside
returns-then-is_outside c =
    sym (answered_lost _ _ _ _ _ _ _ _ c.size.ensures c.inputs.ensures c.outputs.ensures (sym c.is_outside.ensures ∙ c.if-is_outside.true))

pub move_in-q-requires : goal.move_in-q-requires
move_in-q-requires c =
    let w = asked (goal.at.move_in-q-requires c).Else-is_outside in
    (w.few, (w.low, (w.input, w.output)))

pub returns-then-q-extent : goal.returns-then-q-extent
returns-then-q-extent c = asked_within _ _ _ _ _ _ _ _ (asked (goal.at.returns-then-q-extent c).Else-is_outside) c.move_in-q.ensures c.if-q-extent.true

pub returns-else-q-extent : goal.returns-else-q-extent
returns-else-q-extent c = asked_above _ _ _ _ _ _ _ _ (asked (goal.at.returns-else-q-extent c).Else-is_outside) c.move_in-q.ensures c.if-q-extent.false
