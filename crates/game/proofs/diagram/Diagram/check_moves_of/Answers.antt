-- A turn meets one record more, or finds the end or a repeat.
use Rattle.std.proofs.Common.{◌+◌, ◌*◌, false, replicate, refl, ap, arith}
use Rattle.std.proofs.lemmas.List.{length-set}
use Rattle.terms.specs.Bytes.{word}
use Rattle.terms.specs.declared.refusal.Refusal.TheVariants.{DiagramRepeat}
use Rattle.arena.proofs.ChainLaws.{unmarked_falls}
use Rattle.game.specs.Reading.{MoveNumber}
use Rattle.game.proofs.ReadingLaws.{unmarked, move_number, met_none, met_again, met_more, met_whole}
use Rattle.game.proofs.diagram.Diagram.check_moves_of.Goals as goal
use Rattle.game.proofs.diagram.Diagram.check_moves_of.Goals.{After-byte_at-output}

-- the two bytes of a record make the number of its move
numbered : (c : After-byte_at-output) → MoveNumber c.args.self.now.shape c.args.self.now.bytes.now (word c.args.self.now.bytes.now c.loop-record.at) (16 * c.byte_at-input.result + c.byte_at-output.result)
numbered c =
    let d = c.args.self.now in
    let named = c.in-Some.ensures in
    move_number d.shape d.bytes.now _ _ _ _ d.fielded d.headed named.0 named.1.0 c.byte_at-input.ensures c.byte_at-output.ensures

pub loop-record-init : goal.loop-record-init
loop-record-init c = (omega arith, refl, met_none _ _ c.args.p (replicate 256 false) c.head_at-at.result (unmarked 256) c.head_at-at.ensures.0 c.requires)

pub bounds-marks-number : goal.bounds-marks-number
bounds-marks-number c = let number = numbered c in omega arith

pub bounds-marks-number-in-Some : goal.bounds-marks-number-in-Some
bounds-marks-number-in-Some c = bounds-marks-number (goal.at.bounds-marks-number-in-Some c).After-byte_at-output

pub returns-then-marks-number : goal.returns-then-marks-number
returns-then-marks-number c =
    let number = numbered (goal.at.returns-then-marks-number c).After-byte_at-output in
    (_, ap DiagramRepeat c.in-Some.ensures.1.0, met_again _ _ c.args.p c.loop-record.marks c.loop-record.at _ c.loop-record.invariant.2 c.in-Some.ensures.0 number c.if-marks-number.true)

pub loop-record-smaller : goal.loop-record-smaller
loop-record-smaller c =
    let number = numbered (goal.at.loop-record-smaller c).After-byte_at-output in
    let falls = unmarked_falls c.loop-record.marks (16 * c.byte_at-input.result + c.byte_at-output.result) (omega arith) c.if-marks-number.false in
    omega arith

pub loop-record-preserved : goal.loop-record-preserved
loop-record-preserved c =
    let number = numbered (goal.at.loop-record-preserved c).After-byte_at-output in
    let named = c.in-Some.ensures in (
      omega (arith, named.1.1),
      simp length-set c.loop-record.invariant.1,
      met_more _ _ c.args.p c.loop-record.marks c.loop-record.at _ _ c.loop-record.invariant.2 named.0 number (omega arith) c.if-marks-number.false (omega (arith, named.1.0)),
    )

pub returns : goal.returns
returns c = met_whole _ _ c.args.p c.loop-record.marks c.loop-record.at c.loop-record.invariant.2 c.in_default.ensures
