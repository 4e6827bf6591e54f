-- A turn passes a record for another move, or finds the destination.
use Rattle.std.proofs.Common.{◌≡◌, ◌-◌, sym, ◌∙◌, arith}
use Rattle.arena.specs.Diagram.{sought}
use Rattle.arena.proofs.DrawnLaws.{sought_none}
use Rattle.game.proofs.ReadingLaws.{seek_here, seek_past, destination_low}
use Rattle.game.proofs.diagram.Diagram.destination.Goals as goal
use Rattle.game.proofs.diagram.Diagram.destination.Goals.{else-byte_at-x-via-then-byte_at-x+else-byte_at-y, else-byte_at-x-via-else-byte_at-x}

pub returns-in_default : goal.returns-in_default
returns-in_default c = sym (sought_none _ _ c.args.x c.args.y _ c.loop.at c.in_default.ensures) ∙ c.loop.invariant.1

pub returns-then-byte_at-y : goal.returns-then-byte_at-y
returns-then-byte_at-y c =
    let d = c.args.self.now in
    let named = c.in-Some.ensures in
    let low = destination_low _ _ _ _ d.fielded d.headed named.0 named.1.0 in
    c.byte_at-then-byte_at-y.ensures ∙ seek_here _ _ _ (omega arith) named.0 named.1.0 c.loop.invariant.1 (omega arith) (omega arith) low

pub loop-preserved : goal.loop-preserved
loop-preserved c =
    let named = c.in-Some.ensures in (
      omega (arith, named.1.1),
      seek_past _ _ _ (omega arith) named.0 named.1.0 c.loop.invariant.1 (omega arith) (λ s. elim c.else-byte_at-x.branch [
        | else-byte_at-x-via-then-byte_at-x+else-byte_at-y w ↦ w.if-byte_at-y.false (w.byte_at-then-byte_at-x.ensures ∙ s.1)
        | else-byte_at-x-via-else-byte_at-x w ↦ w.if-byte_at-x.false (c.byte_at.ensures ∙ s.0)
      ]),
    )

pub returns : goal.returns
unfolding sought
returns c =
    let none : c.args.self.now.shape.records - c.loop.counter ≡ 0 = omega arith in
    rw none at c.loop.invariant.1
