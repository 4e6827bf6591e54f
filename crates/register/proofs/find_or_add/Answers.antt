-- Each way of a register gives the number, keeps the store and leaves the entries apart.
use Rattle.std.proofs.Common.{arith}
use Rattle.register.proofs.PlaceLaws.{there_entered, full_entered, new_entered}
use Rattle.register.proofs.find_or_add.Goals as goal

pub returns-in-Some : goal.returns-in-Some
returns-in-Some g c =
    let l = c.in_ok-get.ensures.lookup.0 in
    there_entered g.E.Same.same g.met.E.Same.symmetric g.met.E.Same.transitive g.met.E.Same.reflexive l.1 l.2 c.find.ensures.value c.in-Some.is

pub returns-then-used-store : goal.returns-then-used-store
returns-then-used-store g c =
    let l = c.in_ok-get.ensures.lookup.0 in
    full_entered g.E.Same.same g.met.E.Same.symmetric g.met.E.Same.transitive g.met.E.Same.reflexive l.1 l.2 c.find.ensures.value c.in_default.is c.if-used-store.true

pub returns : goal.returns
returns g c =
    let l = c.in_ok-get.ensures.lookup.0 in
    new_entered g.E.Same.same g.met.E.Same.symmetric g.met.E.Same.transitive g.met.E.Same.reflexive l.1 l.2 c.find.ensures.value c.in_default.is (omega arith)
