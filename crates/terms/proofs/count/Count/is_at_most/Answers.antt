use Rattle.terms.proofs.OrderLaws.{derived_order}
use Rattle.terms.proofs.count.Count.is_at_most.Goals as goal

pub returns : goal.returns
returns c = rw c.le.ensures (derived_order c.args.self c.args.other)
