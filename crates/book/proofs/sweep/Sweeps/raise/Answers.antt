use Rattle.std.proofs.Common.{refl, arith}
use Rattle.book.proofs.RankLaws.{raise_low, raise_kept, raise_dropped}
use Rattle.book.proofs.sweep.Sweeps.raise.Goals as goal

pub returns-then-self-p-clause-after : goal.returns-then-self-p-clause-after
returns-then-self-p-clause-after g c = raise_low c.requires.before (omega arith)

pub returns-then-kept : goal.returns-then-kept
returns-then-kept g c = let r = raise_kept c.requires.before c.requires.place (omega arith) c.keeps-kept.ensures c.if-kept.true in record { same = refl; after = r.0; kept = r.1 }

pub returns-else-kept : goal.returns-else-kept
returns-else-kept g c = let r = raise_dropped c.requires.before (omega arith) c.keeps-kept.ensures c.if-kept.false in record { same = refl; after = r.0; kept = r.1 }
