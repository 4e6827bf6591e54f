use Rattle.std.proofs.Common.{inl, inr, arith, rules}
use Rattle.reader.specs.Both.{stores_short}
use Rattle.reader.proofs.SizeLaws.{zeros}
use Rattle.reader.proofs.BothLaws.{signals_exit, rule_wrong, all_served}
use Rattle.reader.proofs.texts.read.Goals as goal
use Rattle.reader.proofs.texts.read.Goals.{then-names-lt-MOST_SIGNALS-via-then-names-lt-MOST_SIGNALS, then-names-lt-MOST_SIGNALS-via-else-names-lt-MOST_SIGNALS+then-parts-lt-MOST_PARTS}

pub returns-then-names-lt-MOST_SIGNALS : goal.returns-then-names-lt-MOST_SIGNALS
returns-then-names-lt-MOST_SIGNALS c = stores_short (elim c.then-names-lt-MOST_SIGNALS.branch [
  | then-names-lt-MOST_SIGNALS-via-then-names-lt-MOST_SIGNALS w ↦ inl w.if-names-lt-MOST_SIGNALS.true
  | then-names-lt-MOST_SIGNALS-via-else-names-lt-MOST_SIGNALS+then-parts-lt-MOST_PARTS w ↦ inr w.if-parts-lt-MOST_PARTS.true
])

pub returns-in_err-signals : goal.returns-in_err-signals
returns-in_err-signals c =
    signals_exit (c.if-names-lt-MOST_SIGNALS.false, c.if-parts-lt-MOST_PARTS.false) c.read_signals.result c.read_signals.ensures.outcome (zeros _ c.clear_parts.ensures) c.in_err-signals.field-0.0 _ c.in_err-signals.ensures.cases (λ e h. search rules) c.from_residual.result c.from_residual.ensures.1

pub returns-in-Ok : goal.returns-in-Ok
returns-in-Ok c =
    all_served (c.if-names-lt-MOST_SIGNALS.false, c.if-parts-lt-MOST_PARTS.false) c.read_signals.result c.in_ok-signals.signals c.in_ok-signals.ensures.cases c.read_signals.ensures.outcome (c.in-Ok.ensures.reads (omega arith))

pub returns-in-Err : goal.returns-in-Err
returns-in-Err c =
    rule_wrong (c.if-names-lt-MOST_SIGNALS.false, c.if-parts-lt-MOST_PARTS.false) c.read_signals.result c.in_ok-signals.signals c.in_ok-signals.ensures.cases c.read_signals.ensures.outcome (c.in-Err.ensures.reads (omega arith)) c.clear.ensures
