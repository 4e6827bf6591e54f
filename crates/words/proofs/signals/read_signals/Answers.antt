-- A text comes to one thing, and that is what is answered.
use Rattle.std.proofs.Common.{length, Err, sym, refl, arith}
use Rattle.terms.specs.declared.refusal.Refusal.TheVariants.{StoreTooShort, TextTooLong}
use Rattle.words.specs.Signals.{store_short, text_long, refused}
use Rattle.words.proofs.ReadLaws.{one_answer, cleared, kept}
use Rattle.words.proofs.signals.read_signals.Goals as goal

pub returns-then-names-lt8 : goal.returns-then-names-lt8
returns-then-names-lt8 c =
    let p = one_answer (length c.args.names.now) c.args.text.now c.args.names.now c.args.names.now (Err StoreTooShort) (refused 13 0) (store_short c.if-names-lt8.true) (refl, refl) ((λ _. refl), (λ h. absurd (h refl))) in
    record { outcome = p.outcome; only = p.only }

pub returns-then-text-gt1024 : goal.returns-then-text-gt1024
returns-then-text-gt1024 c =
    let p = one_answer (length c.args.names.now) c.args.text.now c.args.names.now c.clear.new.names (Err TextTooLong) (refused 1 0) (text_long c.if-names-lt8.false c.if-text-gt1024.true) (refl, refl) ((λ h. absurd (omega arith)), (λ _. c.clear.ensures)) in
    record { outcome = p.outcome; only = p.only }

pub returns-then-is_err : goal.returns-then-is_err
returns-then-is_err c =
    let p = cleared (length c.args.names.now) c.args.text.now c.args.names.now c.clear-then-is_err.new.names (record { roomy = c.if-names-lt8.false; short = c.if-text-gt1024.false }) c.read_words-read.result c.read_words-read.new.names c.read_words-read.ensures (omega (arith, c.clear.auto.names)) (sym c.if-is_err.ensures.value) c.clear-then-is_err.ensures in
    record { outcome = p.outcome; only = p.only }

pub returns-else-is_err : goal.returns-else-is_err
returns-else-is_err c =
    let p = kept (length c.args.names.now) c.args.text.now c.args.names.now c.read_words-read.new.names c.read_words-read.result c.read_words-read.ensures (omega (arith, c.clear.auto.names)) (sym c.if-is_err.ensures.value) in
    record { outcome = p.outcome; only = p.only }
