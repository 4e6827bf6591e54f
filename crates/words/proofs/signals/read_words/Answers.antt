-- The store is cleared at the start; each word is read, or is the first that is wrong; the end is the text's.
use Rattle.std.proofs.Common.{rules, ◌≡◌, sym, subst, arith}
use Rattle.std.proofs.lemmas.Result.{err_from_is_err_and}
use Rattle.words.proofs.StepLaws.{before, reader_at}
use Rattle.words.proofs.ReadLaws.{Reading, start, taken, wrong, ended}
use Rattle.words.proofs.signals.read_words.Goals as goal

pub loop-names-init : goal.loop-names-init
loop-names-init c =
    let at-start : c.default-reader.result ≡ reader_at before = search rules in
    (omega arith, subst (λ r. Reading c.args.text.now r 0 c.args.names.now) (sym at-start) (start c.args.text.now c.args.names.now c.requires.1))

pub returns-in-End : goal.returns-in-End
returns-in-End c = rw c.finish.ensures (ended c.loop-names.invariant.1 c.requires.0 c.next_word-token.result c.in-End.is (c.next_word-token.ensures.comes c.loop-names.invariant.0))

pub returns-in_err-reader : goal.returns-in_err-reader
returns-in_err-reader c =
    let e = err_from_is_err_and c.from_residual.result c.from_residual.ensures.1 in
    rw (e.1, e.2) (wrong c.loop-names.invariant.1 (omega (arith, c.requires.0.roomy, c.loop-names.auto.names)) c.next_word-token.result c.in_default.not-End (c.next_word-token.ensures.comes c.loop-names.invariant.0) c.requires.0 c.in_err-reader.ensures)

pub loop-names-preserved : goal.loop-names-preserved
loop-names-preserved c =
    (c.next_word-token.ensures.within, taken c.loop-names.invariant.1 (omega (arith, c.requires.0.roomy, c.loop-names.auto.names)) c.next_word-token.result c.in_default.not-End (c.next_word-token.ensures.comes c.loop-names.invariant.0) c.in_ok-reader.ensures)
