use Rattle.std.proofs.Common.{◌≡◌, get_or, None, refl, sym, ◌∙◌, arith, take_all}
use Rattle.std.proofs.lemmas.List.{take_more}
use Rattle.std.proofs.lemmas.Result.{err_from_is_err_and}
use Rattle.calls.specs.declared.code.CallCode.{CallCode}
use Rattle.calls.specs.Codes.{calls_of}
use Rattle.calls.specs.Rows.{strange_at}
use Rattle.calls.proofs.RowLaws.{no_some, not_both, call_there, answer_is, reached_more, reached_all, promised, not_made, made_kept}
use Rattle.calls.proofs.row.replay.Goals as goal

-- what a slice has behind its end
abbrev blank : CallCode
blank = record { kind = 0; number = 0 }

pub loop-i-init : goal.loop-i-init
loop-i-init g c = λ v book. let e = c.in_ok-start.ensures.made (v, book) in record { counted = refl; stage = cc; written = refl }

pub loop-i-preserved : goal.loop-i-preserved
loop-i-preserved g c = λ v book.
    let row = c.args.row.now in
    let plain : strange_at row ≡ None = sym c.strange.ensures ∙ no_some c.strange.result c.in_default.not-Some in
    let k = call_there row c.loop-i.i blank plain c.loop-i-test.true in
    reached_more _ (g.G.Game.sound c.args.play.now.game.now) v _ book row c.args.answers.now c.loop-i.i (get_or row c.loop-i.i blank) k.0 c.loop-i.stage _ c.loop-i.answers _ c.loop-i-test.true (omega arith) (take_more row c.loop-i.i blank c.loop-i-test.true) k.1 (c.loop-i.invariant v book) (c.answered-next.ensures.after k.0 k.1) (sym c.in-Ok.is ∙ c.answered-next.ensures.told k.0 k.1)

pub returns-in_err-start : goal.returns-in_err-start
returns-in_err-start g c =
    let p = err_from_is_err_and c.from_residual.result c.from_residual.ensures.1 in
    rw (p.1, p.2) (not_made _ _ c.args.row.now c.args.answers.now _ (omega arith) (sym c.strange.ensures ∙ no_some c.strange.result c.in_default.not-Some) c.in_err-start.ensures)

pub returns-in-Err : goal.returns-in-Err
returns-in-Err g c =
    let row = c.args.row.now in
    let plain : strange_at row ≡ None = sym c.strange.ensures ∙ no_some c.strange.result c.in_default.not-Some in
    made_kept _ _ row c.args.answers.now c.loop-i.answers _ _ (omega arith) plain c.in_ok-start.ensures
    (λ v book.
    let k = call_there row c.loop-i.i blank plain c.loop-i-test.true in
    let told = answer_is _ (g.G.Game.sound c.args.play.now.game.now) v _ book k.0 _ c.loop-i.stage (c.loop-i.invariant v book).stage in
    absurd (not_both (c.answered-next.ensures.told k.0 k.1 ∙ told) c.in-Err.is))

pub returns : goal.returns
returns g c =
    let row = c.args.row.now in
    let plain : strange_at row ≡ None = sym c.strange.ensures ∙ no_some c.strange.result c.in_default.not-Some in
    made_kept _ _ row c.args.answers.now c.loop-i.answers _ _ (omega arith) plain c.in_ok-start.ensures
    (λ v book. (refl, reached_all v row c.args.answers.now c.loop-i.i c.loop-i.stage c.loop-i.answers (omega arith) (take_all c.loop-i.i row c.loop-i-test.false) (c.loop-i.invariant v book), promised (g.G.Game.sound c.args.play.now.game.now) v (calls_of row)))
