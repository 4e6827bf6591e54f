use Rattle.std.proofs.Common.{sym, ap, ◌∙◌}
use Rattle.rules.specs.Sets.{sets, join_or, join_and}
use Rattle.compile.specs.Listed.{told}
use Rattle.compile.proofs.GivenLaws.{and_strict}
use Rattle.compile.proofs.progress.released.Goals as goal

pub returns-in_err-held : goal.returns-in_err-held
returns-in_err-held c =
    let b = sets c.args.b.now in
    let a = sets c.args.a.now in
    ap (λ s. join_and b (join_or a s)) (sym c.own.ensures) ∙ ap (join_and b) c.in_err-held.ensures ∙ and_strict.right c.args.b.now ∙ ap told (sym c.from_residual.ensures)
