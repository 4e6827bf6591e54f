use Rattle.std.proofs.Common.{◌*◌, [], ◌∷◌, length, get_or, bit_or, sym, ap, ◌∙◌, ap₂}
use Rattle.rules.specs.Sets.{sets}
use Rattle.compile.proofs.JoinLaws.{join_none, join_one}
use Rattle.compile.proofs.join.both.Goals as goal

pub returns-in-0 : goal.returns-in-0
returns-in-0 c =
    join_none c.args.a.now c.args.b.now (ap₂ (λ n m. n * m) (ap length (sym c.as_slice-xs.ensures.sets)) (ap length (sym c.as_slice-ys.ensures.sets)) ∙ c.in-0.is) ∙ sym c.of_false.ensures

pub returns-in-1 : goal.returns-in-1
returns-in-1 c =
    let xs = c.as_slice-xs.ensures.sets in
    let ys = c.as_slice-ys.ensures.sets in
    join_one c.args.a.now c.args.b.now (ap₂ (λ n m. n * m) (ap length (sym xs)) (ap length (sym ys)) ∙ c.in-1.is)
    ∙ ap₂ (λ u v. sets (bit_or (get_or u 0 0) (get_or v 0 0) ∷ [])) (sym xs) (sym ys)
    ∙ ap sets (sym c.alone.ensures)
