use Rattle.std.proofs.Common.{◌*◌, [], ◌∷◌, length, get_or, bit_or, sym, ap, ap₂, ◌∙◌, zero-mul, eqb-true}
use Rattle.std.proofs.lemmas.List.{nil_from_length}
use Rattle.rules.specs.Sets.{sets}
use Rattle.compile.proofs.JoinLaws.{join_none, join_one}
use Rattle.compile.proofs.joins.Joins.add.Goals as goal

pub returns-then-xs-ys-eq1 : goal.returns-then-xs-ys-eq1
returns-then-xs-ys-eq1 c =
    let xs = c.as_slice-xs.ensures.sets in
    let ys = c.as_slice-ys.ensures.sets in
    join_one c.args.all.now c.args.one.now (ap₂ (λ n m. n * m) (ap length (sym xs)) (ap length (sym ys)) ∙ c.if-xs-ys-eq1.true)
    ∙ ap₂ (λ u v. sets (bit_or (get_or u 0 0) (get_or v 0 0) ∷ [])) (sym xs) (sym ys)
    ∙ ap sets (sym c.alone.ensures)

pub returns-then-is_empty : goal.returns-then-is_empty
returns-then-is_empty c =
    let none = nil_from_length _ (ap length (sym c.as_slice-xs.ensures.sets) ∙ eqb-true (length c.as_slice-xs.result.now) 0 (sym c.if-is_empty.ensures)) in
    join_none c.args.all.now c.args.one.now (ap (λ l. length l * length c.args.one.now) none ∙ zero-mul (length c.args.one.now)) ∙ ap sets (sym none)
