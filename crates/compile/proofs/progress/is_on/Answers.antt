use Rattle.std.proofs.Common.{◌≡◌, ◌/◌, ◌^◌, ◌≤◌, sym, ◌∙◌, arith, pow_mono}
use Rattle.std.proofs.lemmas.Bool.{ne_eqb, le-ltb}
use native.Mathlib.Nat.{div-eq_of_lt}
use Rattle.rules.specs.Rule.{bit}
use Rattle.compile.proofs.progress.is_on.Goals as goal

pub returns-else-k-lt8 : goal.returns-else-k-lt8
returns-else-k-lt8 c =
    let wide : 2 ^ 8 ≤ 2 ^ c.args.k = pow_mono c.if-k-lt8.false in
    let none : c.args.number / 2 ^ c.args.k ≡ 0 = div-eq_of_lt (omega (arith, c.ranges.number)) in
    le-ltb _ 8 c.if-k-lt8.false ∙ sym (ne_eqb (bit c.args.number c.args.k) 1 (λ e. omega (arith, none, e)))
