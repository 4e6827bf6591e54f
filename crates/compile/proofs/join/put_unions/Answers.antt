use Rattle.std.proofs.Common.{◌≡◌, ◌+◌, ◌-◌, ◌*◌, ◌≤◌, [], ◌++◌, map, length, get_or, take, drop, sym, ap, ◌∙◌, mul-le-mul_right, add-mul, arith}
use lib.Bits.{bit_or}
use Rattle.std.proofs.lemmas.List.{append_assoc, append-nil, at_drop_more, at_drop_all, length-map}
use lib.Seq.{take-length}
use Rattle.rules.specs.Sets.{unions}
use Rattle.compile.proofs.JoinLaws.{take_mid}
use Rattle.compile.proofs.join.put_unions.Goals as goal

pub loop-i-preserved : goal.loop-i-preserved
unfolding unions
loop-i-preserved c =
    let xs = c.args.xs.now in
    let ys = c.args.ys.now in
    let i = c.loop-i.i in
    let n = length ys in
    let done = take (i * n) c.loop-i.out in
    let row = map (bit_or (get_or xs i 0)) ys in
    let rest = unions (drop (i + 1) xs) ys in
    let next : (i + 1) * n ≡ i * n + n = add-mul i 1 n ∙ omega arith in
    let below : (i + 1) * n ≤ length xs * n = mul-le-mul_right n (omega arith) in
    let width : length c.put_row.new.row ≡ (i + 1) * n - i * n = ap length c.put_row.ensures ∙ length-map ys (bit_or (get_or xs i 0)) ∙ omega arith in
    let left : unions (drop i xs) ys ≡ row ++ rest = at_drop_more (λ l. unions l ys) xs i 0 c.loop-i-test.true in
    ap (λ l. l ++ rest) (take_mid (i * n) ((i + 1) * n) c.loop-i.out c.put_row.new.row _ (omega arith) (omega arith) width ∙ ap (λ l. done ++ l) c.put_row.ensures)
    ∙ append_assoc done row rest
    ∙ ap (λ l. done ++ l) (sym left)
    ∙ c.loop-i.invariant

pub returns : goal.returns
unfolding unions
returns c =
    let xs = c.args.xs.now in
    let ys = c.args.ys.now in
    let whole : c.loop-i.i ≡ length xs = omega arith in
    let none : unions (drop c.loop-i.i xs) ys ≡ [] = at_drop_all (λ l. unions l ys) xs c.loop-i.i c.loop-i-test.false in
    let long : length c.loop-i.out ≡ c.loop-i.i * length ys = c.loop-i.auto.out ∙ c.requires ∙ ap (λ k. k * length ys) (sym whole) in
    sym (take-length c.loop-i.out) ∙ ap (λ k. take k c.loop-i.out) long ∙ sym (append-nil _) ∙ ap (λ l. take (c.loop-i.i * length ys) c.loop-i.out ++ l) (sym none) ∙ c.loop-i.invariant
