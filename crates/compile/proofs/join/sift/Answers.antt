use Rattle.std.proofs.Common.{◌≡◌, ◌+◌, ◌<◌, true, false, [], ◌∷◌, ◌++◌, length, get_or, drop, sym, ap, ◌∙◌, arith, length-append}
use Rattle.std.proofs.lemmas.List.{at_drop_all}
use Rattle.std.proofs.lemmas.Bool.{cond-true, cond-false, le-leb, lt-leb}
use Rattle.rules.specs.Sets.{covered, sifted, fit}
use Rattle.compile.specs.Listed.{told}
use Rattle.compile.proofs.JoinLaws.{covered_any, sifted_no_shorter, sifted_passes, sifted_takes}
use Rattle.compile.proofs.join.sift.Goals as goal
use Rattle.compile.proofs.join.sift.Goals.{then-not-is_covered+in_ok-push, else-not-is_covered}

pub returns-in_err-push : goal.returns-in_err-push
returns-in_err-push c =
    let xs = c.args.ascending.now in
    let i = c.loop-x.x-index in
    let kept = c.loop-x.kept in
    let no : covered kept (get_or xs i 0) ≡ false = sym ((rw c.as_slice.ensures.sets at c.if-not-is_covered.ensures) ∙ covered_any kept (get_or xs i 0)) in
    let next = kept ++ (get_or xs i 0 ∷ []) in
    let all : sifted next (drop (i + 1) xs) ≡ sifted [] xs = sym (sifted_takes kept xs i c.loop-x-test.true no) ∙ c.loop-x.invariant.same in
    let full : length kept ≡ 32 = c.in_err-push.ensures in
    let many : 32 < length (sifted [] xs) = omega (arith, ap length all, sifted_no_shorter next (drop (i + 1) xs), length-append kept (get_or xs i 0 ∷ [])) in
    cond-false _ _ _ (lt-leb _ _ many) ∙ ap told (sym c.from_residual.ensures)

pub loop-x-preserved : goal.loop-x-preserved
loop-x-preserved c =
    let xs = c.args.ascending.now in
    let i = c.loop-x.x-index in
    let kept = c.loop-x.kept in
    elim c.if-not-is_covered.branch [
      | then-not-is_covered+in_ok-push w ↦
          let no : covered kept (get_or xs i 0) ≡ false = sym ((rw c.as_slice.ensures.sets at w.if-not-is_covered.ensures) ∙ covered_any kept (get_or xs i 0)) in
          let grown : c.if-not-is_covered.kept ≡ kept ++ (get_or xs i 0 ∷ []) = w.kept-is ∙ w.in_ok-push.ensures.1 in
          let room : length kept < 32 = w.in_ok-push.ensures.0 in
          record {
            few = omega (arith, ap length grown, length-append kept (get_or xs i 0 ∷ []));
            same = ap (λ l. sifted l (drop (i + 1) xs)) grown ∙ sym (sifted_takes kept xs i c.loop-x-test.true no) ∙ c.loop-x.invariant.same;
          }
      | else-not-is_covered w ↦
          let yes : covered kept (get_or xs i 0) ≡ true = sym ((rw c.as_slice.ensures.sets at w.if-not-is_covered.ensures) ∙ covered_any kept (get_or xs i 0)) in
          record {
            few = omega (arith, ap length w.kept-is, c.loop-x.invariant.few);
            same = ap (λ l. sifted l (drop (i + 1) xs)) w.kept-is ∙ sym (sifted_passes kept xs i c.loop-x-test.true yes) ∙ c.loop-x.invariant.same;
          }
    ]

pub returns : goal.returns
unfolding sifted
returns c =
    let xs = c.args.ascending.now in
    let kept = c.loop-x.kept in
    let all : sifted [] xs ≡ kept = sym c.loop-x.invariant.same ∙ at_drop_all (sifted kept) xs c.loop-x.x-index c.loop-x-test.false in
    ap fit all ∙ cond-true _ _ _ (le-leb _ _ c.loop-x.invariant.few)
