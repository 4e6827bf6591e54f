use Rattle.std.proofs.Common.{◌≡◌, [], sym, ap, ◌∙◌}
use Rattle.std.proofs.lemmas.List.Sorted.{IsNonDecreasingBy-from_sort}
use Rattle.rules.specs.Sets.{sifted, trim, fit}
use Rattle.rules.proofs.TrimLaws.{sifted_sorted}
use Rattle.compile.proofs.join.trimmed.Goals as goal

pub returns : goal.returns
returns c =
    let xs = c.args.gathered.now in
    let ys = c.sort_unstable.new.self in
    let rising = IsNonDecreasingBy-from_sort (λ x. x) ys c.sort_unstable.ensures.sorted in
    let same : sifted [] ys ≡ trim xs = sifted_sorted xs ys c.sort_unstable.ensures.permutation rising in
    ap fit (sym same) ∙ c.sift.ensures
