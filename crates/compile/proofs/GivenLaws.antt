-- Joins of lists where one may be too wide, and what a `?` returns.
use Rattle.std.proofs.Common.{◌≡◌, ℕ, List, None, Err, Option, Result, IsErrAnd, sym, refl, ap, ◌∙◌}
use Rattle.std.proofs.lemmas.Result.{err_from_is_err_and}
use Rattle.rules.specs.Sets.{Sets, too_wide, sets, join_or, join_and}
use Rattle.compile.specs.Listed.{told}

-- what is made from a list that is too wide is too wide
pub record Strict (join : Sets → Sets → Sets) : Type 0 where
  pub left : (t : Sets) → join too_wide t ≡ too_wide
  pub right : (xs : List ℕ) → join (sets xs) too_wide ≡ too_wide

pub or_strict : Strict join_or
unfolding join_or
or_strict = record { left = λ t. refl; right = λ xs. refl }

pub and_strict : Strict join_and
unfolding join_and
and_strict = record { left = λ t. refl; right = λ xs. refl }

-- what a join of two lists comes to, from what they are
module _ {join : Sets → Sets → Sets} (strict : Strict join) {s t : Sets} {r : Option (List ℕ)} where
  pub wide_left : s ≡ too_wide → r ≡ None → join s t ≡ told r
  wide_left e n = ap (λ u. join u t) e ∙ strict.left t ∙ ap told (sym n)

  pub wide_right : {xs : List ℕ} → s ≡ sets xs → t ≡ too_wide → r ≡ None → join s t ≡ told r
  wide_right {xs} d e n = (λ j. join (d j) (e j)) ∙ strict.right xs ∙ ap told (sym n)

-- what a `?` returns, from the error that it passes on
pub err_is : {T E : Type 0} {x : E} (r : Result T E) → IsErrAnd r (λ y. y ≡ x) → r ≡ Err x
err_is r h =
    let e = err_from_is_err_and r h in
    e.1 ∙ ap Err e.2
