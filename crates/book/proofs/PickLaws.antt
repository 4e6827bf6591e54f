-- The order of a type is one by which a pick finds the best.
use Rattle.std.proofs.Common.{rules, ◌≡◌, true, false, Some, Option, ap, ◌∙◌, sym, inl, inr}
use Rattle.std.proofs.lemmas.Bool.{cases_Bool, true≢false}
use Rattle.std.proofs.lemmas.Cmp.{upto, tied_itself}
use Rattle.std.specs.Cmp.{IsTotalOrder}
use Rattle.std.specs.declared.cmp.Ordering.{Ordering}
use Rattle.std.specs.declared.cmp.Ordering.TheVariants.{Less, Equal, Greater}
use Rattle.std.specs.Ordering.{is_le, is_gt, is_some_and, ordering_reverse}
use Rattle.terms.proofs.BestLaws.{Order}
use Rattle.book.specs.Picking.{UpTo}

le_of : (o : Ordering) → is_gt o ≡ false → is_le o ≡ true
le_of Less e = search rules
le_of Equal e = search rules
le_of Greater e = absurd (true≢false e)

gt_of : (o : Ordering) → is_le o ≡ true → is_gt o ≡ false
gt_of Less e = search rules
gt_of Equal e = search rules
gt_of Greater e = absurd (true≢false (sym e))

back_of : (o : Ordering) → is_le o ≡ false → is_le (ordering_reverse o) ≡ true
back_of Less e = absurd (true≢false e)
back_of Equal e = absurd (true≢false e)
back_of Greater e = search rules

le_of_not : (o : Ordering) → (o ≡ Greater → ⊥) → is_le o ≡ true
le_of_not Less n = search rules
le_of_not Equal n = search rules
le_of_not Greater n = absurd (n (search rules))

module _ {A : Type 0} (C : A → A → Option Ordering) (R : A → A → Ordering) (same : (x y : A) → C x y ≡ Some (R x y)) where
  le_is : (x y : A) → is_le (R x y) ≡ true → UpTo C x y
  le_is x y e = ap (is_some_and is_le) (same x y) ∙ e

  is_le_of : (x y : A) → UpTo C x y → is_le (R x y) ≡ true
  is_le_of x y e = sym (ap (is_some_and is_le) (same x y)) ∙ e

  pub up_to : IsTotalOrder R → Order (UpTo C)
  up_to o = record {
    same = λ c. le_is c c (ap is_le (tied_itself o c));
    trans = λ c d e h l. le_is c e (le_of _ (upto o c d e (gt_of _ (is_le_of c d h)) (gt_of _ (is_le_of d e l))));
    decided = λ c d. elim (cases_Bool (is_le (R c d))) [
      | inl e ↦ inl (le_is c d e)
      | inr e ↦ inr (λ h. true≢false (sym (is_le_of c d h) ∙ e))
    ];
    total = λ c d n. elim (cases_Bool (is_le (R c d))) [
      | inl e ↦ absurd (n (le_is c d e))
      | inr e ↦ le_is d c (ap is_le (o.antisymm d c) ∙ back_of _ e)
    ];
  }

  pub up_to_of : (x y : A) → (R x y ≡ Greater → ⊥) → UpTo C x y
  up_to_of x y n = le_is x y (le_of_not (R x y) n)

  pub not_up_to_of : (x y : A) → R x y ≡ Greater → UpTo C x y → ⊥
  not_up_to_of x y e l = true≢false (sym (is_le_of x y l) ∙ ap is_le e)
