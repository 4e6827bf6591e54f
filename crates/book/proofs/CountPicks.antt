-- A pick of the least by the derived order of counts, and by the reversed one.
use Rattle.std.proofs.Common.{◌≡◌, ℕ, subst}
use Rattle.std.specs.declared.cmp.Reverse.{Reverse}
use Rattle.terms.specs.declared.count.Count.{Count}
use Rattle.terms.specs.contracts.count.CountPartialOrd.TheImpl
use Rattle.terms.specs.Best.{Best}
use Rattle.terms.specs.Order.{Most, Least}
use Rattle.terms.proofs.BestLaws.{best_map}
use Rattle.terms.proofs.OrderLaws.{derived_order}
use Rattle.book.specs.Picking.{UpTo, Computes}

-- what is picked by the reversed order, where each key is computed, counts most
pub most_of : {gives : ℕ → Reverse Count → Type 0} {n m : ℕ} {f : ℕ → Count} {y : ℕ} → n ≡ m
    → ((h : ℕ → Reverse Count) → Computes gives n h → Best (λ c d. UpTo (λ a b. TheImpl.partial_cmp-value.it b.0 a.0) d c) n h y) → Computes gives n (λ z. record { 0 = f z }) → Most m f y
most_of {f} {y} e picks made = subst (λ k. Most k f y) e (best_map (λ i j _ _. (derived_order (f i) (f j)).0) (λ i j _ _. (derived_order (f i) (f j)).1) (picks _ made))

-- and by the order itself, counts least
pub least_of : {gives : ℕ → Count → Type 0} {n m : ℕ} {f : ℕ → Count} {x : ℕ} → n ≡ m
    → ((h : ℕ → Count) → Computes gives n h → Best (λ c d. UpTo TheImpl.partial_cmp-value.it d c) n h x) → Computes gives n f → Least m f x
least_of {f} {x} e picks made = subst (λ k. Least k f x) e (best_map (λ i j _ _. (derived_order (f j) (f i)).0) (λ i j _ _. (derived_order (f j) (f i)).1) (picks f made))
