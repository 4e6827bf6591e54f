-- What the pass over a book decides.
use Rattle.std.proofs.Common.{rules, ◌≡◌, ℕ, Bool, true, false, cond, Decides, ◌↔◌, Some, None, sym, refl, ◌∙◌, subst}
use Rattle.std.proofs.lemmas.Bool.Decides.{Decides-like}
use Rattle.terms.specs.declared.count.Count.{Count}
use Rattle.terms.specs.contracts.count.CountPartialEq.TheImpl
use Rattle.terms.specs.declared.count.Count.TheVariants.{Lost, Limited, Unlimited}
use Rattle.terms.specs.Order.{AtMost, Least}
use Rattle.book.specs.Agreeing.{Follows}

-- what is at least unlimited is so
top : (c : Count) → AtMost Unlimited c → c ≡ Unlimited
unfolding AtMost
top Lost h = absurd h
top (Limited k) h = absurd h
top Unlimited h = refl

-- an unlimited count follows exactly when the least is unlimited
follows_unlimited : (m : ℕ) (f : ℕ → Count) (x : ℕ) → Least m f x → (f x ≡ Unlimited) ↔ Follows Unlimited m f None
follows_unlimited m f x h = (
  (λ e. (refl, λ z i. top (f z) (subst (λ c. AtMost c (f z)) e (h.best z i)))),
  λ w. w.1 x h.here,
)

-- what the derived equality says of unlimited
is_unlimited : (c : Count) → Decides (TheImpl.eq-value.it c Unlimited) (c ≡ Unlimited)
is_unlimited Lost = search rules
is_unlimited (Limited k) = search rules
is_unlimited Unlimited = search rules

-- and so the equality with the least decides whether an unlimited count follows
pub unlimited_decides : {m x : ℕ} {f : ℕ → Count} {low : Count} {r : Bool} → Least m f x → low ≡ f x → r ≡ TheImpl.eq-value.it low Unlimited → Decides r (Follows Unlimited m f None)
unlimited_decides {m} {x} {f} {low} least is e =
    let w = follows_unlimited m f x least in
    rw e (Decides-like _ (λ h. w.0 (sym is ∙ h)) (λ h. is ∙ w.1 h) (is_unlimited low))

-- no spoiling input is told only where the flag says unlimited
pub flag_none : (y : ℕ) (b : Bool) → cond b None (Some y) ≡ None → b ≡ true
flag_none y true e = refl
flag_none y false e = cc
