-- The order of counts.
use Rattle.std.proofs.Common.{◌≡◌, ℕ, zero, suc, ◌+◌, ◌⊎◌, Decides, rules, refl, ap, inl, inr, arith}
use Rattle.std.proofs.lemmas.Bool.{cases_lt}
use Rattle.terms.specs.declared.count.Count.{Count}
use Rattle.terms.specs.declared.count.Count.TheVariants.{Lost, Limited, Unlimited}
use Rattle.std.specs.Ordering.{partial_le}
use Rattle.terms.specs.contracts.count.CountPartialOrd.TheImpl
use Rattle.terms.specs.Order.{AtMost, Below, plus}
use Rattle.terms.proofs.BestLaws.{Order}

-- ---- the order

pub at_most_refl : (c : Count) → AtMost c c
unfolding AtMost
at_most_refl Lost = tt
at_most_refl (Limited k) = omega arith
at_most_refl Unlimited = tt

pub at_most_trans : (c d e : Count) → AtMost c d → AtMost d e → AtMost c e
unfolding AtMost
at_most_trans Lost d e h l = tt
at_most_trans (Limited k) Lost e h l = absurd h
at_most_trans (Limited k) (Limited j) Lost h l = absurd l
at_most_trans (Limited k) (Limited j) (Limited i) h l = omega arith
at_most_trans (Limited k) (Limited j) Unlimited h l = tt
at_most_trans (Limited k) Unlimited Lost h l = absurd l
at_most_trans (Limited k) Unlimited (Limited i) h l = absurd l
at_most_trans (Limited k) Unlimited Unlimited h l = tt
at_most_trans Unlimited Lost e h l = absurd h
at_most_trans Unlimited (Limited j) e h l = absurd h
at_most_trans Unlimited Unlimited e h l = l

pub at_most_antisym : (c d : Count) → AtMost c d → AtMost d c → c ≡ d
unfolding AtMost
at_most_antisym Lost Lost h l = refl
at_most_antisym Lost (Limited j) h l = absurd l
at_most_antisym Lost Unlimited h l = absurd l
at_most_antisym (Limited k) Lost h l = absurd h
at_most_antisym (Limited k) (Limited j) h l = let e : k ≡ j = omega arith in ap Limited e
at_most_antisym (Limited k) Unlimited h l = absurd l
at_most_antisym Unlimited Lost h l = absurd h
at_most_antisym Unlimited (Limited j) h l = absurd h
at_most_antisym Unlimited Unlimited h l = refl

cases_count : (c d : Count) → (AtMost c d) ⊎ (Below d c)
unfolding AtMost
cases_count Lost d = inl tt
cases_count (Limited k) Lost = inr (λ h. h)
cases_count (Limited k) (Limited j) = elim (cases_lt j k) [ inl l ↦ inr (λ h. omega arith) | inr l ↦ inl l ]
cases_count (Limited k) Unlimited = inl tt
cases_count Unlimited Lost = inr (λ h. h)
cases_count Unlimited (Limited j) = inr (λ h. h)
cases_count Unlimited Unlimited = inl tt

below_at_most : (c d : Count) → Below c d → AtMost c d
unfolding AtMost
below_at_most Lost d h = tt
below_at_most (Limited k) Lost h = h tt
below_at_most (Limited k) (Limited j) h = elim (cases_lt j k) [ inl l ↦ absurd (h (omega arith)) | inr l ↦ l ]
below_at_most (Limited k) Unlimited h = tt
below_at_most Unlimited Lost h = h tt
below_at_most Unlimited (Limited j) h = h tt
below_at_most Unlimited Unlimited h = tt

-- ---- rounds more

pub plus_none : (c : Count) → plus c 0 ≡ c
unfolding plus
plus_none Lost = refl
plus_none (Limited k) = let e : k + 0 ≡ k = omega arith in ap Limited e
plus_none Unlimited = refl

pub plus_plus : (c : Count) (j k : ℕ) → plus (plus c j) k ≡ plus c (j + k)
unfolding plus
plus_plus Lost zero zero = refl
plus_plus Lost zero (suc k) = let e : suc k ≡ 0 + suc k = omega arith in ap (plus Lost) e
plus_plus Lost (suc j) k = let e : suc (j + k) ≡ suc j + k = omega arith in ap (plus Lost) e
plus_plus (Limited n) j k = let e : (n + j) + k ≡ n + (j + k) = omega arith in ap Limited e
plus_plus Unlimited j k = refl

pub plus_at_most : (c d : Count) (k : ℕ) → AtMost c d → AtMost (plus c k) (plus d k)
unfolding AtMost plus
plus_at_most Lost Lost zero h = tt
plus_at_most Lost Lost (suc k) h = omega arith
plus_at_most Lost (Limited j) zero h = tt
plus_at_most Lost (Limited j) (suc k) h = omega arith
plus_at_most Lost Unlimited zero h = tt
plus_at_most Lost Unlimited (suc k) h = tt
plus_at_most (Limited i) Lost k h = absurd h
plus_at_most (Limited i) (Limited j) k h = omega arith
plus_at_most (Limited i) Unlimited k h = tt
plus_at_most Unlimited Lost k h = absurd h
plus_at_most Unlimited (Limited j) k h = absurd h
plus_at_most Unlimited Unlimited k h = tt

-- ---- the laws of an order

pub count_order : Order AtMost
count_order = record { same = at_most_refl; trans = at_most_trans; decided = cases_count; total = λ c d. below_at_most d c }

-- ---- the derived order

-- `<=` of counts is their order
pub derived_order : (c d : Count) → Decides (partial_le TheImpl.partial_cmp-value.it c d) (AtMost c d)
unfolding AtMost
derived_order Lost Lost = search rules
derived_order Lost (Limited j) = search rules
derived_order Lost Unlimited = search rules
derived_order (Limited k) Lost = search rules
derived_order (Limited k) (Limited j) = grind arith
derived_order (Limited k) Unlimited = search rules
derived_order Unlimited Lost = search rules
derived_order Unlimited (Limited j) = search rules
derived_order Unlimited Unlimited = search rules
