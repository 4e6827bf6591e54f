-- The two readings agree: what is held is what controllers can hold.
use Rattle.std.proofs.Common.{◌≡◌, ℕ, zero, suc, ◌+◌, ◌^◌, ◌<◌, ◌≤◌, ◌↔◌, List, [], ◌∷◌, length, get_or, take, replicate, refl, ap, subst, inl, inr, add-one, arith, pow_pos}
use lib.ListN.{length-replicate}
use Rattle.std.proofs.lemmas.List.{get_or-replicate}
use Rattle.std.proofs.lemmas.Bool.{cases_lt}
use Rattle.terms.specs.declared.count.Count.{Count}
use Rattle.terms.specs.declared.count.Count.TheVariants.{Lost, Limited, Unlimited}
use Rattle.arena.specs.Arena.{Arena, Place, Sound}
use Rattle.arena.specs.Held.{Held}
use Rattle.arena.specs.Control.{Controller, Inputs, led, plays, Holds, CanHold, LimitedTo, UnlimitedBy, Proper}
use Rattle.arena.specs.Count.{Counts}
use Rattle.arena.specs.Values.{Values}
use Rattle.arena.proofs.HeldLaws.{held_place}
use Rattle.arena.proofs.CountLaws.{counts_once}
use Rattle.arena.proofs.ValueLaws.{values, answer_keeps}

-- the first round, then the rest by what is left of the controller
led_first : (a : Arena) (c : Controller) (p x : ℕ) (xs : List ℕ) (j : ℕ) → led a c p (x ∷ xs) (suc j) ≡ led a (λ l. c (x ∷ l)) (a.move p x (c (x ∷ []))) xs j
unfolding led
led_first a c p x xs zero = refl
led_first a c p x xs (suc j) = ap (λ q. a.move q (get_or xs j 0) (c (x ∷ take (suc j) xs))) (led_first a c p x xs j)

-- ---- from a controller

one_input : (a : Arena) (x : ℕ) (xs : List ℕ) → x < 2 ^ a.inputs → Inputs a xs → Inputs a (x ∷ xs)
one_input a x xs l h zero k = l
one_input a x xs l h (suc j) k = h j (omega arith)

holds_rest : (a : Arena) (c : Controller) (k p x : ℕ) → x < 2 ^ a.inputs → Holds a c (suc k) p → Holds a (λ l. c (x ∷ l)) k (a.move p x (c (x ∷ [])))
unfolding Holds
holds_rest a c k p x l h xs e is j m =
    rw led_first at (h (x ∷ xs) (ap suc e) (one_input a x xs l is) (suc j) (omega arith))

-- there are as many inputs as one likes
zeros_in : (a : Arena) (k : ℕ) → Inputs a (replicate k 0)
zeros_in a k j l =
    let h = pow_pos a.inputs in
    let m : j < k = omega (arith, length-replicate {A = ℕ} k 0) in
    omega (arith, get_or-replicate {A = ℕ} k j 0 0 m)

holds_place : (a : Arena) (c : Controller) (k p : ℕ) → Holds a c k p → Place a p
unfolding Holds led
holds_place a c k p h = h (replicate k 0) (length-replicate {A = ℕ} k 0) (zeros_in a k) 0 (omega arith)

module _ {a : Arena} (s : Sound a) where
  an_output : (p x y : ℕ) → Place a (a.move p x y) → y < 2 ^ a.outputs
  an_output p x y h = elim (cases_lt y (2 ^ a.outputs)) [
    | inl l ↦ l
    | inr l ↦ absurd (omega (arith, h.0, s.walks.past_output p x y l))
  ]

  held_from : (k : ℕ) (c : Controller) (p : ℕ) → Holds a c k p → Held a k p
  unfolding Held
  held_from zero c p h = holds_place a c 0 p h
  held_from (suc k) c p h = (
    holds_place a c (suc k) p h,
    λ x l.
        let r = held_from k (λ i. c (x ∷ i)) (a.move p x (c (x ∷ []))) (holds_rest a c k p x l h) in
        (c (x ∷ []), an_output p x (c (x ∷ [])) (held_place a k _ r), r),
  )

-- ---- to a controller

module _ (a : Arena) (f : ℕ → ℕ → ℕ) (best : (p x k z : ℕ) → Place a p → x < 2 ^ a.inputs → z < 2 ^ a.outputs → Held a k (a.move p x z) → Held a k (a.move p x (f p x))) where
  play_holds : (k : ℕ) (c : Controller) (p : ℕ) → ((x : ℕ) (l : List ℕ) → c (x ∷ l) ≡ plays a f p (x ∷ l)) → Held a k p → (xs : List ℕ) → length xs ≡ k → Inputs a xs → (j : ℕ) → j ≤ k → Place a (led a c p xs j)
  unfolding led Held plays
  play_holds zero c p g h xs e is zero m = h
  play_holds zero c p g h xs e is (suc j) m = absurd (omega arith)
  play_holds (suc k) c p g h xs e is zero m = h.0
  play_holds (suc k) c p g h [] e is (suc j) m = absurd (omega arith)
  play_holds (suc k) c p g h (x ∷ xs) e is (suc j) m =
      let l : x < 2 ^ a.inputs = is 0 (omega arith) in
      let z = h.1 x l in
      let q = a.move p x (c (x ∷ [])) in
      let here : Held a k q = rw (g x []) (best p x k z.0 h.0 l z.1 z.2) in
      let rest : (y : ℕ) (i : List ℕ) → c (x ∷ y ∷ i) ≡ plays a f q (y ∷ i) = λ y i. rw (g x []) (g x (y ∷ i)) in
      rw led_first (play_holds k (λ i. c (x ∷ i)) q rest here xs (omega arith) (λ i n. is (suc i) (omega arith)) j (omega arith))

-- the controller that gives the answers holds each position for as long as it is held
pub answers_hold : {a : Arena} (v : Values a) (k p : ℕ) → Held a k p → Holds a (plays a v.answer p) k p
unfolding Holds
answers_hold {a} v k p h =
    play_holds a v.answer (λ q x i z w l m. answer_keeps v q x i z w l m) k (plays a v.answer p) p (λ _ _. refl) h

-- held for k rounds is what some controller can hold
pub held_right : (a : Arena) → Sound a → (p k : ℕ) → Held a k p ↔ CanHold a p k
held_right a s p k = ((λ h. (plays a (values a).answer p, answers_hold (values a) k p h)), λ h. held_from s k h.0 p h.1)

-- the greatest number of rounds is the most that a controller can hold
pub limited_right : (a : Arena) → Sound a → (p n : ℕ) → Counts a p (Limited n) ↔ LimitedTo a p n
unfolding Counts
limited_right a s p n =
    let here = held_right a s p n in
    let next : Held a (suc n) p ↔ CanHold a p (n + 1) = rw add-one (held_right a s p (suc n)) in
    ((λ h. (here.0 h.0, λ m. h.1 (next.1 m))), λ h. (here.1 h.0, λ m. h.1 (next.0 m)))

-- what is held for every number is held so by one controller
pub unlimited_right : (a : Arena) → Sound a → (p : ℕ) → Counts a p Unlimited ↔ UnlimitedBy a p
unfolding Counts
unlimited_right a s p = (
  (λ h. (plays a (values a).answer p, λ k. answers_hold (values a) k p (h k))),
  λ h k. held_from s k h.0 p (h.1 k),
)

-- a count is what it says of controllers
pub counts_right : (a : Arena) → Sound a → (p : ℕ) (c : Count) → Counts a p c ↔ Proper a p c
counts_right a s p Lost = unfold Counts in ((λ h. h), λ h. h)
counts_right a s p (Limited k) = limited_right a s p k
counts_right a s p Unlimited = unlimited_right a s p

-- so a position's value is a count exactly where that count is what controllers can hold
pub values_proper : {a : Arena} → Sound a → (v : Values a) (p : ℕ) (c : Count) → (v.count p ≡ c) ↔ Proper a p c
values_proper {a} s v p c = (
  (λ e. (counts_right a s p c).0 (subst (Counts a p) e (v.counts p))),
  λ h. counts_once a p _ _ (v.counts p) ((counts_right a s p c).1 h),
)
