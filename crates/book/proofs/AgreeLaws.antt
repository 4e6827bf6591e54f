-- Counts that follow from the counts where their moves lead are the true ones.
use Rattle.std.proofs.Common.{◌≡◌, ℕ, zero, suc, ◌^◌, ◌<◌, ◌≤◌, ◌⊎◌, None, Option, subst, inl, inr, arith}
use Rattle.std.proofs.lemmas.Bool.{cases_lt}
use Rattle.terms.specs.declared.count.Count.{Count}
use Rattle.terms.specs.declared.count.Count.TheVariants.{Lost, Limited, Unlimited}
use Rattle.arena.specs.Arena.{Arena, Place}
use Rattle.arena.specs.Held.{Held}
use Rattle.terms.specs.Order.{AtMost, plus, Most}
use Rattle.arena.specs.Count.{Counts}
use Rattle.arena.specs.Values.{Spoils}
use Rattle.terms.proofs.OrderLaws.{at_most_trans}
use Rattle.book.specs.Agreeing.{Follows}

-- at least j + 1 is one more than at least j
one_up : (c : Count) (j : ℕ) → AtMost (Limited (suc j)) (plus c 1) → AtMost (Limited j) c
unfolding AtMost plus
one_up Lost j h = absurd (omega arith)
one_up (Limited n) j h = omega arith
one_up Unlimited j h = tt

up_one : (c : Count) (j : ℕ) → AtMost (Limited j) c → AtMost (Limited (suc j)) (plus c 1)
unfolding AtMost plus
up_one Lost j h = absurd h
up_one (Limited n) j h = omega arith
up_one Unlimited j h = tt

-- what follows of a count that is at least j + 1: each input's answer leads to at least j
follows_down : (c : Count) (m : ℕ) (f : ℕ → Count) (s : Option ℕ) (j : ℕ) → Follows c m f s → AtMost (Limited (suc j)) c → (x : ℕ) → x < m → AtMost (Limited j) (f x)
follows_down Lost m f s j h l x i = absurd h
follows_down (Limited k) m f s j h l x i =
    let w = h.2 in
    at_most_trans (Limited j) (f h.0) (f x) (one_up (f h.0) j (subst (AtMost (Limited (suc j))) h.3 l)) (w.best x i)
follows_down Unlimited m f s j h l x i = rw (h.1 x i) (unfold AtMost in tt)

-- and what makes it so
follows_up : (c : Count) (m : ℕ) (f : ℕ → Count) (s : Option ℕ) (j : ℕ) → Follows c m f s → ((x : ℕ) → x < m → AtMost (Limited j) (f x)) → AtMost (Limited (suc j)) c
follows_up Lost m f s j h l = absurd h
follows_up (Limited k) m f s j h l = rw h.3 (up_one (f h.0) j (l h.0 h.2.here))
follows_up Unlimited m f s j h l = unfold AtMost in tt

follows_some : (c : Count) (m : ℕ) (f : ℕ → Count) (s : Option ℕ) → Follows c m f s → AtMost (Limited 0) c
unfolding AtMost
follows_some Lost m f s h = absurd h
follows_some (Limited k) m f s h = omega arith
follows_some Unlimited m f s h = tt

-- a count that is at least each number held for is the position's
counts_from : (a : Arena) (p : ℕ) (c : Count) → ((k : ℕ) → AtMost (Limited k) c → Held a k p) → ((k : ℕ) → Held a k p → AtMost (Limited k) c) → Counts a p c
unfolding Counts AtMost
counts_from a p Lost f g = λ i. g 0 (unfold Held in i)
counts_from a p (Limited n) f g = (f n (omega arith), λ h. let l : suc n ≤ n = g (suc n) h in omega arith)
counts_from a p Unlimited f g = λ k. f k tt

module _ (a : Arena) (n : ℕ → Count) (f : ℕ → ℕ → ℕ) (s : ℕ → Option ℕ)
    (off : (p : ℕ) → (Place a p → ⊥) → n p ≡ Lost)
    (best : (p x : ℕ) → Place a p → x < 2 ^ a.inputs → Most (2 ^ a.outputs) (λ y. n (a.move p x y)) (f p x))
    (fol : (p : ℕ) → Place a p → Follows (n p) (2 ^ a.inputs) (λ x. n (a.move p x (f p x))) (s p)) where
  cases_place : (p : ℕ) → (Place a p) ⊎ (Place a p → ⊥)
  cases_place p = elim (cases_lt p 1) [
    | inl l ↦ inr (λ i. omega arith)
    | inr l ↦ elim (cases_lt a.size p) [ inl m ↦ inr (λ i. omega arith) | inr m ↦ inl (l, m) ]
  ]

  counted_place : (p k : ℕ) → AtMost (Limited k) (n p) → Place a p
  counted_place p k l = elim (cases_place p) [
    | inl i ↦ i
    | inr o ↦ absurd (unfold AtMost in subst (AtMost (Limited k)) (off p o) l)
  ]

  counted_held : (k p : ℕ) → AtMost (Limited k) (n p) → Held a k p
  unfolding Held
  counted_held zero p l = counted_place p 0 l
  counted_held (suc k) p l =
      let i = counted_place p (suc k) l in
      (i, λ x b. (f p x, (best p x i b).here, counted_held k _ (follows_down (n p) _ _ (s p) k (fol p i) l x b)))

  held_counted : (k p : ℕ) → Held a k p → AtMost (Limited k) (n p)
  unfolding Held
  held_counted zero p h = follows_some (n p) _ _ (s p) (fol p h)
  held_counted (suc k) p h =
      follows_up (n p) _ _ (s p) k (fol p h.0) (λ x b. let z = h.1 x b in at_most_trans (Limited k) _ _ (held_counted k _ z.2) ((best p x h.0 b).best z.0 z.1))

  pub true_counts : (p : ℕ) → Counts a p (n p)
  true_counts p = counts_from a p (n p) (λ k. counted_held k p) (λ k. held_counted k p)

  spoils_from : (c : Count) (m : ℕ) (g : ℕ → Count) (o : Option ℕ) → Follows c m g o → Spoils c m g o
  spoils_from Lost m g o h = absurd h
  spoils_from (Limited k) m g o h = (h.0, h.1, h.2)
  spoils_from Unlimited m g o h = h.0

  spoils_off : (c : Count) (m : ℕ) (g : ℕ → Count) (o : Option ℕ) → c ≡ Lost → o ≡ None → Spoils c m g o
  spoils_off Lost m g o e h = h
  spoils_off (Limited k) m g o e h = absurd (let z : ◌≡◌ {A = ℕ} 0 1 = cc in omega arith)
  spoils_off Unlimited m g o e h = h

  pub true_spoils : ((p : ℕ) → (Place a p → ⊥) → s p ≡ None) → (p : ℕ) → Spoils (n p) (2 ^ a.inputs) (λ x. n (a.move p x (f p x))) (s p)
  true_spoils none p = elim (cases_place p) [ inl i ↦ spoils_from _ _ _ _ (fol p i) | inr o ↦ spoils_off _ _ _ _ (off p o) (none p o) ]
