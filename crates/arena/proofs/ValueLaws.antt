-- A game has values, and only one set of them; what a round costs.
use Rattle.std.proofs.Common.{◌≡◌, ℕ, zero, suc, ◌+◌, ◌-◌, ◌^◌, ◌<◌, Some, None, Option, sym, refl, ap, ◌∙◌, subst, inl, inr, arith, pow_pos}
use mathlib.Core.Path.{fun_ext}
use Rattle.terms.specs.declared.count.Count.{Count}
use Rattle.terms.specs.declared.count.Count.TheVariants.{Lost, Limited, Unlimited}
use Rattle.std.proofs.lemmas.Bool.{cases_lt}
use Rattle.arena.specs.Arena.{Arena, Place, Sound}
use Rattle.arena.specs.Held.{Held}
use Rattle.terms.specs.Order.{AtMost, plus, Most, Least}
use Rattle.arena.specs.Count.{Counts}
use Rattle.arena.specs.Values.{Spoils, Values}
use Rattle.arena.proofs.HeldLaws.{held_place}
use Rattle.terms.proofs.BestLaws.{reversed, some_best, best_once, best_same}
use Rattle.terms.proofs.OrderLaws.{count_order, plus_at_most}
use Rattle.arena.proofs.CountLaws.{held_counts, always_counts, at_most_held, unheld_counts, counts_once, counted}

-- ---- they exist

-- among as many as a power of two there is a best and a worst
most_of : (i : ℕ) (f : ℕ → Count) → (y : ℕ) × Most (2 ^ i) f y
most_of i f =
    let e : suc (2 ^ i - 1) ≡ 2 ^ i = omega (arith, pow_pos i) in
    subst (λ m. (y : ℕ) × Most m f y) e (some_best count_order f (2 ^ i - 1))

least_of : (i : ℕ) (f : ℕ → Count) → (x : ℕ) × Least (2 ^ i) f x
least_of i f =
    let e : suc (2 ^ i - 1) ≡ 2 ^ i = omega (arith, pow_pos i) in
    subst (λ m. (x : ℕ) × Least m f x) e (some_best (reversed count_order) f (2 ^ i - 1))

some_spoils : (c : Count) (i : ℕ) (f : ℕ → Count) → (s : Option ℕ) × Spoils c (2 ^ i) f s
some_spoils Lost i f = (None, refl)
some_spoils (Limited k) i f = let g = least_of i f in (Some g.0, (g.0, refl, g.1))
some_spoils Unlimited i f = (None, refl)

pub values : (a : Arena) → Values a
values a =
    let n : ℕ → Count = λ p. (counted a p).0 in
    let f : ℕ → ℕ → ℕ = λ p x. (most_of a.outputs (λ y. n (a.move p x y))).0 in
    record {
      count = n;
      answer = f;
      spoiling = λ p. (some_spoils (n p) a.inputs (λ x. n (a.move p x (f p x)))).0;
      counts = λ p. (counted a p).1;
      answers = λ p x _ _. (most_of a.outputs (λ y. n (a.move p x y))).1;
      spoils = λ p. (some_spoils (n p) a.inputs (λ x. n (a.move p x (f p x)))).1;
    }

-- ---- they are unique

module _ {a : Arena} (v w : Values a) where
  pub one_count : v.count ≡ w.count
  one_count = fun_ext (λ p. counts_once a p (v.count p) (w.count p) (v.counts p) (w.counts p))

  pub one_answer : (p x : ℕ) → Place a p → x < 2 ^ a.inputs → v.answer p x ≡ w.answer p x
  one_answer p x h l =
      best_once (subst (λ n. Most (2 ^ a.outputs) (λ y. n (a.move p x y)) (v.answer p x)) one_count (v.answers p x h l)) (w.answers p x h l)

spoils_once : (c : Count) (m : ℕ) (f g : ℕ → Count) (s t : Option ℕ) → ((z : ℕ) → z < m → f z ≡ g z) → Spoils c m f s → Spoils c m g t → s ≡ t
spoils_once Lost m f g s t e h k = h ∙ sym k
spoils_once (Limited n) m f g s t e h k = h.1 ∙ ap Some (best_once (best_same e h.2) k.2) ∙ sym k.1
spoils_once Unlimited m f g s t e h k = h ∙ sym k

module _ {a : Arena} (v w : Values a) where
  pub one_spoiling : (p : ℕ) → Place a p → v.spoiling p ≡ w.spoiling p
  one_spoiling p h =
      let e = one_count v w in
      let n : v.count p ≡ w.count p = ap (λ f. f p) e in
      spoils_once (w.count p) (2 ^ a.inputs) (λ x. v.count (a.move p x (v.answer p x))) (λ x. w.count (a.move p x (w.answer p x))) _ _
      (λ x l. ap (λ f. f (a.move p x (v.answer p x))) e ∙ ap (λ y. w.count (a.move p x y)) (one_answer v w p x h l))
      (subst (λ c. Spoils c (2 ^ a.inputs) (λ x. v.count (a.move p x (v.answer p x))) (v.spoiling p)) n (v.spoils p))
      (w.spoils p)

-- ---- what a round costs

zero_plus : (c : Count) → AtMost (Limited 0) (plus c 1)
unfolding AtMost plus
zero_plus Lost = omega arith
zero_plus (Limited k) = omega arith
zero_plus Unlimited = tt

module _ {a : Arena} (v : Values a) where
  -- where some output keeps to what is held for k, the answer does
  pub answer_keeps : (p x k z : ℕ) → Place a p → x < 2 ^ a.inputs → z < 2 ^ a.outputs → Held a k (a.move p x z) → Held a k (a.move p x (v.answer p x))
  answer_keeps p x k z h l m =
      at_most_held a (a.move p x z) _ _ _ (v.counts _) (v.counts _) ((v.answers p x h l).best z m) k

  answer_held : (p x k : ℕ) → x < 2 ^ a.inputs → Held a (suc k) p → Held a k (a.move p x (v.answer p x))
  unfolding Held
  answer_held p x k l h = let z = h.1 x l in answer_keeps p x k z.0 h.0 l z.1 z.2

  costs_one : (p x : ℕ) (c : Count) → x < 2 ^ a.inputs → Counts a p c → AtMost c (plus (v.count (a.move p x (v.answer p x))) 1)
  unfolding Counts
  costs_one p x Lost l m = unfold AtMost in tt
  costs_one p x (Limited zero) l m = zero_plus (v.count (a.move p x (v.answer p x)))
  costs_one p x (Limited (suc k)) l m =
      let e : plus (Limited k) 1 ≡ Limited (suc k) = (unfold plus in (let e : k + 1 ≡ suc k = omega arith in ap Limited e)) in
      subst (λ c. AtMost c (plus (v.count (a.move p x (v.answer p x))) 1)) e
      (plus_at_most (Limited k) _ 1 (held_counts a _ k _ (v.counts _) (answer_held p x k l m.0)))
  costs_one p x Unlimited l m =
      unfold plus in plus_at_most Unlimited _ 1 (always_counts a _ _ (v.counts _) (λ k. answer_held p x k l (m (suc k))))

  -- by the answer, a round costs one at most
  pub answer_costs : (p x : ℕ) → x < 2 ^ a.inputs → AtMost (v.count p) (plus (v.count (a.move p x (v.answer p x))) 1)
  answer_costs p x l = costs_one p x (v.count p) l (v.counts p)

  -- were the answer to the spoiling input held for k, so would be every answer, and the position for one more
  spoils_unheld : (p k x y : ℕ) → Counts a p (Limited k) → Least (2 ^ a.inputs) (λ z. v.count (a.move p z (v.answer p z))) x → y < 2 ^ a.outputs → Held a k (a.move p x y) → ⊥
  unfolding Counts Held
  spoils_unheld p k x y m s l h =
      let here = held_place a k p m.0 in
      m.1 (
        here,
        λ z i. (
          v.answer p z,
          (v.answers p z here i).here,
          at_most_held a _ _ _ _ (v.counts _) (v.counts _) (s.best z i) k (answer_keeps p x k y here s.here l h),
        ),
      )

  spoiled_by : (c : Count) (m : ℕ) (f : ℕ → Count) (s : Option ℕ) (x : ℕ) → s ≡ Some x → Spoils c m f s → (k : ℕ) × (c ≡ Limited k) × Least m f x
  spoiled_by Lost m f s x e h = absurd (let z : ◌≡◌ {A = ℕ} 0 1 = cc (e, h) in omega arith)
  spoiled_by (Limited k) m f s x e h = (k, refl, (let d : h.0 ≡ x = cc (e, h.1) in subst (Least m f) d h.2))
  spoiled_by Unlimited m f s x e h = absurd (let z : ◌≡◌ {A = ℕ} 0 1 = cc (e, h) in omega arith)

  -- under the spoiling input, a round costs one at least, whatever the output
  pub spoils_costs : Sound a → (p x y : ℕ) → v.spoiling p ≡ Some x → AtMost (plus (v.count (a.move p x y)) 1) (v.count p)
  spoils_costs s p x y e =
      let g = spoiled_by _ _ _ _ x e (v.spoils p) in
      let m : Counts a p (Limited g.0) = subst (Counts a p) g.1 (v.counts p) in
      rw g.1 (unheld_counts a (a.move p x y) g.0 _ (v.counts _) (λ h. elim (cases_lt y (2 ^ a.outputs)) [
        | inl l ↦ spoils_unheld p g.0 x y m g.2 l h
        | inr l ↦ (let z = s.walks.past_output p x y l in let i = held_place a g.0 _ h in omega arith)
      ]))
