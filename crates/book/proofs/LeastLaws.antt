-- The item that `min_by_key` picks of a range is the best, and the lowest on ties.
use Rattle.std.proofs.Common.{◌≡◌, ℕ, zero, suc, ◌+◌, ◌-◌, ◌<◌, ◌≤◌, List, [], ◌∷◌, Option, Some, None, unwrap_or, map, refl, sym, ap, ◌∙◌, subst, arith}
use denote.Ref.{Bor}
use denote.Param.Members.{Mut}
use Rattle.std.specs.Fn.{CalledAt}
use Rattle.std.specs.List.{range_with_len, FoldsTo}
use Rattle.std.specs.Iterator.{KeyTurn, PicksMinByKey, Drains}
use Rattle.std.proofs.lemmas.Iterator.{YieldsList, items_from_drains}
use Rattle.std.specs.Cmp.{IsTotalOrder}
use Rattle.std.specs.declared.cmp.Ordering.{Ordering}
use Rattle.std.specs.declared.cmp.Ordering.TheVariants.{Less, Equal, Greater}
use Rattle.std.specs.Ordering.{min_by_ordering}
use Rattle.terms.specs.Best.{Best}
use Rattle.terms.proofs.BestLaws.{Order, reversed, best_one, turn_takes, turn_keeps}
use Rattle.book.specs.Picking.{UpTo}
use Rattle.book.proofs.PickLaws.{up_to, up_to_of, not_up_to_of}

module _ {F K : Type 0} (g : Mut F (Bor ℕ × Unit {0}) K) (C : K → K → Option Ordering) (R : K → K → Ordering) (same : (x y : K) → C x y ≡ Some (R x y)) (total : IsTotalOrder R)
    (key : F) (f : ℕ → K) (n : ℕ) (calls : (x : ℕ) (r : K) (q : F) → x < n → CalledAt g key x r q → (q ≡ key) × (r ≡ f x)) where
  abbrev le : K → K → Type 0
  le c d = UpTo C d c

  order : Order le
  order = reversed (up_to C R same total)

  -- one turn, by what the comparison answered
  turn : (o : Ordering) (i y z : ℕ) (h k l : K) → R h k ≡ o → k ≡ f i → h ≡ f y → l ≡ min_by_ordering o h k → z ≡ min_by_ordering o y i → Best le i f y → Best le (i + 1) f z × (l ≡ f z)
  turn Less i y z h k l e a b d w t = turn_keeps order f w d a b (up_to_of C R same h k (λ x. cc)) t
  turn Equal i y z h k l e a b d w t = turn_keeps order f w d a b (up_to_of C R same h k (λ x. cc)) t
  turn Greater i y z h k l e a b d w t = turn_takes order f w d a b (not_up_to_of C R same h k e) t

  turns : (m i : ℕ) (xs : List ℕ) (p q : (F × K) × ℕ) → xs ≡ range_with_len i m → i + m ≤ n → FoldsTo (KeyTurn min_by_ordering min_by_ordering g R) p xs q → p.0.0 ≡ key → p.0.1 ≡ f p.1 → Best le i f p.1 → Best le (i + m) f q.1
  turns zero i [] p q e l h a b t = let z : i ≡ i + 0 = omega arith in subst (λ j. Best le j f q.1) z (subst (λ s. Best le i f s.1) h t)
  turns zero i (x ∷ xs) p q e l h a b t = absurd (let z : ◌≡◌ {A = ℕ} 0 1 = cc in omega arith)
  turns (suc m) i [] p q e l h a b t = absurd (let z : ◌≡◌ {A = ℕ} 0 1 = cc in omega arith)
  turns (suc m) i (x ∷ xs) p q e l h a b t =
      let here : x ≡ i = cc e in
      let rest : xs ≡ range_with_len (i + 1) m = cc e in
      let s = h.1 in
      let w = calls x s.0 h.0.0.0 (omega arith) (subst (λ u. CalledAt g u x s.0 h.0.0.0) a s.2) in
      let next = turn s.1 i p.1 h.0.1 p.0.1 s.0 h.0.0.1 s.3 (w.1 ∙ ap f here) b s.4 (s.5 ∙ ap (min_by_ordering s.1 p.1) here) t in
      let z : (i + 1) + m ≡ i + suc m = omega arith in
      subst (λ j. Best le j f q.1) z (turns m (i + 1) xs h.0 q rest (omega arith) h.2 w.0 next.1 next.0)

  least_picked : {S : Type 0} (steps : S → Option ℕ → S → Type 0) (s : S) → ((ys : List ℕ) → Drains steps s ys → ys ≡ range_with_len 0 n) → (m : ℕ) → n ≡ suc m → (o : Option ℕ) → PicksMinByKey steps g R s key o → Best le n f (unwrap_or o 0)
  least_picked steps s all m e None h = absurd (let z : ◌≡◌ {A = ℕ} 0 1 = cc (all [] h, e) in omega arith)
  least_picked steps s all m e (Some y) h =
      let items : h.0 ∷ h.1 ≡ range_with_len 0 (suc m) = all (h.0 ∷ h.1) h.5 ∙ ap (range_with_len 0) e in
      let first : h.0 ≡ 0 = cc items in
      let rest : h.1 ≡ range_with_len 1 m = cc items in
      let w = calls h.0 h.2 h.3 (omega arith) h.6 in
      let z : 1 + m ≡ n = omega arith in
      subst (λ j. Best le j f y) z (turns m 1 h.1 ((h.3, h.2), h.0) (h.4, y) rest (omega arith) h.7 w.0 w.1 (subst (Best le 1 f) (sym first) (best_one order f)))

map_same : (xs : List ℕ) → map (λ x. x) xs ≡ xs
map_same [] = refl
map_same (x ∷ xs) = ap (λ t. x ∷ t) (map_same xs)

drained : {S : Type 0} {steps : S → Option ℕ → S → Type 0} {s : S} {all : List ℕ} (ys : List ℕ) → YieldsList steps (λ x. x) s all → Drains steps s ys → ys ≡ all
drained ys y d = sym (map_same ys) ∙ items_from_drains ys (d.1.0, d.1.1, λ _. (d.0, d.1.2)) y

pub least_by_key : {F K S : Type 0} {steps : S → Option ℕ → S → Type 0} {g : Mut F (Bor ℕ × Unit {0}) K} {C : K → K → Option Ordering} {R : K → K → Ordering} {s : S} {key : F} (o : Option ℕ) → PicksMinByKey steps g R s key o → ((x y : K) → C x y ≡ Some (R x y)) → IsTotalOrder R → (f : ℕ → K) (n : ℕ) → 1 ≤ n → YieldsList steps (λ x. x) s (range_with_len 0 n) → ((x : ℕ) (r : K) (q : F) → x < n → CalledAt g key x r q → (q ≡ key) × (r ≡ f x)) → Best (λ c d. UpTo C d c) n f (unwrap_or o 0)
least_by_key {steps} {g} {C} {R} {s} {key} o h same total f n l y calls =
    let e : n ≡ suc (n - 1) = omega arith in
    least_picked g C R same total key f n calls steps s (λ ys. drained ys y) (n - 1) e o h
