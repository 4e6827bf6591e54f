-- Each position has exactly one count.
use Rattle.std.proofs.Common.{◌≡◌, ℕ, zero, suc, ◌≤◌, refl, ap, inl, inr, arith}
use Rattle.std.proofs.lemmas.Bool.{cases_Bool, cases_lt}
use Rattle.std.proofs.lemmas.Bool.Decides.{not_from_Decides}
use Rattle.terms.specs.declared.count.Count.{Count}
use Rattle.terms.specs.declared.count.Count.TheVariants.{Lost, Limited, Unlimited}
use Rattle.arena.specs.Arena.{Arena}
use Rattle.arena.specs.Held.{Held, Settled}
use Rattle.terms.specs.Order.{AtMost, plus}
use Rattle.arena.specs.Count.{Counts}
use Rattle.arena.proofs.HeldLaws.{held, held_decides, held_place, held_down, settled_stays}
use Rattle.arena.proofs.SettleLaws.{settles}

no_more : (a : Arena) (k j p : ℕ) → (Held a (suc k) p → ⊥) → Held a j p → j ≤ k
no_more a k j p n h = elim (cases_lt k j) [ inl l ↦ absurd (n (held_down a (suc k) j p l h)) | inr l ↦ l ]

-- what is held for k counts at least k
pub held_counts : (a : Arena) (p k : ℕ) (c : Count) → Counts a p c → Held a k p → AtMost (Limited k) c
unfolding Counts AtMost
held_counts a p k Lost m h = absurd (m (held_place a k p h))
held_counts a p k (Limited j) m h = no_more a j k p m.1 h
held_counts a p k Unlimited m h = tt

-- and what counts at least k is held for k
pub counts_held : (a : Arena) (p k : ℕ) (c : Count) → Counts a p c → AtMost (Limited k) c → Held a k p
unfolding Counts AtMost
counts_held a p k Lost m h = absurd h
counts_held a p k (Limited j) m h = held_down a k j p h m.0
counts_held a p k Unlimited m h = m k

-- what is held for every number of rounds is unlimited
pub always_counts : (a : Arena) (p : ℕ) (c : Count) → Counts a p c → ((k : ℕ) → Held a k p) → AtMost Unlimited c
unfolding Counts AtMost
always_counts a p Lost m h = absurd (m (held_place a 0 p (h 0)))
always_counts a p (Limited j) m h = absurd (m.1 (h (suc j)))
always_counts a p Unlimited m h = tt

-- a greater count is held for as long
pub at_most_held : (a : Arena) (q r : ℕ) (c d : Count) → Counts a q c → Counts a r d → AtMost c d → (k : ℕ) → Held a k q → Held a k r
unfolding Counts AtMost
at_most_held a q r Lost d m n l k h = absurd (m (held_place a k q h))
at_most_held a q r (Limited i) Lost m n l k h = absurd l
at_most_held a q r (Limited i) (Limited j) m n l k h = held_down a k j r (omega (arith, no_more a i k q m.1 h)) n.0
at_most_held a q r (Limited i) Unlimited m n l k h = n k
at_most_held a q r Unlimited Lost m n l k h = absurd l
at_most_held a q r Unlimited (Limited j) m n l k h = absurd l
at_most_held a q r Unlimited Unlimited m n l k h = n k

-- what is not held for k counts less
pub unheld_counts : (a : Arena) (p k : ℕ) (c : Count) → Counts a p c → (Held a k p → ⊥) → AtMost (plus c 1) (Limited k)
unfolding Counts AtMost plus
unheld_counts a p k Lost m h = omega arith
unheld_counts a p k (Limited j) m h = elim (cases_lt j k) [ inl l ↦ omega arith | inr l ↦ absurd (h (held_down a k j p l m.0)) ]
unheld_counts a p k Unlimited m h = absurd (h (m k))

pub counts_once : (a : Arena) (p : ℕ) (c d : Count) → Counts a p c → Counts a p d → c ≡ d
unfolding Counts
counts_once a p Lost Lost m n = refl
counts_once a p Lost (Limited j) m n = absurd (m (held_place a j p n.0))
counts_once a p Lost Unlimited m n = absurd (m (held_place a 0 p (n 0)))
counts_once a p (Limited k) Lost m n = absurd (n (held_place a k p m.0))
counts_once a p (Limited k) (Limited j) m n =
    let e : k ≡ j = omega (arith, no_more a k j p m.1 n.0, no_more a j k p n.1 m.0) in ap Limited e
counts_once a p (Limited k) Unlimited m n = absurd (m.1 (n (suc k)))
counts_once a p Unlimited Lost m n = absurd (n (held_place a 0 p (m 0)))
counts_once a p Unlimited (Limited j) m n = absurd (n.1 (m (suc j)))
counts_once a p Unlimited Unlimited m n = refl

-- the count of what is not held for k
below_count : (a : Arena) (p k : ℕ) → (Held a k p → ⊥) → (c : Count) × Counts a p c
unfolding Counts Held
below_count a p zero n = (Lost, n)
below_count a p (suc k) n = elim (cases_Bool (held a k p)) [
  | inl e ↦ (Limited k, ((held_decides a k p).0 e, n))
  | inr e ↦ below_count a p k (not_from_Decides (held a k p) (held_decides a k p) e)
]

count_at : (a : Arena) (k : ℕ) → Settled a k → (p : ℕ) → (c : Count) × Counts a p c
unfolding Counts
count_at a k s p = elim (cases_Bool (held a k p)) [
  | inl e ↦ (Unlimited, λ j. settled_stays a k s j p ((held_decides a k p).0 e))
  | inr e ↦ below_count a p k (not_from_Decides (held a k p) (held_decides a k p) e)
]

pub counted : (a : Arena) (p : ℕ) → (c : Count) × Counts a p c
counted a p = let s = settles a in count_at a s.0 s.2 p
