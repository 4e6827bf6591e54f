-- The ranks that the solver keeps.
use Rattle.std.proofs.Common.{◌≡◌, ℕ, zero, suc, ◌+◌, ◌-◌, ◌<◌, ◌≤◌, Bool, true, false, Decides, ◌≢◌, List, ◌∷◌, ◌++◌, length, get_or, drop, set, replicate, sym, ap, subst, ◌∙◌, inl, inr, arith, get_or-set_other, get_or-set_same}
use Rattle.std.proofs.lemmas.List.{get_or_past, get_or-drop, get_or_append_left, get_or-append_right, get_or-replicate, length-replicate}
use Rattle.std.proofs.lemmas.Bool.{false≢true, cases_Bool, cases_eq, cases_lt, le-leb, lt-leb}
use Rattle.terms.specs.declared.count.Count.TheVariants.{Limited, Unlimited}
use Rattle.arena.specs.Arena.{Arena, Place}
use Rattle.arena.specs.Held.{Held, Keeps, Settled}
use Rattle.arena.specs.Count.{Counts}
use Rattle.arena.proofs.HeldLaws.{held_place, held_down, settled_stays}
use Rattle.arena.specs.Values.{Values}
use Rattle.arena.proofs.CountLaws.{counts_once}
use Rattle.book.specs.Ranks.{Tells, Ranks, Amid, Over, count_of, counts_of}

-- ---- the start

pub tells_place : (a : Arena) (q : ℕ) → Place a q → Tells a 0 q 1
unfolding Held
tells_place a q h = record { most = omega arith; below = λ j l. (let e : j ≡ 0 = omega arith in rw e h); above = λ j l m. absurd (omega arith) }

pub tells_lost : (a : Arena) (k q : ℕ) → (Place a q → ⊥) → Tells a k q 0
tells_lost a k q h = record { most = omega arith; below = λ j l. absurd (omega arith); above = λ j l m n. h (held_place a j q n) }

-- the ranks before the first sweep: 0 for lost, 1 for each position, and 0 behind them
pub begun : (a : Arena) (ys zs : List ℕ) (n m : ℕ) → ys ≡ replicate n 1 → n ≡ a.size → ((k : ℕ) → get_or zs k 0 ≡ 0) → Ranks a 0 (0 ∷ (ys ++ drop m zs))
begun a ys zs n m e f z zero = tells_lost a 0 0 (λ i. omega arith)
begun a ys zs n m e f z (suc q) =
    let long : length ys ≡ n = ap length e ∙ length-replicate n 1 in
    elim (cases_lt q n) [
      | inl l ↦ subst (Tells a 0 (suc q)) (sym (get_or_append_left ys (drop m zs) 0 q (omega arith) ∙ ap (λ t. get_or t q 0) e ∙ get_or-replicate n q 1 0 l)) (tells_place a (suc q) (omega arith, omega arith))
      | inr l ↦ subst (Tells a 0 (suc q)) (sym (get_or-append_right ys (drop m zs) n q 0 long l ∙ get_or-drop m zs (q - n) 0 ∙ z (m + (q - n)))) (tells_lost a 0 (suc q) (λ i. omega arith))
    ]

abbrev pub zeros : ℕ → List ℕ
zeros n = replicate n 0

pub all_zero : (n k : ℕ) → get_or (zeros n) k 0 ≡ 0
all_zero n k =
    let long : length (zeros n) ≡ n = length-replicate {A = ℕ} n 0 in
    elim (cases_lt k n) [ inl l ↦ get_or-replicate n k 0 0 l | inr l ↦ get_or_past (zeros n) k 0 (omega arith) ]

-- ---- a sweep

-- a rank after k sweeps that is not above k stays
tells_stays : (a : Arena) (k q r : ℕ) → r ≤ k → Tells a k q r → Tells a (suc k) q r
tells_stays a k q r l t = record { most = omega arith; below = t.below; above = λ j m i h. t.above k l (omega arith) (held_down a k j q (elim (cases_lt j k) [ inl s ↦ absurd (t.above j m (omega arith) h) | inr s ↦ s ]) h) }

-- nothing held for k + 1 leaves the rank as it is
tells_same : (a : Arena) (k q r : ℕ) → (Held a (suc k) q → ⊥) → Tells a k q r → Tells a (suc k) q r
tells_same a k q r n t = record { most = omega (arith, t.most); below = t.below; above = λ j m i h. elim (cases_eq j (suc k)) [ inl e ↦ n (rw e at h) | inr ne ↦ t.above j m (omega arith) h ] }

tells_raised : (a : Arena) (k q : ℕ) → Held a (suc k) q → Tells a (suc k) q (k + 2)
tells_raised a k q h = record { most = omega arith; below = λ j l. held_down a j (suc k) q (omega arith) h; above = λ j l m. absurd (omega arith) }

tells_over : (a : Arena) (k i q r : ℕ) → k ≤ i → Tells a i q r → (k < r → Held a k q) × (Held a k q → k < r)
tells_over a k i q r l t = (t.below k, λ h. elim (cases_lt k r) [ inl m ↦ m | inr m ↦ absurd (t.above k m l h) ])

module _ {a : Arena} {k p : ℕ} {rs : List ℕ} (m : Amid a k p rs) where
  over_held : (q : ℕ) → (Over rs k q → Held a k q) × (Held a k q → Over rs k q)
  over_held q = elim (cases_lt q p) [
    | inl l ↦ tells_over a k (suc k) q _ (omega arith) (m.done q l)
    | inr l ↦ tells_over a k k q _ (omega arith) (m.ahead q l)
  ]

  keeps_held : Place a p → Keeps a (Over rs k) p → Held a (suc k) p
  unfolding Held
  keeps_held h s = (h, λ x l. let y = s x l in (y.0, y.1, (over_held _).0 y.2))

  held_keeps : Held a (suc k) p → Keeps a (Over rs k) p
  unfolding Held
  held_keeps h x l = let y = h.1 x l in (y.0, y.1, (over_held _).1 y.2)

  amid_same : Tells a (suc k) p (get_or rs p 0) → Amid a k (p + 1) rs
  amid_same t = record {
    done = λ q l. elim (cases_eq q p) [ inl e ↦ rw e t | inr ne ↦ m.done q (omega arith) ];
    ahead = λ q l. m.ahead q (omega arith);
  }

  -- p was dropped before
  pub raise_low : get_or rs p 0 ≤ k → Amid a k (p + 1) rs
  raise_low l = amid_same (tells_stays a k p _ l (m.ahead p (omega arith)))

  -- p is held for k + 1
  pub raise_kept : Place a p → p < length rs → {r : Bool} → Decides r (Keeps a (Over rs k) p) → r ≡ true → Amid a k (p + 1) (set rs p (k + 2)) × Decides r (Held a k p → Held a (suc k) p)
  raise_kept h i s e = (
    record {
      done = λ q l. elim (cases_eq q p) [
        | inl z ↦ rw z (rw (get_or-set_same rs p (k + 2) 0 i) (tells_raised a k p (keeps_held h (s.0 e))))
        | inr ne ↦ rw (get_or-set_other rs p q (k + 2) 0 ne) (m.done q (omega arith))
      ];
      ahead = λ q l. let ne : q ≢ p = omega arith in rw (get_or-set_other rs p q (k + 2) 0 ne) (m.ahead q (omega arith));
    },
    ((λ _ _. keeps_held h (s.0 e)), λ _. e),
  )

  -- p is dropped
  pub raise_dropped : k < get_or rs p 0 → {r : Bool} → Decides r (Keeps a (Over rs k) p) → r ≡ false → Amid a k (p + 1) rs × Decides r (Held a k p → Held a (suc k) p)
  raise_dropped l s e = (
    amid_same (tells_same a k p _ (λ h. false≢true (sym e ∙ s.1 (held_keeps h))) (m.ahead p (omega arith))),
    ((λ t. absurd (false≢true (sym e ∙ t))), λ h. s.1 (held_keeps (h ((m.ahead p (omega arith)).below k l)))),
  )

pub amid_none : (a : Arena) (k : ℕ) (rs : List ℕ) → Ranks a k rs → Amid a k 1 rs
amid_none a k rs h = record {
  done = λ q l. tells_same a k q _ (λ i. omega (arith, held_place a (suc k) q i)) (h q);
  ahead = λ q _. h q;
}

-- when the sweep has come to the end
pub swept : (a : Arena) (k p : ℕ) (rs : List ℕ) (none : Bool) → a.size < p → Amid a k p rs → (none ≡ true → (q : ℕ) → q < p → Held a k q → Held a (suc k) q) → (none ≡ false → Settled a k → ⊥) → Ranks a (suc k) rs × Decides none (Settled a k)
swept a k p rs none l m kept dropped = (
  λ q. elim (cases_lt q p) [
    | inl i ↦ m.done q i
    | inr i ↦ tells_same a k q _ (λ h. omega (arith, held_place a (suc k) q h)) (m.ahead q i)
  ],
  (
    (λ t q h. kept t q (omega (arith, held_place a k q h)) h),
    λ s. elim (cases_Bool none) [ inl t ↦ t | inr f ↦ absurd (dropped f s) ],
  ),
)

-- ---- counts

count_top : (top r : ℕ) → 1 ≤ r → top ≤ r → count_of top r ≡ Unlimited
unfolding count_of
count_top top zero h l = absurd (omega arith)
count_top top (suc r) h l = rw (le-leb top (suc r) l)

count_low : (top r : ℕ) → suc r < top → count_of top (suc r) ≡ Limited r
unfolding count_of
count_low top r l = rw (lt-leb top (suc r) l)

count_right : (a : Arena) (k q r : ℕ) → Settled a k → Tells a (suc k) q r → Counts a q (count_of (k + 2) r)
unfolding Counts
count_right a k q zero s t = unfold count_of in λ h. t.above 0 (omega arith) (omega arith) (unfold Held in h)
count_right a k q (suc r) s t = elim (cases_lt (suc r) (k + 2)) [
  | inl l ↦ rw (count_low (k + 2) r l) (t.below r (omega arith), t.above (suc r) (omega arith) (omega arith))
  | inr l ↦ rw (count_top (k + 2) (suc r) (omega arith) l) (λ j. settled_stays a k s j q (t.below k (omega arith)))
]

-- when the sweeps are over, the ranks are the counts
pub settled_counts : (a : Arena) (k : ℕ) (rs : List ℕ) → Settled a k → Ranks a (suc k) rs → (v : Values a) (q : ℕ) → v.count q ≡ counts_of (k + 2) rs q
settled_counts a k rs s h v q = counts_once a q _ _ (v.counts q) (count_right a k q _ s (h q))
