-- The best of several: there is one, only one, and a loop finds it.
use Rattle.std.proofs.Common.{◌≡◌, ℕ, zero, suc, ◌+◌, ◌<◌, ◌⊎◌, ◌∙◌, subst, inl, inr, arith}
use Rattle.std.proofs.lemmas.Bool.{cases_eq, cases_order}
use Rattle.terms.specs.Best.{Best}

-- what an order keeps
pub record Order {A : Type 0} (le : A → A → Type 0) : Type 0 where
  pub same : (c : A) → le c c
  pub trans : (c d e : A) → le c d → le d e → le c e
  pub decided : (c d : A) → (le c d) ⊎ (le c d → ⊥)
  pub total : (c d : A) → (le c d → ⊥) → le d c

-- the order the other way round
pub reversed : {A : Type 0} {le : A → A → Type 0} → Order le → Order (λ c d. le d c)
reversed o = record { same = o.same; trans = λ c d e h l. o.trans e d c l h; decided = λ c d. o.decided d c; total = λ c d. o.total d c }

pub best_once : {A : Type 0} {le : A → A → Type 0} {m : ℕ} {f : ℕ → A} {y z : ℕ} → Best le m f y → Best le m f z → y ≡ z
best_once {A} {le} {m} {f} {y} {z} s t = elim (cases_order y z) [
  | inl e ↦ e
  | inr o ↦ elim o [ inl l ↦ absurd (t.lowest y l (s.best z t.here)) | inr l ↦ absurd (s.lowest z l (t.best y s.here)) ]
]

-- the best of several is that of others that compare the same way
pub best_map : {A B : Type 0} {le : A → A → Type 0} {ge : B → B → Type 0} {m : ℕ} {f : ℕ → A} {g : ℕ → B} {y : ℕ} → ((i j : ℕ) → i < m → j < m → le (f i) (f j) → ge (g i) (g j)) → ((i j : ℕ) → i < m → j < m → ge (g i) (g j) → le (f i) (f j)) → Best le m f y → Best ge m g y
best_map {m} {y} to from h = record {
  here = h.here;
  best = λ z l. to z y l h.here (h.best z l);
  lowest = λ z l k. let i : z < m = omega (arith, h.here) in h.lowest z l (from y z h.here i k);
}

pub best_same : {A : Type 0} {le : A → A → Type 0} {m : ℕ} {f g : ℕ → A} {y : ℕ} → ((z : ℕ) → z < m → f z ≡ g z) → Best le m f y → Best le m g y
best_same e = best_map (λ i j l k h. rw (← e i l, ← e j k) h) (λ i j l k h. rw (e i l, e j k) h)

module _ {A : Type 0} {le : A → A → Type 0} (o : Order le) (f : ℕ → A) where
  -- ---- a loop that looks for it, from the first on

  pub best_one : Best le 1 f 0
  best_one = record { here = omega arith; best = λ z l. (let e : z ≡ 0 = omega arith in rw e (o.same (f 0))); lowest = λ z l. absurd (omega arith) }

  best_keeps : (i y : ℕ) → Best le i f y → le (f i) (f y) → Best le (i + 1) f y
  best_keeps i y h l = record {
    here = omega (arith, h.here);
    best = λ z m. elim (cases_eq z i) [ inl e ↦ rw e l | inr ne ↦ h.best z (omega arith) ];
    lowest = h.lowest;
  }

  best_takes : (i y : ℕ) → Best le i f y → (le (f i) (f y) → ⊥) → Best le (i + 1) f i
  best_takes i y h l = record {
    here = omega arith;
    best = λ z m. elim (cases_eq z i) [
      | inl e ↦ rw e (o.same (f i))
      | inr ne ↦ o.trans (f z) (f y) (f i) (h.best z (omega arith)) (o.total (f i) (f y) l)
    ];
    lowest = λ z m k. l (o.trans (f i) (f z) (f y) k (h.best z m));
  }

  -- its turn, with what it keeps: the place y and its value h, and r, the value at i
  module _ {i y y' : ℕ} {h r h' : A} where
    pub turn_takes : y' ≡ i → h' ≡ r → r ≡ f i → h ≡ f y → (le r h → ⊥) → Best le i f y → Best le (i + 1) f y' × (h' ≡ f y')
    turn_takes a b c d l t = rw a (best_takes i y t (λ k. l (rw (c, d) k)), b ∙ c)

    pub turn_keeps : y' ≡ y → h' ≡ h → r ≡ f i → h ≡ f y → le r h → Best le i f y → Best le (i + 1) f y' × (h' ≡ f y')
    turn_keeps a b c d l t = rw a (best_keeps i y t (rw (← c, ← d) l), b ∙ d)

  -- ---- there is one

  pub some_best : (n : ℕ) → (y : ℕ) × Best le (suc n) f y
  some_best zero = (0, best_one)
  some_best (suc n) =
      let g = some_best n in
      let e : suc n + 1 ≡ suc (suc n) = omega arith in
      elim (o.decided (f (suc n)) (f g.0)) [
        | inl h ↦ (g.0, subst (λ m. Best le m f g.0) e (best_keeps (suc n) g.0 g.1 h))
        | inr h ↦ (suc n, subst (λ m. Best le m f (suc n)) e (best_takes (suc n) g.0 g.1 h))
      ]
