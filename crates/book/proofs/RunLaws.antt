-- What `all` and `any` decide over a range.
use Rattle.std.proofs.Common.{◌≡◌, ℕ, ◌+◌, ◌-◌, ◌<◌, ◌≤◌, Bool, true, false, Option, Some, None, Decides, IsTrue, IsSomeAnd, IfSome, MatchBool, refl, ap, ◌∙◌, subst, arith}
use denote.Param.Members.{Mut, Called}
use Rattle.std.specs.Option.{option_map}
use Rattle.std.specs.declared.ops.RangeInclusive.{RangeInclusive}
use Rattle.std.specs.Range.{range_inclusive_start, range_inclusive_end, range_inclusive_exhausted}
use Rattle.std.specs.Iterator.Runs.{Run, SomeRun, ItemsCountUp, CallKeepsClosure, AllItemsGive, AnyItemGives}
use Rattle.std.proofs.iter.Yields.{nat_range_steps}
use Rattle.std.proofs.iter.runs.Sources.{range_runs, nat_range_inclusive_steps, inclusive_listed}
use Rattle.std.proofs.lemmas.Bool.{false≢true}
use Rattle.std.proofs.lemmas.Bool.Decides.{Decides-like}

some_at : {A : Type 0} (o : Option A) (x : A) (Q : A → Type 0) → option_map (λ y. y) o ≡ Some x → IfSome o Q → Q x
some_at None x Q e h = cc
some_at (Some y) x Q e h = let d : y ≡ x = cc in subst Q d h

both_at : {A : Type 0} (o : Option A) (Q R : A → Type 0) → IsSomeAnd o Q → IfSome o R → (x : A) × Q x × R x
both_at None Q R q h = absurd q
both_at (Some y) Q R q h = (y, q, h)

module _ {S F : Type 0} {steps : S → Option ℕ → S → Type 0} {g : Mut F (ℕ × Unit {0}) Bool} {f : F} (p : Run steps) (a b : ℕ) (up : ItemsCountUp p a b) (keeps : CallKeepsClosure g f)
    (P : ℕ → Type 0) (calls : (x : ℕ) (r : Bool) → Called g f (x, tt) r f → Decides r (P x)) where
  all_run : (r : Bool) → MatchBool r (IsTrue p.whole × AllItemsGive p g f true) (AnyItemGives p g f false) → Decides r ((x : ℕ) → a ≤ x → x < b → P x)
  all_run true h = (
    λ _ x l m.
        let e : a + (x - a) ≡ x = omega arith in
        let here = some_at (p.at (x - a)) x (λ y. Called g f (y, tt) true f) (up.3 (x - a) (omega (arith, up.1 h.0)) ∙ ap Some e) (h.1 keeps (x - a)) in
        (calls x true here).0 refl,
    λ _. refl,
  )
  all_run false h = (
    λ e. absurd (false≢true e),
    λ all.
        let k = h keeps in
        let w = both_at (p.at k.0) (λ y. Called g f (y, tt) false f) _ k.2 (up.2 k.0) in
        absurd (false≢true ((calls w.0 false w.1).1 (all w.0 (omega (arith, w.2.0)) w.2.1))),
  )

  any_run : (r : Bool) → MatchBool r (AnyItemGives p g f true) (IsTrue p.whole × AllItemsGive p g f false) → Decides r ((x : ℕ) × (a ≤ x) × (x < b) × P x)
  any_run true h = (
    λ _.
        let k = h keeps in
        let w = both_at (p.at k.0) (λ y. Called g f (y, tt) true f) _ k.2 (up.2 k.0) in
        (w.0, omega (arith, w.2.0), w.2.1, (calls w.0 true w.1).0 refl),
    λ _. refl,
  )
  any_run false h = (
    λ e. absurd (false≢true e),
    λ w.
        let e : a + (w.0 - a) ≡ w.0 = omega (arith, w.1) in
        let here = some_at (p.at (w.0 - a)) w.0 (λ y. Called g f (y, tt) false f) (up.3 (w.0 - a) (omega (arith, up.1 h.0, w.1, w.2)) ∙ ap Some e) (h.1 keeps (w.0 - a)) in
        (calls w.0 false here).1 w.3,
  )

module _ {F : Type 0} {g : Mut F (ℕ × Unit {0}) Bool} {f : F} {r : Bool} {P : ℕ → Type 0} where
  -- what `all` decides over 0..m
  pub all_below : {m n : ℕ} → SomeRun nat_range_steps (record { start = 0; end = m }) (λ p. MatchBool r (IsTrue p.whole × AllItemsGive p g f true) (AnyItemGives p g f false)) → m ≡ n → CallKeepsClosure g f → ((x : ℕ) (q : Bool) → Called g f (x, tt) q f → Decides q (P x)) → Decides r ((x : ℕ) → x < n → P x)
  all_below {m} run e keeps calls =
      let up = subst (λ s. ItemsCountUp run.0 s.start s.end) run.1 (range_runs run.0 run.0.seen) in
      Decides-like r (λ t x l. t x (omega arith) (omega arith)) (λ t x l i. t x (omega arith)) (all_run run.0 0 m up keeps P calls r run.2)

  -- what `any` decides over 0..m
  pub any_below : {m n : ℕ} → SomeRun nat_range_steps (record { start = 0; end = m }) (λ p. MatchBool r (AnyItemGives p g f true) (IsTrue p.whole × AllItemsGive p g f false)) → m ≡ n → CallKeepsClosure g f → ((x : ℕ) (q : Bool) → Called g f (x, tt) q f → Decides q (P x)) → Decides r ((x : ℕ) × (x < n) × P x)
  any_below {m} run e keeps calls =
      let up = subst (λ s. ItemsCountUp run.0 s.start s.end) run.1 (range_runs run.0 run.0.seen) in
      Decides-like r (λ w. (w.0, omega (arith, w.2), w.3)) (λ w. (w.0, omega arith, omega (arith, w.1), w.2)) (any_run run.0 0 m up keeps P calls r run.2)

  -- what `all` decides over 1..=m
  pub all_from_one : {s : RangeInclusive ℕ} {n : ℕ} → SomeRun nat_range_inclusive_steps s (λ p. MatchBool r (IsTrue p.whole × AllItemsGive p g f true) (AnyItemGives p g f false)) → range_inclusive_exhausted s ≡ false → range_inclusive_start s ≡ 1 → range_inclusive_end s ≡ n → CallKeepsClosure g f → ((x : ℕ) (q : Bool) → Called g f (x, tt) q f → Decides q (P x)) → Decides r ((x : ℕ) → (1 ≤ x) × (x ≤ n) → P x)
  all_from_one {n} run fresh low high keeps calls =
      let up = inclusive_listed run.0 run.0.seen in
      let here = (up.4 (ap range_inclusive_exhausted run.1 ∙ fresh)).0 in
      let first : up.0 ≡ 1 = up.2 ∙ ap range_inclusive_start run.1 ∙ low in
      let last : up.1 ≡ n + 1 = up.3 ∙ ap (λ t. t + 1) (ap range_inclusive_end run.1 ∙ high) in
      Decides-like r (λ t x i. t x (omega arith) (omega arith)) (λ t x l m. t x (omega arith, omega arith)) (all_run run.0 up.0 up.1 here keeps P calls r run.2)
