-- The place of a list among positions.
use Rattle.std.specs.Prelude.{◌≡◌, ℕ, suc, ◌+◌, ◌<◌, ◌≤◌, Bool, true, false, cond, not, ◌||◌, List, [], ◌∷◌, map, length}
use Rattle.std.proofs.Math.Path.{refl, sym}
use Rattle.std.proofs.Common.{◌∙◌, arith, eqb}
use Rattle.std.specs.Cmp.Lexicographic.{pointwise}
use Rattle.std.proofs.lemmas.Slice.Eq.{slice_eq-Decides}
use Rattle.std.proofs.lemmas.Bool.{cond-true, cond-false, or_left, or_right, or_from}
use Rattle.std.proofs.lemmas.Bool.Decides.{same_from_decides, Decides-eqb, Decides-like}
use Rattle.register.specs.Places.{place}
use Rattle.terms.specs.Lists.{same_list}
use Rattle.rules.specs.Explore.{among}
use Rattle.rules.specs.Game.{number_from}
use Rattle.compile.specs.declared.position.Position.{Position}
use Rattle.compile.specs.Positions.{same_position}
use Rattle.terms.proofs.ListLaws.{same_list_decides}
use Rattle.compile.specs.Same.{same_position_decides}

-- what `==` says of sets
pub matched : (xs ys : List ℕ) (r : Bool) → r ≡ pointwise eqb xs ys → r ≡ same_list xs ys
matched xs ys r m = same_from_decides r (same_list xs ys) (slice_eq-Decides Decides-eqb xs ys r m) (same_list_decides xs ys)

-- positions are the same where their lists are, the other way round too
same_turned : (e x : Position) → same_position e x ≡ same_list x.list e.list
same_turned e x = same_from_decides _ _ (same_position_decides e x) (Decides-like _ (λ h. sym h) (λ h. sym h) (same_list_decides x.list e.list))

abbrev lists : List Position → List (List ℕ)
lists es = map (λ e. e.list) es

module _ (e : Position) where
  -- a list that has a place is known, and its number is that of the place
  pub place_known : (k : ℕ) (es : List Position) → place same_position e es < length es
      → (among (lists es) e.list ≡ true) × (number_from (suc k) (lists es) e.list ≡ suc (k + place same_position e es))
  unfolding number_from
  place_known k [] h = absurd (omega arith)
  place_known k (x ∷ es) h = go (place_known (suc k) es) (same_position e x) refl h
    where
      go : (place same_position e es < length es → (among (lists es) e.list ≡ true) × (number_from (suc (suc k)) (lists es) e.list ≡ suc (suc k + place same_position e es)))
          → (b : Bool) → same_position e x ≡ b → cond (not b) (1 + place same_position e es) 0 < length (x ∷ es)
          → ((same_list x.list e.list || among (lists es) e.list) ≡ true) × (number_from (suc k) (lists (x ∷ es)) e.list ≡ suc (k + cond (not b) (1 + place same_position e es) 0))
      go on true s l =
          let t : same_list x.list e.list ≡ true = sym (same_turned e x) ∙ s in
          (or_left _ _ t, cond-true _ (suc k) _ t ∙ omega arith)
      go on false s l =
          let t : same_list x.list e.list ≡ false = sym (same_turned e x) ∙ s in
          let r = on (omega arith) in
          (or_right _ _ r.0, cond-false _ (suc k) _ t ∙ r.1 ∙ omega arith)

  -- a list that has no place is not known
  pub place_new : (es : List Position) → length es ≤ place same_position e es → among (lists es) e.list ≡ false
  place_new [] h = refl
  place_new (x ∷ es) h = go (place_new es) (same_position e x) refl h
    where
      go : (length es ≤ place same_position e es → among (lists es) e.list ≡ false) → (b : Bool) → same_position e x ≡ b → length (x ∷ es) ≤ cond (not b) (1 + place same_position e es) 0 → (same_list x.list e.list || among (lists es) e.list) ≡ false
      go on true s l = absurd (omega arith)
      go on false s l = or_from _ _ (sym (same_turned e x) ∙ s) (on (omega arith))
