-- A store of positions with a list more.
use Rattle.std.proofs.Common.{◌≡◌, ℕ, suc, ◌+◌, ◌<◌, ◌≤◌, max, true, false, cond, ltb, ◌⊎◌, List, [], ◌∷◌, ◌++◌, map, length, get_or, take, set, Some, None, Option, sym, refl, ap, ◌∙◌, subst, subst₂, inl, inr, arith}
use Rattle.std.proofs.lemmas.List.{length-map, length-take-le, get_or-map, get_or-take, take_more_set, map_push}
use Rattle.std.proofs.lemmas.Bool.{cond-true, cond-false, lt-ltb, le-ltb, or_parts, cases_lt}
use Rattle.register.specs.Places.{place, number, kept}
use Rattle.register.proofs.PlaceLaws.{number_there, kept_there, number_full, number_new, kept_new}
use Rattle.rules.specs.Sets.{sets}
use Rattle.terms.specs.Lists.{same_list}
use Rattle.rules.specs.Explore.{too_many, positions, among, met}
use Rattle.rules.specs.Game.{number_from}
use Rattle.rules.proofs.CompileLaws.{same_list_self, among_end}
use Rattle.compile.specs.declared.position.Position.{Position}
use Rattle.compile.specs.Positions.{unused, same_position, entry_of}
use Rattle.compile.specs.Charting.{known_in, Numbers, Stored, Entry}
use Rattle.compile.proofs.PositionLaws.{place_known, place_new}

-- entries in use are in the store
pub in_store : (used p : ℕ) (store : List Position) → Stored used store → p < used → p < length store
in_store used p store stored lt = omega (arith, stored.room, stored.long)

-- there are as many known lists as entries in use
pub known_count : (used : ℕ) (store : List Position) → used ≤ length store → length (known_in used store) ≡ used
known_count used store h = length-map (take used store) (λ e. e.list) ∙ length-take-le used store h

-- each is the list of its entry
pub known_at : (used : ℕ) (store : List Position) (k : ℕ) → used ≤ length store → k < used → get_or (known_in used store) k [] ≡ (get_or store k unused).list
known_at used store k h l =
    get_or-map (λ (e : Position). e.list) (take used store) k unused [] (omega (arith, length-take-le used store h)) ∙ ap (λ (e : Position). e.list) (get_or-take used store k unused l)

-- the last list has the last number, where it was not known before
number_end : (k : ℕ) (known : List (List ℕ)) (s : List ℕ) → among known s ≡ false → number_from (suc k) (known ++ (s ∷ [])) s ≡ suc (k + length known)
unfolding number_from
number_end k [] s e = cond-true _ (suc k) _ (same_list_self s) ∙ omega arith
number_end k (t ∷ ts) s e =
    let parts = or_parts (same_list t s) (among ts s) e in
    cond-false _ (suc k) _ parts.0 ∙ number_end (suc k) ts s parts.1 ∙ omega arith

-- a list that is not empty
met_some : (p : ℕ) (known : List (List ℕ)) (xs : List ℕ) → 0 < length xs → met p known (sets xs) ≡ cond (among known xs) (positions known) (cond (ltb (length known) 255) (positions (known ++ (xs ∷ []))) too_many)
met_some p known [] h = absurd (omega arith)
met_some p known (x ∷ xs) h = refl

numbers_some : (known : List (List ℕ)) (xs : List ℕ) (n : ℕ) → 0 < length xs → among known xs ≡ true → number_from 1 known xs ≡ n → Numbers known (sets xs) n
numbers_some known [] n h a e = absurd (omega arith)
numbers_some known (x ∷ xs) n h a e = (a, e)

-- what the number that a register gave comes to
abbrev pub Given : ℕ → List ℕ → List Position → List Position → Option ℕ → Type 0
Given used l store after None = (p : ℕ) → met p (known_in used store) (sets l) ≡ too_many
Given used l store after (Some k) = Entry used l store after (k + 1)

module _ (used : ℕ) (l : List ℕ) (store : List Position) (stored : Stored used store) (some : 0 < length l) where
  fits : used ≤ length store
  fits = omega (arith, stored.room, stored.long)

  abbrev spot : ℕ
  spot = place same_position (entry_of l) (take used store)

  -- a known list has the number of its place
  enter_old : spot < used → Entry used l store store (spot + 1)
  enter_old h =
      let there = place_known (entry_of l) 0 (take used store) (omega (arith, length-take-le used store fits)) in
      let same : max used (spot + 1) ≡ used = omega arith in
      record {
        few = omega (arith, stored.room);
        next = omega arith;
        is = λ p. met_some p (known_in used store) l some ∙ cond-true _ _ _ there.0 ∙ ap (λ m. positions (known_in m store)) (sym same);
        number = subst (λ m. Numbers (known_in m store) (sets l) (spot + 1)) (sym same) (numbers_some (known_in used store) l (spot + 1) some there.0 (there.1 ∙ omega arith));
        holds = sym (cond-false _ _ _ (le-ltb used (spot + 1) (omega arith)));
      }

  unknown : used ≤ spot → among (known_in used store) l ≡ false
  unknown h = place_new (entry_of l) (take used store) (omega (arith, length-take-le used store fits))

  -- a new list has the next number
  enter_new : used ≤ spot → used < 255 → Entry used l store (set store used (entry_of l)) (used + 1)
  enter_new h lt =
      let fresh = unknown h in
      let count = known_count used store fits in
      let known = known_in used store in
      let more : known_in (max used (used + 1)) (set store used (entry_of l)) ≡ known ++ (l ∷ []) =
      ap (λ m. known_in m (set store used (entry_of l))) (let m : max used (used + 1) ≡ used + 1 = omega arith in m)
      ∙ ap (map (λ (e : Position). e.list)) (take_more_set store used (entry_of l) (omega (arith, stored.long)))
      ∙ map_push (λ (e : Position). e.list) (take used store) (entry_of l) in
      record {
        few = omega arith;
        next = omega arith;
        is = λ p. met_some p known l some ∙ cond-false _ _ _ fresh ∙ cond-true _ _ _ (lt-ltb (length known) 255 (omega arith)) ∙ ap positions (sym more);
        number = subst (λ ks. Numbers ks (sets l) (used + 1)) (sym more) (numbers_some (known ++ (l ∷ [])) l (used + 1) some (among_end known l) (number_end 0 known l fresh ∙ omega arith));
        holds = sym (cond-true _ _ _ (lt-ltb used (used + 1) (omega arith)));
      }

  enter_full : used ≤ spot → 255 ≤ used → (p : ℕ) → met p (known_in used store) (sets l) ≡ too_many
  enter_full h ge p =
      met_some p (known_in used store) l some ∙ cond-false _ _ _ (unknown h) ∙ cond-false _ _ _ (le-ltb (length (known_in used store)) 255 (omega (arith, known_count used store fits)))

  -- a list that is entered
  pub enter_given : (r : Option ℕ) (after : List Position) → r ≡ number same_position (entry_of l) used store → after ≡ kept same_position (entry_of l) used store → Given used l store after r
  enter_given r after is keeps = go (cases_lt spot used) (cases_lt used 255)
    where
      put : {k : Option ℕ} {ys : List Position} → number same_position (entry_of l) used store ≡ k → kept same_position (entry_of l) used store ≡ ys → Given used l store ys k → Given used l store after r
      put n z g = subst₂ (Given used l store) (sym (keeps ∙ z)) (sym (is ∙ n)) g

      go : (spot < used) ⊎ (used ≤ spot) → (used < 255) ⊎ (255 ≤ used) → Given used l store after r
      go (inl h) m = put (number_there same_position (entry_of l) used store fits h) (kept_there same_position (entry_of l) used store fits h) (enter_old h)
      go (inr h) (inl m) =
          let w : used < length store = omega (arith, stored.long) in
          put (number_new same_position (entry_of l) used store w h) (kept_new same_position (entry_of l) used store w h) (enter_new h m)
      go (inr h) (inr m) =
          let w : used ≡ length store = omega (arith, stored.long, stored.room) in
          put (number_full same_position (entry_of l) used store w h) refl (enter_full h m)
