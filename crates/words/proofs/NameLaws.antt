-- Names that are the same are equal, and what a store of names holds once one is entered.
use Rattle.std.specs.Prelude.{◌≡◌, ℕ, zero, suc, ◌+◌, ◌-◌, ◌<◌, ◌≤◌, Bool, true, false, cond, not, ◌⊎◌, List, [], ◌∷◌, ◌++◌, map, length, take, replicate, Some, None, Ok, Err, Option, Result, nat_lt, slice_set, refl}
use Rattle.std.proofs.Common.{sym, ap, ap₂, subst, subst₂, ◌∙◌, append_assoc, inl, inr, arith}
use Rattle.std.specs.List.{AllByRecursion}
use Rattle.std.proofs.lemmas.List.{map-append, length-map, length-append, length-replicate, length-set, take_at, set_at}
use Rattle.std.proofs.lemmas.Bool.{cases_lt, cond-true, cond-false, le-leb, lt-leb, lt-ltb, le-ltb, both_ways}
use Rattle.register.specs.Places.{place, number, kept}
use Rattle.register.proofs.PlaceLaws.{number_there, number_new, number_full, kept_new}
use Rattle.terms.specs.declared.refusal.Refusal.{Refusal}
use Rattle.terms.specs.declared.refusal.Refusal.TheVariants.{BadName, TooManySignals}
use Rattle.words.specs.declared.name.Name.{Name}
use Rattle.terms.proofs.ListLaws.{same_list_decides}
use Rattle.words.specs.Names.{padding, name_of, same_name, HoldsNames}
use Rattle.words.specs.Signals.{In}
use Rattle.words.specs.Steps.{counted, entered}
use Rattle.words.proofs.PlainLaws.{Plain}

-- zeros behind a name do not hide it
unpadded : (x y : List ℕ) (m n : ℕ) → Plain x → Plain y → x ++ replicate m 0 ≡ y ++ replicate n 0 → x ≡ y
unpadded [] [] m n p q e = refl
unpadded [] (b ∷ y) zero n p q e = cc
unpadded [] (b ∷ y) (suc m) n p q e = let is : b ≡ 0 = cc in absurd (q.0 is)
unpadded (a ∷ x) [] m zero p q e = cc
unpadded (a ∷ x) [] m (suc n) p q e = let is : a ≡ 0 = cc in absurd (p.0 is)
unpadded (a ∷ x) (b ∷ y) m n p q e =
    let tails : x ++ replicate m 0 ≡ y ++ replicate n 0 = cc in
    let heads : a ≡ b = cc in
    let same-tails = unpadded x y m n p.1 q.1 tails in
    cc

pub padding_one : (x y : List ℕ) → Plain x → Plain y → same_name (padding x) (padding y) ≡ true → x ≡ y
padding_one x y p q e = unpadded x y (8 - length x) (8 - length y) p q ((same_list_decides (padding x).bytes (padding y).bytes).0 e)

module _ (x : List ℕ) where
  -- a name that is found is one of those stored
  found : Plain x → (xs : List (List ℕ)) → AllByRecursion Plain xs → place same_name (padding x) (map padding xs) < length xs → In x xs
  found p [] a h = absurd (omega arith)
  found p (y ∷ xs) a h = go (found p xs a.1) (same_name (padding x) (padding y)) refl h
    where
      go : (place same_name (padding x) (map padding xs) < length xs → In x xs) → (b : Bool) → same_name (padding x) (padding y) ≡ b → cond (not b) (1 + place same_name (padding x) (map padding xs)) 0 < length (y ∷ xs) → In x (y ∷ xs)
      go on true e l = inl (padding_one x y p a.0 e)
      go on false e l = inr (on (omega arith))

  -- a name that is stored is found
  missed : (xs : List (List ℕ)) → length xs ≤ place same_name (padding x) (map padding xs) → In x xs → ⊥
  missed [] h i = i
  missed (y ∷ xs) h i = go (missed xs) (same_name (padding x) (padding y)) refl h i
    where
      go : (length xs ≤ place same_name (padding x) (map padding xs) → In x xs → ⊥) → (b : Bool) → same_name (padding x) (padding y) ≡ b → length (y ∷ xs) ≤ cond (not b) (1 + place same_name (padding x) (map padding xs)) 0 → In x (y ∷ xs) → ⊥
      go on true e l j = omega arith
      go on false e l (inl j) = both_ways _ e ((same_list_decides (padding x).bytes (padding y).bytes).1 (ap (λ z. (padding z).bytes) j))
      go on false e l (inr j) = on (omega arith) j

-- how entering the name x comes out, behind count of its kind: it is too long or there already, it is one too many, or
-- it is stored behind the others
pub data Entry (xs : List (List ℕ)) (x : List ℕ) (count p : ℕ) : Result ℕ Refusal × List Name → Type 0 where
  bad : {store : List Name} → (8 < length x) ⊎ In x xs → Entry xs x count p (Err (BadName p), store)
  many : {store : List Name} → length x ≤ 8 → (In x xs → ⊥) → 4 ≤ count → Entry xs x count p (Err (TooManySignals p), store)
  new : {store : List Name} → length x ≤ 8 → (In x xs → ⊥) → count < 4 → HoldsNames (xs ++ (x ∷ [])) store → Entry xs x count p (Ok (count + 1), store)

module _ (xs : List (List ℕ)) (store : List Name) (holds : HoldsNames xs store) where
  pub room : length xs ≤ length store
  room = omega (arith, ap length holds, length-append (map padding xs) (replicate (length store - length xs) (padding [])), length-map xs padding, length-replicate (length store - length xs) (padding []))

  front : (used : ℕ) → used ≡ length xs → take used store ≡ map padding xs
  front used is = ap (take used) holds ∙ take_at (map padding xs) (replicate (length store - length xs) (padding [])) used (length-map xs padding ∙ sym is)

  -- one more name is stored
  behind : (x : List ℕ) (used : ℕ) → used ≡ length xs → used < length store → HoldsNames (xs ++ (x ∷ [])) (slice_set store used (padding x))
  behind x used is lt =
      let left : length store - length xs ≡ suc (length store - (length xs + 1)) = omega arith in
      let rest = replicate (length store - (length xs + 1)) (padding []) in
      let count : length (slice_set store used (padding x)) - length (xs ++ (x ∷ [])) ≡ length store - (length xs + 1) = omega (arith, length-set store used (padding x), length-append xs (x ∷ [])) in
      ap (λ s. slice_set s used (padding x)) (holds ∙ ap (λ m. map padding xs ++ replicate m (padding [])) left)
      ∙ set_at (map padding xs) (padding []) rest (padding x) used (length-map xs padding ∙ sym is)
      ∙ sym (append_assoc (map padding xs) (padding x ∷ []) rest)
      ∙ ap₂ (λ l m. l ++ replicate m (padding [])) (sym (map-append padding xs (x ∷ []))) (sym count)

  module _ (x : List ℕ) (used count p : ℕ) (is : used ≡ length xs) (plain : Plain x) (plains : AllByRecursion Plain xs) (more : count < 4 → used < length store) where
    -- the name is short, and given this number
    numbered : (o : Option ℕ) (ys : List Name) → number same_name (padding x) used store ≡ o → kept same_name (padding x) used store ≡ ys → Entry xs x count p (counted count used p o, ys) → Entry xs x count p (entered count used p (Some (padding x)) store)
    numbered o ys e f t = subst₂ (λ a b. Entry xs x count p (counted count used p a, b)) (sym e) (sym f) t

    -- the place among those stored
    spot : place same_name (padding x) (take used store) ≡ place same_name (padding x) (map padding xs)
    spot = ap (place same_name (padding x)) (front used is)

    there : length x ≤ 8 → place same_name (padding x) (take used store) < used → Entry xs x count p (entered count used p (Some (padding x)) store)
    there short h =
        numbered (Some (place same_name (padding x) (take used store))) (kept same_name (padding x) used store) (number_there same_name (padding x) used store (omega (arith, room)) h) refl
        (subst (λ r. Entry xs x count p (r, kept same_name (padding x) used store)) (sym (cond-true _ _ _ (lt-ltb _ used h))) (bad (inr (found x plain xs plains (omega (arith, spot))))))

    written : length x ≤ 8 → used ≤ place same_name (padding x) (take used store) → used < length store → Entry xs x count p (entered count used p (Some (padding x)) store)
    written short h lt =
        let fresh : In x xs → ⊥ = missed x xs (omega (arith, spot)) in
        numbered (Some used) (slice_set store used (padding x)) (number_new same_name (padding x) used store lt h) (kept_new same_name (padding x) used store lt h)
        (subst (λ r. Entry xs x count p (r, slice_set store used (padding x))) (sym (cond-false _ _ _ (le-ltb used used (omega arith)))) (go fresh (cases_lt count 4)))
      where
        go : (In x xs → ⊥) → (count < 4) ⊎ (4 ≤ count) → Entry xs x count p (cond (nat_lt count 4) (Ok (count + 1)) (Err (TooManySignals p)), slice_set store used (padding x))
        go fresh (inl l) = subst (λ r. Entry xs x count p (r, slice_set store used (padding x))) (sym (cond-true _ _ _ (lt-ltb count 4 l))) (new short fresh l (behind x used is lt))
        go fresh (inr l) = subst (λ r. Entry xs x count p (r, slice_set store used (padding x))) (sym (cond-false _ _ _ (le-ltb count 4 l))) (many short fresh l)

    full : length x ≤ 8 → used ≤ place same_name (padding x) (take used store) → length store ≤ used → Entry xs x count p (entered count used p (Some (padding x)) store)
    full short h ge =
        let fresh : In x xs → ⊥ = missed x xs (omega (arith, spot)) in
        let none : 4 ≤ count = go (cases_lt count 4) in
        numbered None (kept same_name (padding x) used store) (number_full same_name (padding x) used store (omega (arith, room)) h) refl (many short fresh none)
      where
        go : (count < 4) ⊎ (4 ≤ count) → 4 ≤ count
        go (inl l) = absurd (omega (arith, more l))
        go (inr l) = l

    -- what entering a name does
    pub entry : Entry xs x count p (entered count used p (name_of x) store)
    entry = by_length (cases_lt 8 (length x))
      where
        by_room : length x ≤ 8 → used ≤ place same_name (padding x) (take used store) → (used < length store) ⊎ (length store ≤ used) → Entry xs x count p (entered count used p (Some (padding x)) store)
        by_room short h (inl l) = written short h l
        by_room short h (inr l) = full short h l

        by_place : length x ≤ 8 → (place same_name (padding x) (take used store) < used) ⊎ (used ≤ place same_name (padding x) (take used store)) → Entry xs x count p (entered count used p (Some (padding x)) store)
        by_place short (inl l) = there short l
        by_place short (inr l) = by_room short l (cases_lt used (length store))

        by_length : (8 < length x) ⊎ (length x ≤ 8) → Entry xs x count p (entered count used p (name_of x) store)
        by_length (inl l) = subst (λ o. Entry xs x count p (entered count used p o store)) (sym (cond-false _ _ _ (lt-leb (length x) 8 l))) (bad (inl l))
        by_length (inr l) = subst (λ o. Entry xs x count p (entered count used p o store)) (sym (cond-true _ _ _ (le-leb (length x) 8 l))) (by_place l (cases_lt _ used))
