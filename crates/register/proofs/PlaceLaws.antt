-- Where the first entry that passes no test stands, and what a register gives.
use Rattle.std.proofs.Common.{◌≡◌, ℕ, zero, suc, ◌+◌, ◌<◌, ◌≤◌, Bool, true, false, cond, not, ltb, leb, ◌≢◌, ◌⊎◌, ◌↔◌, List, [], ◌∷◌, length, get_or, take, set, Some, None, Option, sym, refl, ap, ◌∙◌, subst, subst₂, inl, inr, arith, length-take-le, get_or-set_other, get_or-take, get_or-set_same}
use Rattle.std.specs.List.{prefix_len, slice_range}
use Rattle.std.proofs.lemmas.List.{length-set, set_past}
use Rattle.std.proofs.lemmas.Bool.{cond-true, cond-false, lt-ltb, le-ltb, le-leb, cases_lt, not-true, not-false}
use Rattle.std.proofs.lemmas.Bool.Decides.{same_from_decides}
use Rattle.register.specs.Places.{place, found, number, kept, First, Apart, Entered, used_after}

abbrev some_of : Option ℕ → ℕ
some_of (Some k) = suc k
some_of None = 0

some_one : {j k : ℕ} → ◌≡◌ {A = Option ℕ} (Some j) (Some k) → j ≡ k
some_one h = omega (arith, ap some_of h)

none_some : {k : ℕ} → ◌≡◌ {A = Option ℕ} None (Some k) → ⊥
none_some h = omega (arith, ap some_of h)

module _ {E : Type 0} (p : E → Bool) where
  -- before the first that fails the test, all pass it
  leading_before : (xs : List E) (i : ℕ) (d : E) → i < prefix_len p xs → p (get_or xs i d) ≡ true
  leading_before [] i d h = absurd (omega arith)
  leading_before (x ∷ xs) i d h = go (λ j l. leading_before xs j d l) (p x) refl i h
    where
      go : ((j : ℕ) → j < prefix_len p xs → p (get_or xs j d) ≡ true) → (b : Bool) → p x ≡ b → (j : ℕ) → j < cond b (1 + prefix_len p xs) 0 → p (get_or (x ∷ xs) j d) ≡ true
      go on true e zero l = e
      go on true e (suc j) l = on j (omega arith)
      go on false e j l = absurd (omega arith)

  leading_at : (xs : List E) (d : E) → prefix_len p xs < length xs → p (get_or xs (prefix_len p xs) d) ≡ false
  leading_at [] d h = absurd (omega arith)
  leading_at (x ∷ xs) d h = go (leading_at xs d) (p x) refl h
    where
      go : (prefix_len p xs < length xs → p (get_or xs (prefix_len p xs) d) ≡ false) → (b : Bool) → p x ≡ b → cond b (1 + prefix_len p xs) 0 < length (x ∷ xs) → p (get_or (x ∷ xs) (cond b (1 + prefix_len p xs) 0) d) ≡ false
      go on true e l = let one : 1 + prefix_len p xs ≡ suc (prefix_len p xs) = omega arith in subst (λ n. p (get_or (x ∷ xs) n d) ≡ false) (sym one) (on (omega arith))
      go on false e l = e

  -- the place of one that fails the test, behind such that pass it
  leading_is : (xs : List E) (k : ℕ) (d : E) → k < length xs → ((i : ℕ) → i < k → p (get_or xs i d) ≡ true) → p (get_or xs k d) ≡ false → prefix_len p xs ≡ k
  leading_is [] k d h b f = absurd (omega arith)
  leading_is (x ∷ xs) zero d h b f = cond-false _ _ _ f
  leading_is (x ∷ xs) (suc k) d h b f = cond-true _ _ _ (b 0 (omega arith)) ∙ omega (arith, leading_is xs k d (omega arith) (λ i l. b (suc i) (omega arith)) f)

module _ {E : Type 0} (same : E → E → Bool) where
  module _ (e : E) (xs : List E) where
    -- the first that is the same stands at the place
    first_place : (k : ℕ) → First same e (length xs) xs k → place same e xs ≡ k
    first_place k f = leading_is (λ y. not (same e y)) xs k e f.within (λ i l. ap not (f.before i e l)) (ap not (f.alike e))

    -- the entry at the place is the first that is the same
    place_first : place same e xs < length xs → First same e (length xs) xs (place same e xs)
    place_first h = record {
      within = h;
      alike = λ d. not-false _ (leading_at (λ y. not (same e y)) xs d h);
      before = λ i d l. not-true _ (leading_before (λ y. not (same e y)) xs i d l);
    }

    -- what is found is the first that is the same
    pub found_first : (k : ℕ) → (found same e xs ≡ Some k) ↔ First same e (length xs) xs k
    found_first k = (to (cases_lt (place same e xs) (length xs)), from)
      where
        to : (place same e xs < length xs) ⊎ (length xs ≤ place same e xs) → found same e xs ≡ Some k → First same e (length xs) xs k
        to (inl l) h = subst (First same e (length xs) xs) (some_one (sym (cond-true _ _ _ (lt-ltb _ _ l)) ∙ h)) (place_first l)
        to (inr l) h = absurd (none_some (sym (cond-false _ _ _ (le-ltb _ _ l)) ∙ h))

        from : First same e (length xs) xs k → found same e xs ≡ Some k
        from f =
            let is = first_place k f in
            let lt = f.within in
            cond-true _ _ _ (lt-ltb (place same e xs) (length xs) (omega arith)) ∙ ap Some is

  module _ (e : E) (used : ℕ) (xs : List E) (w : used ≤ length xs) where
    -- the first among the entries in use
    pub in_use : (k : ℕ) → First same e (length (take used xs)) (take used xs) k → First same e used xs k
    in_use k f =
        let n = length-take-le used xs w in
        let lt = f.within in
        let ku : k < used = omega arith in
        record {
          within = ku;
          alike = λ d. ap (same e) (sym (get_or-take used xs k d ku)) ∙ f.alike d;
          before = λ i d l. ap (same e) (sym (get_or-take used xs i d (omega arith))) ∙ f.before i d l;
        }

    pub of_use : (k : ℕ) → First same e used xs k → First same e (length (take used xs)) (take used xs) k
    of_use k f =
        let n = length-take-le used xs w in
        let lt = f.within in
        record {
          within = omega arith;
          alike = λ d. ap (same e) (get_or-take used xs k d lt) ∙ f.alike d;
          before = λ i d l. ap (same e) (get_or-take used xs i d (omega arith)) ∙ f.before i d l;
        }

    -- what is found in the slice of the entries in use is found among the first
    among : {o r : Option ℕ} (ys : List E) → ys ≡ slice_range xs 0 used → o ≡ found same e ys → o ≡ r → found same e (take used xs) ≡ r
    among ys s h i = let t : take used xs ≡ ys = grind (arith, s, w) in ap (found same e) t ∙ sym h ∙ i

    -- what is found in use is the first of those
    found_use : (k : ℕ) → found same e (take used xs) ≡ Some k → First same e used xs k
    found_use k h = in_use k ((found_first e (take used xs) k).0 h)

    -- the first of those has the number
    use_place : (k : ℕ) → First same e used xs k → place same e (take used xs) ≡ k
    use_place k f = first_place e (take used xs) k (of_use k f)

    -- where nothing is found, the place is behind them all
    none_place : found same e (take used xs) ≡ None → used ≤ place same e (take used xs)
    none_place h = go (cases_lt (place same e (take used xs)) used)
      where
        go : (place same e (take used xs) < used) ⊎ (used ≤ place same e (take used xs)) → used ≤ place same e (take used xs)
        go (inl l) = absurd (none_some (sym h ∙ cond-true _ _ _ (lt-ltb (place same e (take used xs)) (length (take used xs)) (omega (arith, length-take-le used xs w)))))
        go (inr l) = l

  module _ (e : E) (used : ℕ) (xs : List E) where
    -- no entry before the place is the same
    before_place : (i : ℕ) (d : E) → i < used → i < place same e (take used xs) → same e (get_or xs i d) ≡ false
    before_place i d u h = not-true _ (ap (λ y. not (same e y)) (sym (get_or-take used xs i d u)) ∙ leading_before (λ y. not (same e y)) (take used xs) i d h)

    pub number_there : used ≤ length xs → place same e (take used xs) < used → number same e used xs ≡ Some (place same e (take used xs))
    number_there w h = cond-true _ _ _ (le-leb used (length xs) w) ∙ cond-true _ _ _ (lt-ltb _ used h)

    pub kept_there : used ≤ length xs → place same e (take used xs) < used → kept same e used xs ≡ xs
    kept_there w h = cond-true _ _ _ (le-leb used (length xs) w) ∙ cond-true _ _ _ (lt-ltb _ used h)

    pub number_full : used ≡ length xs → used ≤ place same e (take used xs) → number same e used xs ≡ None
    number_full w h = cond-true _ _ _ (le-leb used (length xs) (omega arith)) ∙ cond-false _ _ _ (le-ltb _ used h) ∙ cond-false _ _ _ (le-ltb used (length xs) (omega arith))

    pub kept_full : used ≡ length xs → used ≤ place same e (take used xs) → kept same e used xs ≡ xs
    kept_full w h = cond-true _ _ _ (le-leb used (length xs) (omega arith)) ∙ cond-false _ _ _ (le-ltb _ used h) ∙ set_past xs used e (omega arith)

    pub number_new : used < length xs → used ≤ place same e (take used xs) → number same e used xs ≡ Some used
    number_new w h = cond-true _ _ _ (le-leb used (length xs) (omega arith)) ∙ cond-false _ _ _ (le-ltb _ used h) ∙ cond-true _ _ _ (lt-ltb used (length xs) w)

    pub kept_new : used < length xs → used ≤ place same e (take used xs) → kept same e used xs ≡ set xs used e
    kept_new w h = cond-true _ _ _ (le-leb used (length xs) (omega arith)) ∙ cond-false _ _ _ (le-ltb _ used h)

    -- the first that is the same gives the number
    pub number_first : (k : ℕ) → used ≤ length xs → First same e used xs k → number same e used xs ≡ Some k
    number_first k w f =
        let is = use_place e used xs w k f in
        let lt = f.within in
        number_there w (omega arith) ∙ ap Some is

  -- an entry that is written behind those in use is the first that is the same as itself
  pub new_first : (reflexive : (x : E) → same x x ≡ true) (e : E) (used : ℕ) (xs : List E) → used < length xs → used ≤ place same e (take used xs) → First same e (used + 1) (set xs used e) used
  new_first reflexive e used xs w h = record {
    within = omega arith;
    alike = λ d. ap (same e) (get_or-set_same xs used e d w) ∙ reflexive e;
    before = λ i d l. let ne : i ≢ used = omega arith in ap (same e) (get_or-set_other xs used i e d ne) ∙ before_place e used xs i d l (omega arith);
  }

  -- entries that are apart stay so
  pub apart_new : (e : E) (used : ℕ) (xs : List E) → used < length xs → used ≤ place same e (take used xs) → Apart same used xs → Apart same (used + 1) (set xs used e)
  apart_new e used xs w h a i j d l m = go (cases_lt j used)
    where
      go : (j < used) ⊎ (used ≤ j) → same (get_or (set xs used e) j d) (get_or (set xs used e) i d) ≡ false
      go (inl lt) =
          let ni : i ≢ used = omega arith in
          let nj : j ≢ used = omega arith in
          rw (get_or-set_other xs used j e d nj, get_or-set_other xs used i e d ni) (a i j d l lt)
      go (inr ge) =
          let is : j ≡ used = omega arith in
          let ni : i ≢ used = omega arith in
          subst (λ n. same (get_or (set xs used e) n d) (get_or (set xs used e) i d) ≡ false) (sym is)
          (rw (get_or-set_same xs used e d w, get_or-set_other xs used i e d ni) (before_place e used xs i d (omega arith) (omega arith)))

  module _ (symmetric : (x y : E) → same x y ≡ true → same y x ≡ true) (transitive : (x y z : E) → same x y ≡ true → same y z ≡ true → same x z ≡ true) where
    -- entries that are the same are the same as the same ones
    each : (e f : E) → same e f ≡ true → (x : E) → same f x ≡ same e x
    each e f h x = same_from_decides {P = same e x ≡ true} (same f x) (same e x) (transitive e f x h, transitive f e x (symmetric e f h)) (λ y. y, λ y. y)

    -- entries that are the same have the same number
    pub number_alike : (e f : E) → same e f ≡ true → (used : ℕ) (xs : List E) → number same f used xs ≡ number same e used xs
    number_alike e f h used xs =
        ap (λ (p : E → Bool). let n = prefix_len p (take used xs) in cond (leb used (length xs)) (cond (ltb n used) (Some n) (cond (ltb used (length xs)) (Some used) None)) None) (λ i x. not (each e f h x i))

    module _ (reflexive : (x : E) → same x x ≡ true) (e : E) (used : ℕ) (xs : List E) where
      -- the first that is the same as e is the first that is the same as f
      first_alike : (f : E) (n : ℕ) (ys : List E) (k : ℕ) → same e f ≡ true → First same e n ys k → First same f n ys k
      first_alike f n ys k h o = record {
        within = o.within;
        alike = λ d. each e f h _ ∙ o.alike d;
        before = λ i d l. each e f h _ ∙ o.before i d l;
      }

      module _ (r : Option ℕ) (ys : List E) (n : ℕ) (is : r ≡ number same e used xs) (keeps : ys ≡ kept same e used xs) (uses : used_after used r ≡ n) where
        -- an entry that is given no number changes nothing
        none_entered : r ≡ None → ys ≡ xs → n ≡ used → Entered same e used xs r ys
        none_entered o same_Store same-used = record {
          value = is;
          store = keeps;
          first = λ k s. absurd (none_some (sym o ∙ s));
          alike = λ f h. number_alike e f h used xs ∙ sym is;
          again = λ f k h s. absurd (none_some (sym o ∙ s));
          apart = λ a. subst₂ (Apart same) (sym (uses ∙ same-used)) (sym same_Store) a;
        }

        -- an entry that is given a number is the first of that number
        some_entered : (k : ℕ) → r ≡ Some k → n ≤ length ys → First same e n ys k → (Apart same used xs → Apart same n ys) → Entered same e used xs r ys
        some_entered k o w f a = record {
          value = is;
          store = keeps;
          first = λ j s. subst₂ (λ m i. First same e m ys i) (sym uses) (some_one (sym o ∙ s)) f;
          alike = λ g h. number_alike e g h used xs ∙ sym is;
          again = λ g j h s. subst (λ m. number same g m ys ≡ r) (sym uses) (number_first g n ys k w (first_alike g n ys k h f) ∙ sym o);
          apart = λ b. subst (λ m. Apart same m ys) (sym uses) (a b);
        }

    -- where o is what was found in ys, the slice of the entries in use
    module _ (reflexive : (x : E) → same x x ≡ true) {e : E} {used : ℕ} {xs ys : List E} {o : Option ℕ} (w : used ≤ length xs) (s : ys ≡ slice_range xs 0 used) (h : o ≡ found same e ys) where
      -- none was found, and there is no room
      pub full_entered : o ≡ None → used ≡ length xs → Entered same e used xs None xs
      full_entered i f =
          let p = none_place e used xs w (among e used xs w ys s h i) in
          none_entered reflexive e used xs None xs used (sym (number_full e used xs f p)) (sym (kept_full e used xs f p)) refl refl refl refl

      -- the entry at k was found
      pub there_entered : {k : ℕ} → o ≡ Some k → Entered same e used xs (Some k) xs
      there_entered {k} i =
          let f = found_use e used xs w k (among e used xs w ys s h i) in
          let is = use_place e used xs w k f in
          let lt = f.within in
          some_entered reflexive e used xs (Some k) xs used (sym (number_first e used xs k w f)) (sym (kept_there e used xs w (omega arith))) (cond-true _ _ _ (lt-ltb k used lt)) k refl w f (λ a. a)

      -- none was found, and there is room
      pub new_entered : o ≡ None → used < length xs → Entered same e used xs (Some used) (set xs used e)
      new_entered i f =
          let p = none_place e used xs w (among e used xs w ys s h i) in
          some_entered reflexive e used xs _ (set xs used e) (used + 1) (sym (number_new e used xs f p)) (sym (kept_new e used xs f p)) (cond-false _ _ _ (le-ltb used used (omega arith))) used refl (rw (length-set xs used e) (omega arith)) (new_first reflexive e used xs f p) (apart_new e used xs f p)
