-- Parts that are entered into a table.
use Rattle.std.proofs.Common.{◌≡◌, ℕ, suc, ◌+◌, ◌<◌, ◌≤◌, Bool, true, false, cond, not, ltb, leb, ◌⊎◌, List, [], ◌∷◌, ◌++◌, length, take, set, Some, None, Option, sym, refl, ap, ap₂, ◌∙◌, subst, subst₂, inl, inr, arith, length-append, length-take-le, ltb-true, ltb-false}
use Rattle.std.proofs.lemmas.List.{take_more_set}
use Rattle.std.proofs.lemmas.Bool.{cond-true, cond-false, cond_both, lt-ltb, le-ltb, le-leb, cases_lt}
use Rattle.std.proofs.lemmas.Bool.Decides.{same_from_decides}
use Rattle.register.specs.Places as register
use Rattle.rules.specs.declared.part.Part.{Part}
use Rattle.rules.specs.declared.part.Part.TheVariants.{True, False, Literal, Next, Release, Both, Either}
use Rattle.rules.specs.Rule.{Rule, always, never, literal, next, release, both, either}
use Rattle.rules.specs.Table.{same_part, place, Entry, enter, parts_on}
use Rattle.rules.proofs.TableLaws.{place_most}
use Rattle.reader.specs.Entries as entries
use Rattle.reader.specs.Entries.{Numbered, one_side, two_sides, EntersPart, Enters}
use Rattle.rules.specs.Same.{same_true, same_self}

-- entering a part keeps what was there
pub enter_grows : (ps : List Part) (x : Part) → length ps ≤ length (enter ps x).table
unfolding enter
enter_grows ps x = cond_both (ltb (place ps x) (length ps)) ps (ps ++ (x ∷ [])) (λ qs. length ps ≤ length qs) (λ e. omega arith) (λ e. omega (arith, length-append ps (x ∷ [])))

pub parts_grow : (ps : List Part) (f : Rule) → length ps ≤ length (parts_on ps f).table
unfolding parts_on
parts_grow ps always = enter_grows ps True
parts_grow ps never = enter_grows ps False
parts_grow ps (literal s want) = enter_grows ps (Literal s want)
parts_grow ps (next f) = omega (arith, parts_grow ps f, enter_grows (parts_on ps f).table (Next (parts_on ps f).number))
parts_grow ps (release f g) =
    let e = parts_on ps f in let h = parts_on e.table g in
    omega (arith, parts_grow ps f, parts_grow (parts_on ps f).table g, enter_grows (parts_on (parts_on ps f).table g).table (Release (parts_on ps f).number (parts_on (parts_on ps f).table g).number))
parts_grow ps (both f g) =
    omega (arith, parts_grow ps f, parts_grow (parts_on ps f).table g, enter_grows (parts_on (parts_on ps f).table g).table (Both (parts_on ps f).number (parts_on (parts_on ps f).table g).number))
parts_grow ps (either f g) =
    omega (arith, parts_grow ps f, parts_grow (parts_on ps f).table g, enter_grows (parts_on (parts_on ps f).table g).table (Either (parts_on ps f).number (parts_on (parts_on ps f).table g).number))

-- a part is the same as another where that is the same as it
same_both : (x y : Part) → same_part x y ≡ same_part y x
same_both x y = same_from_decides (same_part x y) (same_part y x) (λ h. same_true x y h, λ e. subst (λ z. same_part x z ≡ true) e (same_self x)) (λ h. sym (same_true y x h), λ e. subst (λ z. same_part z x ≡ true) e (same_self x))

place_same : (x : Part) (ys : List Part) → register.place same_part x ys ≡ place ys x
unfolding place
place_same x [] = refl
place_same x (y ∷ ys) = go (same_part y x) refl (place_same x ys)
  where
    go : (b : Bool) → same_part y x ≡ b → register.place same_part x ys ≡ place ys x → register.place same_part x (y ∷ ys) ≡ cond (same_part y x) 0 (suc (place ys x))
    go true e h = cond-false _ _ _ (ap not (same_both x y ∙ e)) ∙ sym (cond-true _ _ _ e)
    go false e h = cond-true _ _ _ (ap not (same_both x y ∙ e)) ∙ omega (arith, h) ∙ sym (cond-false _ _ _ e)

some_one : {j k : ℕ} → Some j ≡ Some k → j ≡ k
some_one e = cc

-- what one entry makes of a table
pub enter_old : (ps : List Part) (x : Part) → place ps x < length ps → enter ps x ≡ record { table = ps; number = place ps x }
unfolding enter
enter_old ps x l = rw (lt-ltb (place ps x) (length ps) l)

pub enter_new : (ps : List Part) (x : Part) → length ps ≤ place ps x → enter ps x ≡ record { table = ps ++ (x ∷ []); number = place ps x }
unfolding enter
enter_new ps x l = rw (le-ltb (place ps x) (length ps) l)

module _ (store : List Part) (used : ℕ) (x : Part) (few : used ≤ 64) (room : length store ≡ 64) where
  as_long : length (take used store) ≡ used
  as_long = length-take-le used store (omega arith)

  -- the register counts the entries before a part as the table does
  before : register.place same_part x (take used store) ≡ place (take used store) x
  before = place_same x (take used store)

  fits : leb used (length store) ≡ true
  fits = le-leb used (length store) (omega arith)

  is_old : place (take used store) x < used → (register.number same_part x used store ≡ Some (place (take used store) x)) × (register.kept same_part x used store ≡ store)
  is_old l =
      let p : ltb (register.place same_part x (take used store)) used ≡ true = lt-ltb _ used (omega (arith, before)) in
      (cond-true _ _ _ fits ∙ cond-true _ _ _ p ∙ ap Some before, cond-true _ _ _ fits ∙ cond-true _ _ _ p)

  is_new : used ≤ place (take used store) x → (register.number same_part x used store ≡ cond (ltb used (length store)) (Some used) None) × (register.kept same_part x used store ≡ set store used x)
  is_new l =
      let p : ltb (register.place same_part x (take used store)) used ≡ false = le-ltb _ used (omega (arith, before)) in
      (cond-true _ _ _ fits ∙ cond-false _ _ _ p, cond-true _ _ _ fits ∙ cond-false _ _ _ p)

  here : used ≤ place (take used store) x → place (take used store) x ≡ used
  here l = omega (arith, place_most (take used store) x, as_long)

  module _ (r : Option ℕ) (after : List Part) (value : r ≡ register.number same_part x used store) (stored : after ≡ register.kept same_part x used store) where
    -- a part with a number is in the table
    pub part_entered : (k : ℕ) → r ≡ Some k → Numbered (take (register.used_after used r) after) (Some k) (enter (take used store) x)
    part_entered k e = go (cases_lt (place (take used store) x) used)
      where
        new : (b : Bool) → Some k ≡ cond b (Some used) None → (ltb used (length store) ≡ b) → (k ≡ used) × (used < 64)
        new true h b = (cc, omega (arith, ltb-true used (length store) b))
        new false h b = cc

        go : (place (take used store) x < used) ⊎ (used ≤ place (take used store) x) → Numbered (take (register.used_after used r) after) (Some k) (enter (take used store) x)
        go (inl o) =
            let is : k ≡ place (take used store) x = some_one (sym e ∙ value ∙ (is_old o).0) in
            let g = enter_old (take used store) x (omega (arith, as_long)) in
            let u : register.used_after used r ≡ used = ap (register.used_after used) e ∙ cond-true _ _ _ (lt-ltb k used (omega arith)) in
            entries.all (ap₂ take u (stored ∙ (is_old o).1) ∙ sym (ap (λ t. t.table) g)) (ap Some (is ∙ sym (ap (λ t. t.number) g)))
        go (inr l) =
            let is = new (ltb used (length store)) (sym e ∙ value ∙ (is_new l).0) refl in
            let g = enter_new (take used store) x (omega (arith, as_long)) in
            let u : register.used_after used r ≡ used + 1 = ap (register.used_after used) e ∙ cond-false _ _ _ (le-ltb k used (omega (arith, is.0))) in
            entries.all
            (ap₂ take u (stored ∙ (is_new l).1) ∙ take_more_set store used x (omega (arith, is.1)) ∙ sym (ap (λ t. t.table) g))
            (ap Some (is.0 ∙ sym (here l) ∙ sym (ap (λ t. t.number) g)))

    -- a part with no number would be one more than there is room for
    pub no_room : r ≡ None → {now : List Part} → Numbered now None (enter (take used store) x)
    no_room e {now} = go (cases_lt (place (take used store) x) used)
      where
        full : (b : Bool) → None ≡ cond b (Some used) None → (ltb used (length store) ≡ b) → length store ≤ used
        full true h b = cc
        full false h b = ltb-false used (length store) b

        go : (place (take used store) x < used) ⊎ (used ≤ place (take used store) x) → Numbered now None (enter (take used store) x)
        go (inl o) = cc (sym e ∙ value ∙ (is_old o).0)
        go (inr l) =
            let f = full (ltb used (length store)) (sym e ∙ value ∙ (is_new l).0) refl in
            let g = enter_new (take used store) x (omega (arith, as_long)) in
            entries.over refl (omega (arith, ap (λ t. length t.table) g, length-append (take used store) (x ∷ []), as_long))

module _ (table : List Part) where
  -- a rule's parts are entered when those of its sides are, and then its own
  pub leaf_enters : {after : List Part} {number : Option ℕ} (f : Rule) (x : Part) → parts_on table f ≡ enter table x → Numbered after number (enter table x) → Enters table f after number
  leaf_enters {after} {number} f x is h = subst (Numbered after number) (sym is) h

  pub one_enters : {s after : List Part} {k number : Option ℕ} (f g : Rule) (x : ℕ → Part) → ((ps : List Part) → parts_on ps g ≡ enter (parts_on ps f).table (x (parts_on ps f).number))
      → Enters table f s k → EntersPart s (one_side x k) after number → Enters table g after number
  one_enters {s} {after} {k} {number} f g x is h i = subst (Numbered after number) (sym (is table)) (go h)
    where
      go : Numbered s k (parts_on table f) → Numbered after number (enter (parts_on table f).table (x (parts_on table f).number))
      go (entries.all a n) = subst₂ (λ ps m. EntersPart ps (one_side x m) after number) a n i
      go (entries.over n l) = entries.over (subst (λ m. EntersPart s (one_side x m) after number) n i) (omega (arith, l, enter_grows (parts_on table f).table (x (parts_on table f).number)))

  module _ (f g : Rule) (x : ℕ → ℕ → Part) where
    abbrev left : Entry
    left = parts_on table f

    abbrev right : Entry
    right = parts_on left.table g

    abbrev Whole : List Part → Option ℕ → Type 0
    Whole after number = Numbered after number (enter right.table (x left.number right.number))

    -- a side with no number leaves the whole with none
    none_left : (s after : List Part) {number : Option ℕ} (o : Option ℕ) → EntersPart s (two_sides x None o) after number → number ≡ None
    none_left s after (Some b) h = h
    none_left s after None h = h

    none_right : (s after : List Part) {number : Option ℕ} (o : Option ℕ) → EntersPart s (two_sides x o None) after number → number ≡ None
    none_right s after (Some a) h = h
    none_right s after None h = h

    then : {s₁ s₂ after : List Part} {k₁ k₂ number : Option ℕ} → s₁ ≡ left.table → k₁ ≡ Some left.number → Numbered s₂ k₂ (parts_on s₁ g) → EntersPart s₂ (two_sides x k₁ k₂) after number → Whole after number
    then {s₂ = s₂} {after = after} {k₁ = k₁} {k₂ = k₂} {number = number} a m (entries.all b n) r =
        subst (λ ps. Numbered after number (enter (parts_on ps g).table (x left.number (parts_on ps g).number))) a
        (subst₂ (λ ps o. EntersPart ps (two_sides x (Some left.number) o) after number) b n (subst (λ o. EntersPart s₂ (two_sides x o k₂) after number) m r))
    then {s₂ = s₂} {after = after} {k₁ = k₁} {k₂ = k₂} {number = number} a m (entries.over n l) r =
        let w : number ≡ None = none_right s₂ after k₁ (subst (λ o. EntersPart s₂ (two_sides x k₁ o) after number) n r) in
        entries.over w (omega (arith, l, ap (λ ps. length (parts_on ps g).table) a, enter_grows right.table (x left.number right.number)))

    pub two_enter : {s₁ s₂ after : List Part} {k₁ k₂ number : Option ℕ} (h : Rule) → ((ps : List Part) → parts_on ps h ≡ enter (parts_on (parts_on ps f).table g).table (x (parts_on ps f).number (parts_on (parts_on ps f).table g).number))
        → Enters table f s₁ k₁ → Enters s₁ g s₂ k₂ → EntersPart s₂ (two_sides x k₁ k₂) after number → Enters table h after number
    two_enter {s₁ = s₁} {s₂ = s₂} {after = after} {k₁ = k₁} {k₂ = k₂} {number = number} h is p q r = subst (Numbered after number) (sym (is table)) (go p)
      where
        go : Numbered s₁ k₁ left → Whole after number
        go (entries.all a m) = then a m q r
        go (entries.over m l) =
            entries.over (none_left s₂ after k₂ (subst (λ o. EntersPart s₂ (two_sides x o k₂) after number) m r))
            (omega (arith, l, parts_grow left.table g, enter_grows right.table (x left.number right.number)))
