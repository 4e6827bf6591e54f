-- Where a run is found among stored names.
use Rattle.std.proofs.Common.{◌≡◌, ℕ, zero, suc, ◌-◌, ◌<◌, ◌≤◌, true, false, ◌⊎◌, ◌↔◌, List, [], ◌∷◌, map, length, get_or, take, replicate, Some, None, sym, refl, ap, ◌∙◌, subst, inl, inr, arith}
use Rattle.std.specs.List.{AllByRecursion}
use Rattle.std.proofs.lemmas.List.{length-map, length-take, get_or-take, get_or_default, get_or_append_left, get_or-map}
use Rattle.std.proofs.ByRecursion.{All-get_or}
use Rattle.std.proofs.lemmas.Bool.{cases_lt, cases_Bool, cond-true, cond-false, le-leb, lt-leb, both_ways}
use Rattle.register.specs.Places.{First}
use Rattle.words.specs.declared.name.Name.{Name}
use Rattle.words.specs.Names.{padding, name_of, same_name, HoldsNames, Named}
use Rattle.words.specs.Signals.{In, Distinct}
use Rattle.words.proofs.PlainLaws.{Plain}
use Rattle.words.proofs.NameLaws.{padding_one, room}
use Rattle.terms.proofs.ListLaws.{same_list_decides}

-- names that are the same are equal
name_equal : (a b : Name) → same_name a b ≡ true → b ≡ a
name_equal a b h = let wrap : List ℕ → Name = λ l. record { bytes = l } in ap wrap (sym ((same_list_decides a.bytes b.bytes).0 h))

name_self : (a b : Name) → b ≡ a → same_name a b ≡ true
name_self a b e = (same_list_decides a.bytes b.bytes).1 (ap (λ n. n.bytes) (sym e))

-- a run that is a name has at most eight bytes
pub name_of_some : (x : List ℕ) (n : Name) → name_of x ≡ Some n → (length x ≤ 8) × (n ≡ padding x)
name_of_some x n e = go (cases_lt 8 (length x))
  where
    go : (8 < length x) ⊎ (length x ≤ 8) → (length x ≤ 8) × (n ≡ padding x)
    go (inl l) = let none : name_of x ≡ None = cond-false _ _ _ (lt-leb (length x) 8 l) in cc
    go (inr l) = let same_Some : Some n ≡ Some (padding x) = sym e ∙ cond-true _ _ _ (le-leb (length x) 8 l) in (l, (cc))

module _ (store : List Name) (run : List ℕ) (used k : ℕ) where
  -- the first name in use that is the same is the one that is sought
  pub first_named : length run ≤ 8 → First same_name (padding run) (length (take used store)) (take used store) k → Named store used run k
  first_named short f =
      let lt = f.within in
      let few = length-take used store in
      let within : k < used = omega arith in
      record {
        short = short;
        within = within;
        stored = omega arith;
        is = name_equal (padding run) (get_or store k (padding [])) (ap (same_name (padding run)) (sym (get_or-take used store k (padding []) within)) ∙ f.alike (padding []));
        before = λ i l e. both_ways _ (f.before i (padding []) l) (name_self (padding run) (get_or (take used store) i (padding [])) (get_or-take used store i (padding []) (omega arith) ∙ e));
      }

  pub named_first : Named store used run k → First same_name (padding run) (length (take used store)) (take used store) k
  named_first n =
      let few = length-take used store in
      let lt = n.within in
      let le = n.stored in
      record {
        within = omega arith;
        alike = λ d. name_self (padding run) (get_or (take used store) k d) (get_or-take used store k d lt ∙ get_or_default store k d (padding []) le ∙ n.is);
        before = λ i d l. go i d l (cases_Bool (same_name (padding run) (get_or (take used store) i d)));
      }
    where
      go : (i : ℕ) (d : Name) → i < k → (same_name (padding run) (get_or (take used store) i d) ≡ true) ⊎ (same_name (padding run) (get_or (take used store) i d) ≡ false) → same_name (padding run) (get_or (take used store) i d) ≡ false
      go i d l (inl h) =
          absurd (n.before i l (get_or_default store i (padding []) d (omega (arith, n.stored)) ∙ sym (get_or-take used store i d (omega (arith, n.within))) ∙ name_equal (padding run) (get_or (take used store) i d) h))
      go i d l (inr h) = h

-- a name is one of those that it stands among
in_at : (xs : List (List ℕ)) (k : ℕ) → k < length xs → In (get_or xs k []) xs
in_at [] k h = absurd (omega arith)
in_at (x ∷ xs) zero h = inl refl
in_at (x ∷ xs) (suc k) h = inr (in_at xs k (omega arith))

-- distinct names stand at one place each
distinct_at : (xs : List (List ℕ)) (i k : ℕ) → Distinct xs → i < k → k < length xs → get_or xs i [] ≡ get_or xs k [] → ⊥
distinct_at [] i k d l h e = omega arith
distinct_at (x ∷ xs) zero zero d l h e = omega arith
distinct_at (x ∷ xs) zero (suc k) d l h e = d.0 (subst (λ y. In y xs) (sym e) (in_at xs k (omega arith)))
distinct_at (x ∷ xs) (suc i) zero d l h e = omega arith
distinct_at (x ∷ xs) (suc i) (suc k) d l h e = distinct_at xs i k d.1 (omega arith) (omega arith) e

module _ (xs : List (List ℕ)) (store : List Name) (holds : HoldsNames xs store) where
  at_name : (k : ℕ) → k < length xs → get_or store k (padding []) ≡ padding (get_or xs k [])
  at_name k h =
      ap (λ s. get_or s k (padding [])) holds
      ∙ get_or_append_left (map padding xs) (replicate (length store - length xs) (padding [])) (padding []) k (omega (arith, length-map xs padding))
      ∙ get_or-map padding xs k [] (padding []) h

  module _ (plain : AllByRecursion Plain xs) (short : AllByRecursion (λ x. length x ≤ 8) xs) (distinct : Distinct xs) (run : List ℕ) (clear : Plain run) (used : ℕ) (is : used ≡ length xs) (k : ℕ) where
    same_at : (i : ℕ) → i < length xs → get_or store i (padding []) ≡ padding run → get_or xs i [] ≡ run
    same_at i h e = padding_one (get_or xs i []) run (All-get_or Plain xs i [] h plain) clear (name_self (padding (get_or xs i [])) (padding run) (sym e ∙ at_name i h))

    -- in a store that holds the names of a text, a run is sought at the place where it is written
    pub named_written : Named store used run k ↔ ((k < length xs) × (get_or xs k [] ≡ run))
    named_written = (to, from)
      where
        to : Named store used run k → (k < length xs) × (get_or xs k [] ≡ run)
        to n = let lt = n.within in let h : k < length xs = omega arith in (h, same_at k h n.is)

        from : (k < length xs) × (get_or xs k [] ≡ run) → Named store used run k
        from h =
            let lt = h.0 in
            let few : length (get_or xs k []) ≤ 8 = All-get_or (λ x. length x ≤ 8) xs k [] lt short in
            record {
              short = subst (λ x. length x ≤ 8) h.1 few;
              within = omega arith;
              stored = omega (arith, room xs store holds);
              is = at_name k lt ∙ ap padding h.1;
              before = λ i l e. distinct_at xs i k distinct l lt (same_at i (omega arith) e ∙ sym h.1);
            }
