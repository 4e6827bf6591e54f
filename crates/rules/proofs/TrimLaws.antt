-- What trimming leaves.
use Rattle.std.proofs.Common.{◌≡◌, ℕ, zero, suc, ◌/◌, ◌^◌, ◌<◌, ◌≤◌, true, false, cond, ◌||◌, leb, ◌⊎◌, ◌↔◌, List, [], ◌∷◌, ◌++◌, length, get_or, sym, refl, ap, ◌∙◌, subst, inl, inr, ⊎_elim, pow-suc, arith, length-append}
use lib.ListN.{get_or-append}
use lib.Seq.{get_or-append_seam}
use lib.Bits.{bit_and, and_self, and_le_l, and_le_r}
use Rattle.std.proofs.lemmas.Bool.{cond_both, leb-true, leb-false, eqb-true, eq-eqb, or_parts, cases_Bool, cases_eq, cases_lt, both_ways}
use Rattle.std.specs.List.Sorted.{IsPermutation, IsNonDecreasing}
use Rattle.std.proofs.ByRecursion.{has_get_or, has_shuffled}
use Rattle.std.proofs.lemmas.List.Sorted.{IsPermutation-sym}
use Rattle.rules.specs.Sets.{within, covered, insert, ascending, sifted, trim, Trimmed, Trims}
use Rattle.rules.proofs.BitLaws.{Any, bit_zero, bit_suc, bit_of_and}
use Rattle.rules.specs.Rule.{bit}

-- each number is at least the one before it, and the first at least b
abbrev Chain : ℕ → List ℕ → Type 0
Chain b [] = Unit {0}
Chain b (x ∷ xs) = (b ≤ x) × Chain x xs

chain_down : (a b : ℕ) (xs : List ℕ) → a ≤ b → Chain b xs → Chain a xs
chain_down a b [] l c = tt
chain_down a b (x ∷ xs) l c = (omega arith, c.1)

chain_insert : (b x : ℕ) (ys : List ℕ) → b ≤ x → Chain b ys → Chain b (insert x ys)
unfolding insert
chain_insert b x [] l c = (l, tt)
chain_insert b x (y ∷ ys) l c =
    cond_both (leb x y) (x ∷ y ∷ ys) (y ∷ insert x ys) (Chain b)
    (λ e. (l, (leb-true x y e, c.1)))
    (λ e. (let m : y ≤ x = omega (arith, leb-false x y e) in (c.0, chain_insert y x ys m c.1)))

chain_ascending : (xs : List ℕ) → Chain 0 (ascending xs)
unfolding ascending
chain_ascending [] = tt
chain_ascending (x ∷ xs) = chain_insert 0 x (ascending xs) (omega arith) (chain_ascending xs)

pub within_self : (x : ℕ) → within x x ≡ true
within_self x = eq-eqb (bit_and x x) x (and_self x)

within_least : (y x : ℕ) → within y x ≡ true → y ≤ x
within_least y x e = omega (arith, eqb-true (bit_and y x) y e, and_le_r y x)

not_covered : (kept : List ℕ) (x i : ℕ) → covered kept x ≡ false → i < length kept → within (get_or kept i 0) x ≡ true → ⊥
not_covered [] x i e l w = omega arith
not_covered (y ∷ ys) x zero e l w = both_ways (within y x) (or_parts (within y x) (covered ys x) e).0 w
not_covered (y ∷ ys) x (suc i) e l w = not_covered ys x i (or_parts (within y x) (covered ys x) e).1 (omega arith) w

module _ (kept : List ℕ) (x : ℕ) (t : Trimmed kept) (m : (i : ℕ) → i < length kept → get_or kept i 0 ≤ x) (c : covered kept x ≡ false) where
  at_front : (i : ℕ) → i < length kept → get_or (kept ++ (x ∷ [])) i 0 ≡ get_or kept i 0
  at_front i l = get_or-append kept (x ∷ []) 0 i l

  at_end : (i : ℕ) → i ≡ length kept → get_or (kept ++ (x ∷ [])) i 0 ≡ x
  at_end i e = ap (λ j. get_or (kept ++ (x ∷ [])) j 0) e ∙ get_or-append_seam kept x [] 0

  below : (i : ℕ) → i < length kept → get_or kept i 0 < x
  below i l =
      ⊎_elim
      (λ e. absurd (not_covered kept x i c l (subst (λ y. within y x ≡ true) (sym e) (within_self x))))
      (λ no. omega (arith, m i l))
      (cases_eq (get_or kept i 0) x)

  where_at : (i : ℕ) → i < length (kept ++ (x ∷ [])) → (i < length kept) ⊎ (i ≡ length kept)
  where_at i l = ⊎_elim inl (λ h. inr (omega (arith, length-append kept (x ∷ [])))) (cases_lt i (length kept))

  trimmed_more : Trimmed (kept ++ (x ∷ []))
  trimmed_more = record {
    ascends = λ i j l n. elim (where_at j n) [
      | inl h ↦ rw (at_front i (omega arith), at_front j h) (t.ascends i j l h)
      | inr e ↦ rw (at_front i (omega arith), at_end j e) (below i (omega arith))
    ];
    apart = λ i j l n w. elim (where_at i l) [
      | inl h ↦ elim (where_at j n) [
        | inl k ↦ t.apart i j h k (rw (at_front i h, at_front j k) at w)
        | inr k ↦ absurd (not_covered kept x i c h (rw (at_front i h, at_end j k) at w))
      ]
      | inr h ↦ elim (where_at j n) [
        | inl k ↦ (
            let v : within x (get_or kept j 0) ≡ true = rw (at_end i h, at_front j k) at w in
            absurd (omega (arith, within_least x (get_or kept j 0) v, below j k)))
        | inr k ↦ h ∙ sym k
      ]
    ];
  }

  most_more : (i : ℕ) → i < length (kept ++ (x ∷ [])) → get_or (kept ++ (x ∷ [])) i 0 ≤ x
  most_more i l = elim (where_at i l) [
    | inl h ↦ rw (at_front i h) (m i h)
    | inr e ↦ rw (at_end i e) (omega arith)
  ]

sifted_trimmed : (kept xs : List ℕ) (b : ℕ) → Trimmed kept → ((i : ℕ) → i < length kept → get_or kept i 0 ≤ b) → Chain b xs → Trimmed (sifted kept xs)
unfolding sifted
sifted_trimmed kept [] b t m h = t
sifted_trimmed kept (x ∷ xs) b t m h = elim (cases_Bool (covered kept x)) [
  | inl e ↦ rw e (sifted_trimmed kept xs x t (λ i l. omega (arith, m i l, h.0)) h.1)
  | inr e ↦ rw e (sifted_trimmed (kept ++ (x ∷ [])) xs x
      (trimmed_more kept x t (λ i l. omega (arith, m i l, h.0)) e)
      (most_more kept x t (λ i l. omega (arith, m i l, h.0)) e)
      h.1)
]

trimmed_trim : (xs : List ℕ) → Trimmed (trim xs)
unfolding trim
trimmed_trim xs = sifted_trimmed [] (ascending xs) 0 (record { ascends = λ i j l n. absurd (omega arith); apart = λ i j l n w. absurd (omega arith) }) (λ i l. absurd (omega arith)) (chain_ascending xs)

-- which sets are left
any_at : (P : ℕ → Type 0) (xs : List ℕ) → Any P xs → (i : ℕ) × (i < length xs) × P (get_or xs i 0)
any_at P [] h = absurd h
any_at P (x ∷ xs) h = elim h [
  | inl p ↦ (0, omega arith, p)
  | inr r ↦ (let s = any_at P xs r in (suc s.0, omega (arith, s.1), s.2))
]

at_any : (P : ℕ → Type 0) (xs : List ℕ) (i : ℕ) → i < length xs → P (get_or xs i 0) → Any P xs
at_any P [] i l p = absurd (omega arith)
at_any P (x ∷ xs) zero l p = inl p
at_any P (x ∷ xs) (suc i) l p = inr (at_any P xs i (omega arith) p)

any_insert : (P : ℕ → Type 0) (x : ℕ) (ys : List ℕ) → Any P (insert x ys) ↔ (P x ⊎ Any P ys)
unfolding insert
any_insert P x [] = (λ h. h, λ h. h)
any_insert P x (y ∷ ys) =
    let rest = any_insert P x ys in
    cond_both (leb x y) (x ∷ y ∷ ys) (y ∷ insert x ys) (λ l. Any P l ↔ (P x ⊎ Any P (y ∷ ys)))
    (λ e. (λ h. h, λ h. h))
    (λ e. (
      ⊎_elim (λ p. inr (inl p)) (λ r. ⊎_elim inl (λ p. inr (inr p)) (rest.0 r)),
      ⊎_elim (λ p. inr (rest.1 (inl p))) (⊎_elim inl (λ r. inr (rest.1 (inr r)))),
    ))

any_ascending : (P : ℕ → Type 0) (xs : List ℕ) → Any P (ascending xs) ↔ Any P xs
unfolding ascending
any_ascending P [] = (λ h. h, λ h. h)
any_ascending P (x ∷ xs) =
    let one = any_insert P x (ascending xs) in
    let rest = any_ascending P xs in
    (λ h. ⊎_elim inl (λ r. inr (rest.0 r)) (one.0 h), λ h. one.1 (⊎_elim inl (λ r. inr (rest.1 r)) h))

any_append : (P : ℕ → Type 0) (xs ys : List ℕ) → Any P (xs ++ ys) ↔ (Any P xs ⊎ Any P ys)
any_append P [] ys = (inr, ⊎_elim (λ c. absurd c) (λ c. c))
any_append P (x ∷ xs) ys =
    let rest = any_append P xs ys in
    (⊎_elim (λ p. inl (inl p)) (λ r. ⊎_elim (λ p. inl (inr p)) inr (rest.0 r)), ⊎_elim (⊎_elim inl (λ r. inr (rest.1 (inl r)))) (λ r. inr (rest.1 (inr r))))

sifted_from : (P : ℕ → Type 0) (kept xs : List ℕ) → Any P (sifted kept xs) → Any P kept ⊎ Any P xs
unfolding sifted
sifted_from P kept [] h = inl h
sifted_from P kept (x ∷ xs) h = elim (sifted_from P (cond (covered kept x) kept (kept ++ (x ∷ []))) xs h) [
  | inl k ↦ (
      let two : Any P kept ⊎ P x = cond_both (covered kept x) kept (kept ++ (x ∷ [])) (λ l. Any P l → Any P kept ⊎ P x) (λ e p. inl p) (λ e p. ⊎_elim inl (λ q. ⊎_elim inr (λ c. absurd c) q) ((any_append P kept (x ∷ [])).0 p)) k in
      ⊎_elim inl (λ p. inr (inl p)) two)
  | inr r ↦ inr (inr r)
]

sifted_keeps : (P : ℕ → Type 0) (kept xs : List ℕ) → Any P kept → Any P (sifted kept xs)
unfolding sifted
sifted_keeps P kept [] h = h
sifted_keeps P kept (x ∷ xs) h =
    sifted_keeps P (cond (covered kept x) kept (kept ++ (x ∷ []))) xs
    (cond_both (covered kept x) kept (kept ++ (x ∷ [])) (Any P) (λ e. h) (λ e. (any_append P kept (x ∷ [])).1 (inl h)))

covered_any : (kept : List ℕ) (x : ℕ) → covered kept x ≡ true → Any (λ y. within y x ≡ true) kept
covered_any [] x e = cc
covered_any (y ∷ ys) x e = elim (cases_Bool (within y x)) [
  | inl w ↦ inl w
  | inr w ↦ inr (covered_any ys x (subst (λ b. (b || covered ys x) ≡ true) w e))
]

sifted_covers : (kept xs : List ℕ) (x : ℕ) → Any (λ y. y ≡ x) xs → Any (λ y. within y x ≡ true) (sifted kept xs)
unfolding sifted
sifted_covers kept [] x h = absurd h
sifted_covers kept (y ∷ ys) x h = elim h [
  | inl e ↦ sifted_keeps (λ z. within z x ≡ true) (cond (covered kept y) kept (kept ++ (y ∷ []))) ys
      (cond_both (covered kept y) kept (kept ++ (y ∷ [])) (Any (λ z. within z x ≡ true))
      (λ c. covered_any kept x (subst (λ z. covered kept z ≡ true) e c))
      (λ c. (any_append (λ z. within z x ≡ true) kept (y ∷ [])).1 (inr (inl (subst (λ z. within y z ≡ true) e (within_self y))))))
  | inr r ↦ sifted_covers (cond (covered kept y) kept (kept ++ (y ∷ []))) ys x r
]

taken_trim : (xs : List ℕ) (i : ℕ) → i < length (trim xs) → (j : ℕ) × (j < length xs) × (get_or xs j 0 ≡ get_or (trim xs) i 0)
unfolding trim
taken_trim xs i l =
    let x = get_or (trim xs) i 0 in
    any_at (λ y. y ≡ x) xs ((any_ascending (λ y. y ≡ x) xs).0 (⊎_elim (λ c. absurd c) (λ c. c) (sifted_from (λ y. y ≡ x) [] (ascending xs) (at_any (λ y. y ≡ x) (trim xs) i l refl))))

covers_trim : (xs : List ℕ) (j : ℕ) → j < length xs → (i : ℕ) × (i < length (trim xs)) × (within (get_or (trim xs) i 0) (get_or xs j 0) ≡ true)
unfolding trim
covers_trim xs j l =
    let x = get_or xs j 0 in
    any_at (λ y. within y x ≡ true) (trim xs) (sifted_covers [] (ascending xs) x ((any_ascending (λ y. y ≡ x) xs).1 (at_any (λ y. y ≡ x) xs j l refl)))

pub trim_right : (xs : List ℕ) → Trims xs (trim xs)
trim_right xs = record { trimmed = trimmed_trim xs; taken = taken_trim xs; covers = covers_trim xs }

-- what contains what
same_bits : (d a b : ℕ) → a < 2 ^ d → b < 2 ^ d → ((k : ℕ) → bit a k ≡ bit b k) → a ≡ b
same_bits zero a b p q h = omega arith
same_bits (suc d) a b p q h =
    let high = same_bits d (a / 2) (b / 2) (omega (arith, pow-suc 2 d)) (omega (arith, pow-suc 2 d)) (λ k. sym (bit_suc a k) ∙ h (suc k) ∙ bit_suc b k) in
    omega (arith, high, bit_zero a, bit_zero b, h 0)

below_pow : (n : ℕ) → n < 2 ^ n
below_pow zero = omega arith
below_pow (suc n) = omega (arith, below_pow n, pow-suc 2 n)

within_trans : (a b c : ℕ) → within a b ≡ true → within b c ≡ true → within a c ≡ true
within_trans a b c e f =
    let p : bit_and a b ≡ a = eqb-true (bit_and a b) a e in
    let q : bit_and b c ≡ b = eqb-true (bit_and b c) b f in
    eq-eqb (bit_and a c) a (same_bits a (bit_and a c) a (omega (arith, and_le_l a c, below_pow a)) (below_pow a)
    (λ k. omega (arith, bit_of_and a c k, bit_of_and a b k, bit_of_and b c k, ap (λ n. bit n k) p, ap (λ n. bit n k) q)))

-- each set that one way leaves, any other leaves
left_both : (xs ys zs : List ℕ) → Trims xs ys → Trims xs zs → (i : ℕ) → i < length ys → (k : ℕ) × (k < length zs) × (get_or zs k 0 ≡ get_or ys i 0)
left_both xs ys zs t u i l =
    let (j, jl, je) = t.taken i l in
    let (k, kl, kw) = u.covers j jl in
    let (m, ml, me) = u.taken k kl in
    let (n, nl, nw) = t.covers m ml in
    let down : within (get_or zs k 0) (get_or ys i 0) ≡ true = subst (λ x. within (get_or zs k 0) x ≡ true) je kw in
    let up : within (get_or ys n 0) (get_or zs k 0) ≡ true = subst (λ x. within (get_or ys n 0) x ≡ true) me nw in
    let same : n ≡ i = t.trimmed.apart n i nl l (within_trans (get_or ys n 0) (get_or zs k 0) (get_or ys i 0) up down) in
    let up' : within (get_or ys i 0) (get_or zs k 0) ≡ true = subst (λ x. within (get_or ys x 0) (get_or zs k 0) ≡ true) same up in
    (k, kl, omega (arith, within_least (get_or zs k 0) (get_or ys i 0) down, within_least (get_or ys i 0) (get_or zs k 0) up'))

abbrev Ascends : List ℕ → Type 0
Ascends xs = (i j : ℕ) → i < j → j < length xs → get_or xs i 0 < get_or xs j 0

abbrev Inside : List ℕ → List ℕ → Type 0
Inside ys zs = (i : ℕ) → i < length ys → (k : ℕ) × (k < length zs) × (get_or zs k 0 ≡ get_or ys i 0)

head_least : (x : ℕ) (xs : List ℕ) → Ascends (x ∷ xs) → (k : ℕ) → k < suc (length xs) → x ≤ get_or (x ∷ xs) k 0
head_least x xs a zero l = omega arith
head_least x xs a (suc k) l = omega (arith, a 0 (suc k) (omega arith) l)

tail_inside : (y z : ℕ) (ys zs : List ℕ) → y ≡ z → Ascends (y ∷ ys) → Inside (y ∷ ys) (z ∷ zs) → Inside ys zs
tail_inside y z ys zs e a h i l = go (h (suc i) (omega arith)).0 (h (suc i) (omega arith)).1 (h (suc i) (omega arith)).2
  where
    go : (k : ℕ) → k < suc (length zs) → get_or (z ∷ zs) k 0 ≡ get_or ys i 0 → (k : ℕ) × (k < length zs) × (get_or zs k 0 ≡ get_or ys i 0)
    go zero m f = absurd (omega (arith, a 0 (suc i) (omega arith) (omega arith)))
    go (suc k) m f = (k, omega arith, f)

same_ascending : (ys zs : List ℕ) → Ascends ys → Ascends zs → Inside ys zs → Inside zs ys → ys ≡ zs
same_ascending [] [] a b h g = refl
same_ascending [] (z ∷ zs) a b h g = absurd (omega (arith, (g 0 (omega arith)).1))
same_ascending (y ∷ ys) [] a b h g = absurd (omega (arith, (h 0 (omega arith)).1))
same_ascending (y ∷ ys) (z ∷ zs) a b h g =
    let (k, kl, ke) = h 0 (omega arith) in
    let (m, ml, me) = g 0 (omega arith) in
    let e : y ≡ z = omega (arith, head_least z zs b k kl, head_least y ys a m ml) in
    let rest : ys ≡ zs = same_ascending ys zs (λ i j l n. a (suc i) (suc j) (omega arith) (omega arith)) (λ i j l n. b (suc i) (suc j) (omega arith) (omega arith)) (tail_inside y z ys zs e a h) (tail_inside z y zs ys (sym e) b g) in
    cc

pub one_trim : (xs ys zs : List ℕ) → Trims xs ys → Trims xs zs → ys ≡ zs
one_trim xs ys zs t u = same_ascending ys zs t.trimmed.ascends u.trimmed.ascends (left_both xs ys zs t u) (left_both xs zs ys u t)

-- any sorted shuffle serves
chain_rising : (b : ℕ) (xs : List ℕ) → ((i : ℕ) → i < length xs → b ≤ get_or xs i 0) → IsNonDecreasing xs → Chain b xs
chain_rising b [] l r = tt
chain_rising b (x ∷ xs) l r = (l 0 (omega arith), chain_rising x xs (λ i h. r 0 (suc i) 0 (omega arith) (omega arith)) (λ i j d h m. r (suc i) (suc j) d (omega arith) (omega arith)))

inside_shuffled : (xs ys : List ℕ) → IsPermutation xs ys → Inside xs ys
inside_shuffled xs ys s i l = let h = has_shuffled xs ys (get_or xs i 0) s (has_get_or xs i 0 l) in (h.0, h.1, h.2 0)

any_inside : (P : ℕ → Type 0) (xs ys : List ℕ) → Inside xs ys → Any P xs → Any P ys
any_inside P xs ys h a =
    let (i, l, p) = any_at P xs a in
    let (k, kl, ke) = h i l in
    at_any P ys k kl (subst P (sym ke) p)

module _ (xs ys : List ℕ) (s : IsPermutation xs ys) (r : IsNonDecreasing ys) where
  sifted_right : Trims xs (sifted [] ys)
  sifted_right = record {
    trimmed = sifted_trimmed [] ys 0 (record { ascends = λ i j l n. absurd (omega arith); apart = λ i j l n w. absurd (omega arith) }) (λ i l. absurd (omega arith)) (chain_rising 0 ys (λ i l. omega arith) r);
    taken = λ i l. (
        let x = get_or (sifted [] ys) i 0 in
        any_at (λ y. y ≡ x) xs (any_inside (λ y. y ≡ x) ys xs (inside_shuffled ys xs (IsPermutation-sym xs ys s)) (⊎_elim (λ c. absurd c) (λ c. c) (sifted_from (λ y. y ≡ x) [] ys (at_any (λ y. y ≡ x) (sifted [] ys) i l refl)))));
    covers = λ j l. (
        let x = get_or xs j 0 in
        any_at (λ y. within y x ≡ true) (sifted [] ys) (sifted_covers [] ys x (any_inside (λ y. y ≡ x) xs ys (inside_shuffled xs ys s) (at_any (λ y. y ≡ x) xs j l refl))));
  }

  pub sifted_sorted : sifted [] ys ≡ trim xs
  sifted_sorted = one_trim xs (sifted [] ys) (trim xs) sifted_right (trim_right xs)
