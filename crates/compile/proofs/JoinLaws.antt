-- A sift, one set at a time, the front of a list that is written, and the shortest joins.
use Rattle.std.proofs.Common.{◌≡◌, ℕ, ◌+◌, ◌-◌, ◌*◌, ◌<◌, ◌≤◌, true, false, cond, ◌||◌, List, [], ◌∷◌, ◌++◌, length, get_or, take, drop, sym, refl, ap, ◌∙◌, le_refl, bit_or, mul-pos, mul-le-mul, zero-lt-suc, zero-mul, mul-zero, one-mul, arith, length-append}
use Rattle.std.proofs.lemmas.List.{append_assoc, at_drop_more, length-take-le, take-append-le}
use lib.Seq.{take-length}
use Rattle.std.proofs.lemmas.Bool.{cond-true, cond-false, cond_both}
use Rattle.std.specs.List.{list_any}
use Rattle.rules.specs.Sets.{sets, within, covered, sifted, trim, unions, fit, join_and}

-- a set contains one of these where a test of each says so
pub covered_any : (ys : List ℕ) (x : ℕ) → list_any (λ y. within y x) ys ≡ covered ys x
covered_any [] x = refl
covered_any (y ∷ ys) x = ap (λ b. within y x || b) (covered_any ys x)

-- a sift drops nothing that is kept
pub sifted_no_shorter : (kept xs : List ℕ) → length kept ≤ length (sifted kept xs)
unfolding sifted
sifted_no_shorter kept [] = le_refl _
sifted_no_shorter kept (x ∷ xs) =
    let next = cond (covered kept x) kept (kept ++ (x ∷ [])) in
    let grown : length kept ≤ length next = cond_both (covered kept x) kept (kept ++ (x ∷ [])) (λ l. length kept ≤ length l) (λ e. le_refl _) (λ e. omega (arith, length-append kept (x ∷ []))) in
    omega (arith, sifted_no_shorter next xs)

module _ (kept xs : List ℕ) (i : ℕ) (h : i < length xs) where
  pub sifted_passes : covered kept (get_or xs i 0) ≡ true → sifted kept (drop i xs) ≡ sifted kept (drop (i + 1) xs)
  unfolding sifted
  sifted_passes e = at_drop_more (sifted kept) xs i 0 h ∙ ap (λ l. sifted l (drop (i + 1) xs)) (cond-true _ _ _ e)

  pub sifted_takes : covered kept (get_or xs i 0) ≡ false → sifted kept (drop i xs) ≡ sifted (kept ++ (get_or xs i 0 ∷ [])) (drop (i + 1) xs)
  unfolding sifted
  sifted_takes e = at_drop_more (sifted kept) xs i 0 h ∙ ap (λ l. sifted l (drop (i + 1) xs)) (cond-false _ _ _ e)

-- the front of a list whose middle was written
pub take_mid : (a b : ℕ) (xs row rest : List ℕ) → a ≤ length xs → a ≤ b → length row ≡ b - a → take b (take a xs ++ (row ++ rest)) ≡ take a xs ++ row
take_mid a b xs row rest inside le width =
    let front = take a xs ++ row in
    let long : b ≡ length front = omega (arith, length-append (take a xs) row, length-take-le a xs inside) in
    ap (take b) (sym (append_assoc (take a xs) row rest)) ∙ ap (λ n. take n (front ++ rest)) long ∙ take-append-le (length front) front rest (omega arith) ∙ take-length front

-- ---- the shortest joins

unions_none : (xs : List ℕ) → unions xs [] ≡ []
unfolding unions
unions_none [] = refl
unions_none (x ∷ xs) = unions_none xs

-- with no set on a side there is no union
pub join_none : (xs ys : List ℕ) → length xs * length ys ≡ 0 → join_and (sets xs) (sets ys) ≡ sets []
unfolding join_and
join_none [] ys e = refl
join_none (x ∷ xs) [] e = ap (λ l. fit (trim l)) (unions_none (x ∷ xs))
join_none (x ∷ xs) (y ∷ ys) e =
    let some : 0 < length (x ∷ xs) * length (y ∷ ys) = mul-pos (zero-lt-suc _) (zero-lt-suc _) in
    absurd (omega (arith, some, e))

-- with one set on each there is one
pub join_one : (xs ys : List ℕ) → length xs * length ys ≡ 1 → join_and (sets xs) (sets ys) ≡ sets (bit_or (get_or xs 0 0) (get_or ys 0 0) ∷ [])
unfolding join_and
join_one [] ys e = absurd (omega (arith, zero-mul (length ys), e))
join_one (x ∷ xs) [] e = absurd (omega (arith, mul-zero (length (x ∷ xs)), e))
join_one (x ∷ []) (y ∷ []) e = refl
join_one (x ∷ []) (y ∷ z ∷ ys) e = absurd (omega (arith, one-mul (length (y ∷ z ∷ ys)), e))
join_one (x ∷ w ∷ xs) (y ∷ ys) e =
    let more : 2 ≤ length (x ∷ w ∷ xs) = omega arith in
    let some : 1 ≤ length (y ∷ ys) = omega arith in
    let two : 2 * 1 ≤ length (x ∷ w ∷ xs) * length (y ∷ ys) = mul-le-mul more some in
    absurd (omega (arith, two, e))
