-- Joining and trimming keep what a list says of failing.
use Rattle.std.specs.Prelude.{◌≡◌, ℕ, ◌^◌, ◌<◌, min, true, cond, ◌⊎◌, ◌↔◌, List, [], ◌∷◌, ◌++◌, map, length, nat_le}
use Rattle.std.proofs.Common.{sym, ap, subst, ◌∙◌, inl, inr, ⊎_elim, arith}
use Rattle.std.proofs.Math.Logic.Iff
use Rattle.std.specs.Int.Bits.{bit_and, bit_or}
use Rattle.std.proofs.lemmas.Bool.{cond_both, eqb-true, or_cases, cases_eq}
use Rattle.rules.specs.Rule.{bit}
use Rattle.rules.specs.Sets.{within, covered, insert, ascending, sifted, trim, unions, Sets, too_wide, sets, fit, join_or, join_and}
use Rattle.rules.proofs.BitLaws.{bit_of_and, bit_of_or, bit_none, bit_own, bit_other}

-- a set fails when one of its duties does: Q says which duties do
abbrev pub Bad : (ℕ → Type 0) → ℕ → Type 0
Bad Q m = (d : ℕ) × (d < 32) × (bit m d ≡ 1) × Q d

-- a list fails when every set does
abbrev pub AllBad : (ℕ → Type 0) → List ℕ → Type 0
AllBad Q [] = Unit {0}
AllBad Q (x ∷ xs) = Bad Q x × AllBad Q xs

-- the list is too wide, or it fails exactly when A
abbrev pub Says : (ℕ → Type 0) → Sets → Type 0 → Type 0
Says Q too_wide A = Unit {0}
Says Q (sets xs) A = AllBad Q xs ↔ A

pub says_iff : {A B : Type 0} (Q : ℕ → Type 0) (s : Sets) → A ↔ B → Says Q s A → Says Q s B
says_iff Q too_wide e h = tt
says_iff Q (sets xs) e h = Iff.trans h e

bad_left : (Q : ℕ → Type 0) (a b : ℕ) → Bad Q a → Bad Q (bit_or a b)
bad_left Q a b h = (h.0, h.1, omega (arith, bit_of_or a b h.0), h.3)

bad_right : (Q : ℕ → Type 0) (a b : ℕ) → Bad Q b → Bad Q (bit_or a b)
bad_right Q a b h = (h.0, h.1, omega (arith, bit_of_or a b h.0), h.3)

bad_or : (Q : ℕ → Type 0) (a b : ℕ) → Bad Q (bit_or a b) → Bad Q a ⊎ Bad Q b
bad_or Q a b h =
    ⊎_elim
    (λ e. inl (h.0, h.1, e, h.3))
    (λ no. inr (h.0, h.1, omega (arith, bit_of_or a b h.0), h.3))
    (cases_eq (bit a h.0) 1)

bad_within : (Q : ℕ → Type 0) (y x : ℕ) → within y x ≡ true → Bad Q y → Bad Q x
bad_within Q y x w h =
    let e : bit_and y x ≡ y = eqb-true (bit_and y x) y w in
    let b : bit y h.0 ≡ min (bit y h.0) (bit x h.0) = sym (ap (λ n. bit n h.0) e) ∙ bit_of_and y x h.0 in
    (h.0, h.1, omega arith, h.3)

bad_none : (Q : ℕ → Type 0) → Bad Q 0 → ⊥
bad_none Q h = omega (arith, bit_none h.0)

bad_own : (Q : ℕ → Type 0) (e : ℕ) → e < 32 → Bad Q (2 ^ e) ↔ Q e
bad_own Q e l = (λ h. subst Q (bit_other e h.0 h.2) h.3, λ q. (e, l, bit_own e, q))

-- lists
all_append : (Q : ℕ → Type 0) (xs ys : List ℕ) → AllBad Q (xs ++ ys) ↔ (AllBad Q xs × AllBad Q ys)
all_append Q [] ys = (λ h. (tt, h), λ h. h.1)
all_append Q (x ∷ xs) ys = (
  λ h. (let t = (all_append Q xs ys).0 h.1 in ((h.0, t.0), t.1)),
  λ h. (h.0.0, (all_append Q xs ys).1 (h.0.1, h.1)),
)

all_insert : (Q : ℕ → Type 0) (x : ℕ) (ys : List ℕ) → AllBad Q (insert x ys) ↔ (Bad Q x × AllBad Q ys)
unfolding insert
all_insert Q x [] = (λ h. h, λ h. h)
all_insert Q x (y ∷ ys) =
    cond_both (nat_le x y) (x ∷ y ∷ ys) (y ∷ insert x ys) (λ l. AllBad Q l ↔ (Bad Q x × AllBad Q (y ∷ ys)))
    (λ e. (λ h. h, λ h. h))
    (λ e. (
      λ h. (let t = (all_insert Q x ys).0 h.1 in (t.0, (h.0, t.1))),
      λ h. (h.1.0, (all_insert Q x ys).1 (h.0, h.1.1)),
    ))

all_ascending : (Q : ℕ → Type 0) (xs : List ℕ) → AllBad Q (ascending xs) ↔ AllBad Q xs
unfolding ascending
all_ascending Q [] = (λ h. h, λ h. h)
all_ascending Q (x ∷ xs) =
    let step = all_insert Q x (ascending xs) in
    let rest = all_ascending Q xs in
    (λ h. ((step.0 h).0, rest.0 (step.0 h).1), λ h. step.1 (h.0, rest.1 h.1))

covered_bad : (Q : ℕ → Type 0) (kept : List ℕ) (x : ℕ) → covered kept x ≡ true → AllBad Q kept → Bad Q x
covered_bad Q [] x e h = cc
covered_bad Q (y ∷ ys) x e h =
    ⊎_elim (λ w. bad_within Q y x w h.0) (λ c. covered_bad Q ys x c h.1) (or_cases (within y x) (covered ys x) e)

all_kept : (Q : ℕ → Type 0) (kept : List ℕ) (x : ℕ) → AllBad Q (cond (covered kept x) kept (kept ++ (x ∷ []))) ↔ (AllBad Q kept × Bad Q x)
all_kept Q kept x =
    cond_both (covered kept x) kept (kept ++ (x ∷ [])) (λ l. AllBad Q l ↔ (AllBad Q kept × Bad Q x))
    (λ e. (λ h. (h, covered_bad Q kept x e h), λ h. h.0))
    (λ e. (λ h. (let t = (all_append Q kept (x ∷ [])).0 h in (t.0, t.1.0)), λ h. (all_append Q kept (x ∷ [])).1 (h.0, (h.1, tt))))

all_sifted : (Q : ℕ → Type 0) (kept xs : List ℕ) → AllBad Q (sifted kept xs) ↔ (AllBad Q kept × AllBad Q xs)
unfolding sifted
all_sifted Q kept [] = (λ h. (h, tt), λ h. h.0)
all_sifted Q kept (x ∷ xs) =
    let rest = all_sifted Q (cond (covered kept x) kept (kept ++ (x ∷ []))) xs in
    let one = all_kept Q kept x in
    (λ h. ((one.0 (rest.0 h).0).0, ((one.0 (rest.0 h).0).1, (rest.0 h).1)), λ h. rest.1 (one.1 (h.0, h.1.0), h.1.1))

-- trimming keeps failing
pub all_trim : (Q : ℕ → Type 0) (xs : List ℕ) → AllBad Q (trim xs) ↔ AllBad Q xs
unfolding trim
all_trim Q xs = (
  λ h. (all_ascending Q xs).0 ((all_sifted Q [] (ascending xs)).0 h).1,
  λ h. (all_sifted Q [] (ascending xs)).1 (tt, (all_ascending Q xs).1 h),
)

-- the unions with one set
one_to : (Q : ℕ → Type 0) (x : ℕ) (ys : List ℕ) → AllBad Q (map (bit_or x) ys) → Bad Q x ⊎ AllBad Q ys
one_to Q x [] h = inr tt
one_to Q x (y ∷ ys) h =
    ⊎_elim inl (λ b. ⊎_elim inl (λ t. inr (b, t)) (one_to Q x ys h.1)) (bad_or Q x y h.0)

one_left : (Q : ℕ → Type 0) (x : ℕ) (ys : List ℕ) → Bad Q x → AllBad Q (map (bit_or x) ys)
one_left Q x [] b = tt
one_left Q x (y ∷ ys) b = (bad_left Q x y b, one_left Q x ys b)

one_right : (Q : ℕ → Type 0) (x : ℕ) (ys : List ℕ) → AllBad Q ys → AllBad Q (map (bit_or x) ys)
one_right Q x [] b = tt
one_right Q x (y ∷ ys) b = (bad_right Q x y b.0, one_right Q x ys b.1)

unions_to : (Q : ℕ → Type 0) (xs ys : List ℕ) → AllBad Q (unions xs ys) → AllBad Q xs ⊎ AllBad Q ys
unfolding unions
unions_to Q [] ys h = inl tt
unions_to Q (x ∷ xs) ys h =
    let t = (all_append Q (map (bit_or x) ys) (unions xs ys)).0 h in
    ⊎_elim (λ b. ⊎_elim (λ c. inl (b, c)) inr (unions_to Q xs ys t.1)) inr (one_to Q x ys t.0)

unions_left : (Q : ℕ → Type 0) (xs ys : List ℕ) → AllBad Q xs → AllBad Q (unions xs ys)
unfolding unions
unions_left Q [] ys h = tt
unions_left Q (x ∷ xs) ys h = (all_append Q (map (bit_or x) ys) (unions xs ys)).1 (one_left Q x ys h.0, unions_left Q xs ys h.1)

unions_right : (Q : ℕ → Type 0) (xs ys : List ℕ) → AllBad Q ys → AllBad Q (unions xs ys)
unfolding unions
unions_right Q [] ys h = tt
unions_right Q (x ∷ xs) ys h = (all_append Q (map (bit_or x) ys) (unions xs ys)).1 (one_right Q x ys h, unions_right Q xs ys h)

-- joining
fit_says : {A : Type 0} (Q : ℕ → Type 0) (xs : List ℕ) → AllBad Q xs ↔ A → Says Q (fit xs) A
fit_says {A} Q xs h = cond_both (nat_le (length xs) 32) (sets xs) too_wide (λ s. Says Q s A) (λ e. h) (λ e. tt)

pub or_says : (A B : Type 0) (Q : ℕ → Type 0) (s t : Sets) → Says Q s A → Says Q t B → Says Q (join_or s t) (A × B)
unfolding join_or
or_says A B Q too_wide t h k = tt
or_says A B Q (sets xs) too_wide h k = tt
or_says A B Q (sets xs) (sets ys) h k = fit_says Q (trim (xs ++ ys)) (
  λ l. (let t = (all_append Q xs ys).0 ((all_trim Q (xs ++ ys)).0 l) in (h.0 t.0, k.0 t.1)),
  λ l. (all_trim Q (xs ++ ys)).1 ((all_append Q xs ys).1 (h.1 l.0, k.1 l.1)),
)

pub and_says : (A B : Type 0) (Q : ℕ → Type 0) (s t : Sets) → Says Q s A → Says Q t B → Says Q (join_and s t) (A ⊎ B)
unfolding join_and
and_says A B Q too_wide t h k = tt
and_says A B Q (sets xs) too_wide h k = tt
and_says A B Q (sets xs) (sets ys) h k = fit_says Q (trim (unions xs ys)) (
  λ l. ⊎_elim (λ m. inl (h.0 m)) (λ m. inr (k.0 m)) (unions_to Q xs ys ((all_trim Q (unions xs ys)).0 l)),
  λ l. (all_trim Q (unions xs ys)).1 (⊎_elim (λ a. unions_left Q xs ys (h.1 a)) (λ b. unions_right Q xs ys (k.1 b)) l),
)

pub true_says : (Q : ℕ → Type 0) → Says Q (sets (0 ∷ [])) ⊥
true_says Q = (λ h. bad_none Q h.0, λ h. absurd h)

pub false_says : (Q : ℕ → Type 0) → Says Q (sets []) (Unit {0})
false_says Q = (λ h. tt, λ h. tt)

pub own_says : (Q : ℕ → Type 0) (e : ℕ) → e < 32 → Says Q (sets (2 ^ e ∷ [])) (Q e)
own_says Q e l = (λ h. (bad_own Q e l).0 h.0, λ q. ((bad_own Q e l).1 q, tt))
