-- Sets of duties, and lists of sets.
use Rattle.std.specs.Prelude.{◌≡◌, ℕ, zero, suc, ◌/◌, ◌%◌, ◌<◌, ◌≤◌, Bool, true, false, cond, ◌||◌, List, [], ◌∷◌, ◌++◌, map, length, ◌==◌, bit_and, bit_or, nat_le, slice_index}

-- A set is a number: the sum of two to the power k over its duties k.

-- k in front, where its digit is set
abbrev pub put : ℕ → ℕ → List ℕ → List ℕ
put zero k ks = ks
put (suc b) k ks = k ∷ ks

-- the places, from k on, of the set digits among the d lowest of n
unfoldable pub digits_set : ℕ → ℕ → ℕ → List ℕ
digits_set zero k n = []
digits_set (suc d) k n = put (n % 2) k (digits_set d (suc k) (n / 2))

-- a set's members from the lowest up; there are at most 32 duties
unfoldable pub members : ℕ → List ℕ
unfolding digits_set
members n = digits_set 32 0 n

-- set y is contained in set x
abbrev pub within : ℕ → ℕ → Bool
within y x = bit_and y x == y

-- x contains one of these sets
abbrev pub covered : List ℕ → ℕ → Bool
covered [] x = false
covered (y ∷ ys) x = within y x || covered ys x

-- in ascending order
unfoldable pub insert : ℕ → List ℕ → List ℕ
insert x [] = x ∷ []
insert x (y ∷ ys) = cond (nat_le x y) (x ∷ y ∷ ys) (y ∷ insert x ys)

unfoldable pub ascending : List ℕ → List ℕ
unfolding insert
ascending [] = []
ascending (x ∷ xs) = insert x (ascending xs)

-- kept, and then each set that contains none kept before it
unfoldable pub sifted : List ℕ → List ℕ → List ℕ
sifted kept [] = kept
sifted kept (x ∷ xs) = sifted (cond (covered kept x) kept (kept ++ (x ∷ []))) xs

-- containing sets are dropped; a set has a higher number than each that it contains
unfoldable pub trim : List ℕ → List ℕ
unfolding ascending sifted
trim xs = sifted [] (ascending xs)

-- every union of one set from each
unfoldable pub unions : List ℕ → List ℕ → List ℕ
unions [] ys = []
unions (x ∷ xs) ys = map (bit_or x) ys ++ unions xs ys

-- a list of sets, or more than 32 of them
pub data Sets : Type 0 where
  too_wide : Sets
  sets : List ℕ → Sets

-- more than 32 sets are too wide
abbrev pub fit : List ℕ → Sets
fit xs = cond (nat_le (length xs) 32) (sets xs) too_wide

-- what is made from a list that is too wide is too wide
unfoldable pub join_or : Sets → Sets → Sets
unfolding trim
join_or too_wide t = too_wide
join_or (sets xs) too_wide = too_wide
join_or (sets xs) (sets ys) = fit (trim (xs ++ ys))

unfoldable pub join_and : Sets → Sets → Sets
unfolding trim unions
join_and too_wide t = too_wide
join_and (sets xs) too_wide = too_wide
join_and (sets xs) (sets ys) = fit (trim (unions xs ys))

-- the list ascends by number, and has no set that contains another of its sets
pub record Trimmed (xs : List ℕ) : Type 0 where
  pub ascends : (i j : ℕ) → i < j → j < length xs → slice_index xs i < slice_index xs j
  pub apart : (i j : ℕ) → i < length xs → j < length xs → within (slice_index xs i) (slice_index xs j) ≡ true → i ≡ j

-- ys is xs with containing sets dropped: its sets are of xs, and each set of xs contains one of them
pub record Trims (xs ys : List ℕ) : Type 0 where
  pub trimmed : Trimmed ys
  pub taken : (i : ℕ) → i < length ys → (j : ℕ) × (j < length xs) × (slice_index xs j ≡ slice_index ys i)
  pub covers : (j : ℕ) → j < length xs → (i : ℕ) × (i < length ys) × (within (slice_index ys i) (slice_index xs j) ≡ true)

-- too wide, or at most 32 sets in a trimmed list
unfoldable pub Fits : Sets → Type 0
Fits too_wide = Unit {0}
Fits (sets xs) = Trimmed xs × (length xs ≤ 32)
