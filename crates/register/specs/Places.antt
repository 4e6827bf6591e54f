-- The numbers that a register gives its entries.
-- place: how many entries stand before the first that is the same. found: the number of that one. number: the number
-- that an entry is given. kept: what the store then holds. used_after: how many entries are then in use. First: which
-- entry has the number. Apart: no two entries are the same. Entered: all that a register says of an entry.
use Rattle.std.specs.Prelude.{◌≡◌, ℕ, ◌+◌, ◌<◌, Bool, true, false, cond, not, List, length, take, Some, None, Option, nat_le, nat_lt, slice_index_or, slice_set}
use Rattle.std.specs.List.{prefix_len}

-- how many entries are in use once a number was given
abbrev pub used_after : ℕ → Option ℕ → ℕ
used_after used None = used
used_after used (Some k) = cond (nat_lt k used) used (used + 1)

module _ {E : Type 0} (same : E → E → Bool) where
  -- how many entries stand before the first that is the same as e
  abbrev pub place : E → List E → ℕ
  place e xs = prefix_len (λ x. not (same e x)) xs

  -- the number of the first entry that is the same as e
  abbrev pub found : E → List E → Option ℕ
  found e xs = cond (nat_lt (place e xs) (length xs)) (Some (place e xs)) None

  -- the number of e: that of the first entry in use that is the same, else the next; none where the store is full
  abbrev pub number : E → ℕ → List E → Option ℕ
  number e used xs =
      cond (nat_le used (length xs))
      (cond (nat_lt (place e (take used xs)) used) (Some (place e (take used xs)))
      (cond (nat_lt used (length xs)) (Some used) None))
      None

  -- what the store holds once e has its number: e behind the entries in use, where none of them is the same
  abbrev pub kept : E → ℕ → List E → List E
  kept e used xs =
      cond (nat_le used (length xs))
      (cond (nat_lt (place e (take used xs)) used) xs (slice_set xs used e))
      xs

  -- k is the number of the first of the entries in use that is the same as e
  pub record First (e : E) (used : ℕ) (xs : List E) (k : ℕ) : Type 0 where
    pub within : k < used
    pub alike : (d : E) → same e (slice_index_or xs k d) ≡ true
    pub before : (i : ℕ) (d : E) → i < k → same e (slice_index_or xs i d) ≡ false

  -- no two of the first n entries are the same
  abbrev pub Apart : ℕ → List E → Type 0
  Apart n xs = (i j : ℕ) (d : E) → i < j → j < n → same (slice_index_or xs j d) (slice_index_or xs i d) ≡ false

  -- what it is that e is given the number r, or none, by a store that held xs and then holds ys
  pub record Entered (e : E) (used : ℕ) (xs : List E) (r : Option ℕ) (ys : List E) : Type 0 where
    pub value : r ≡ number e used xs
    pub store : ys ≡ kept e used xs
    -- the number is that of the first entry that is the same
    pub first : (k : ℕ) → r ≡ Some k → First e (used_after used r) ys k
    -- what is the same as e would have been given the same, and is from now on
    pub alike : (f : E) → same e f ≡ true → number f used xs ≡ r
    pub again : (f : E) (k : ℕ) → same e f ≡ true → r ≡ Some k → number f (used_after used r) ys ≡ r
    -- entries that are apart stay so
    pub apart : Apart used xs → Apart (used_after used r) ys
