-- Names of signals in a store, each padded with zeros to eight bytes.
-- padding: a name as it is stored. name_of: the same of a run that may be too long. same_name: when two are the same.
-- HoldsNames: what a store of names holds. sought: where a name stands in it. Named: what that means.
use Rattle.std.specs.Prelude.{◌≡◌, ℕ, ◌-◌, ◌<◌, ◌≤◌, Bool, cond, List, [], ◌++◌, map, length, get_or, take, replicate, Some, None, Option, ◌≢◌, nat_le, slice_index_or}
use Rattle.register.specs.Places.{found}
use Rattle.words.specs.declared.name.Name.{Name}
use Rattle.terms.specs.Lists.{same_list}

-- a name of at most eight bytes, padded with zeros
abbrev pub padding : List ℕ → Name
padding x = record { bytes = x ++ replicate (8 - length x) 0 }

-- the name that a run is, if it has at most eight bytes
abbrev pub name_of : List ℕ → Option Name
name_of x = cond (nat_le (length x) 8) (Some (padding x)) None

-- two names are the same where all their bytes agree
abbrev pub same_name : Name → Name → Bool
same_name a b = same_list a.bytes b.bytes

-- a store holds these names, in this order, and zeros behind them
abbrev pub HoldsNames : List (List ℕ) → List Name → Type 0
HoldsNames xs store = store ≡ map padding xs ++ replicate (length store - length xs) (padding [])

-- the number of the first of so many names that is the same as this one
abbrev pub sought_by : List Name → ℕ → Option Name → Option ℕ
sought_by store used (Some n) = found same_name n (take used store)
sought_by store used None = None

-- the number of the first of so many names that is the run, padded
abbrev pub sought : List Name → ℕ → List ℕ → Option ℕ
sought store used run = sought_by store used (name_of run)

-- the name at k is the first of so many that is the run, padded, and the run has at most eight bytes
pub record Named (store : List Name) (used : ℕ) (run : List ℕ) (k : ℕ) : Type 0 where
  pub short : length run ≤ 8
  pub within : k < used
  pub stored : k < length store
  pub is : get_or store k (padding []) ≡ padding run
  pub before : (i : ℕ) → i < k → slice_index_or store i (padding []) ≢ padding run
