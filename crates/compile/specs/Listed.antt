-- What a join of lists of duty sets came to.
-- told: the list, or that it is too wide. Gives: what a join came to.
use Rattle.std.specs.Prelude.{◌≡◌, ℕ, List, Some, None, Option}
use Rattle.rules.specs.Sets.{Sets, too_wide, sets}

-- none says that the list is too wide
abbrev pub told : Option (List ℕ) → Sets
told None = too_wide
told (Some l) = sets l

-- a join gave this list
abbrev pub Gives : Option (List ℕ) → Sets → Type 0
Gives r s = s ≡ told r
