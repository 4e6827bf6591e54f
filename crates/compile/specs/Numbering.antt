-- What is known of a rule's duties once some of its parts were numbered.
use Rattle.std.specs.Prelude.{◌≡◌, ℕ, ◌<◌, ◌≤◌, List, length, slice_index}
use Rattle.rules.specs.declared.part.Part.{Part}
use Rattle.rules.specs.Parts.{duty_number, duty_part}

-- the first k parts have their duty numbers, of which next is the next; a duty that is not found yet has no part
pub record Numbered (ps : List Part) (k : ℕ) (numbers owners : List ℕ) (next : ℕ) : Type 0 where
  pub sizes : (length numbers ≡ 64) × (length owners ≡ 32)
  pub next_is : next ≡ duty_number ps k
  pub few : next ≤ k
  pub numbers_are : (j : ℕ) → j < k → slice_index numbers j ≡ duty_number ps j
  pub owners_are : (d : ℕ) → d < next → slice_index owners d ≡ duty_part ps d
  pub no_owners : (d : ℕ) → next ≤ d → d < 32 → slice_index owners d ≡ length ps
