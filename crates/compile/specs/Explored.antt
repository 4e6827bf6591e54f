-- What exploring comes to.
use Rattle.std.specs.Prelude.{◌≡◌, ℕ, List, [], ◌∷◌, length, Some, Ok, Err, Result}
use Rattle.terms.specs.declared.refusal.Refusal.{Refusal}
use Rattle.rules.specs.declared.part.Part.{Part}
use Rattle.rules.specs.Explore.{Compiled, positions, rounds, explore}
use Rattle.compile.specs.declared.position.Position.{Position}
use Rattle.compile.specs.Positions.{reason, Charted}

-- exploring from the list xs
abbrev pub explored : ℕ → ℕ → List Part → List ℕ → Compiled
explored i o ps xs = explore 256 ps (rounds i o) 0 (positions (xs ∷ []))

-- the number of positions, which the store then holds; or why there are none
abbrev pub Explores : ℕ → ℕ → List Part → List ℕ → List Position → Result ℕ Refusal → Type 0
Explores i o ps xs store (Ok n) = (known : List (List ℕ)) × (explored i o ps xs ≡ positions known) × (n ≡ length known) × Charted i o ps known store
Explores i o ps xs store (Err e) = reason (explored i o ps xs) ≡ Some e
