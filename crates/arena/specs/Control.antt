-- How long a position can be held, by controllers.
-- Holds: a controller holds a number of rounds. CanHold, LimitedTo, UnlimitedBy: what controllers can do.
-- Proper: a count in terms of controllers. plays: the controller that looks up the present position.
use Rattle.std.specs.Prelude.{◌≡◌, ℕ, zero, suc, ◌+◌, ◌^◌, ◌<◌, ◌≤◌, List, [], ◌∷◌, length, take, slice_index}
use Rattle.terms.specs.declared.count.Count.{Count}
use Rattle.terms.specs.declared.count.Count.TheVariants.{Lost, Limited, Unlimited}
use Rattle.arena.specs.Arena.{Arena, Place}

-- chooses the output of a round from all inputs up to and with that round's, the oldest first
abbrev pub Controller : Type 0
Controller = List ℕ → ℕ

-- each of xs is an input of the arena
abbrev pub Inputs : Arena → List ℕ → Type 0
Inputs a xs = (j : ℕ) → j < length xs → slice_index xs j < 2 ^ a.inputs

-- where j rounds under the inputs xs and the controller c lead from p
unfoldable pub led : Arena → Controller → ℕ → List ℕ → ℕ → ℕ
led a c p xs zero = p
led a c p xs (suc j) = a.move (led a c p xs j) (slice_index xs j) (c (take (suc j) xs))

-- under any k inputs, c moves from p to positions only
unfoldable pub Holds : Arena → Controller → ℕ → ℕ → Type 0
Holds a c k p = (xs : List ℕ) → length xs ≡ k → Inputs a xs → (j : ℕ) → j ≤ k → Place a (led a c p xs j)

-- some controller holds p for n rounds
abbrev pub CanHold : Arena → ℕ → ℕ → Type 0
CanHold a p n = (c : Controller) × Holds a c n p

-- some controller holds p for n rounds, and none for one more
abbrev pub LimitedTo : Arena → ℕ → ℕ → Type 0
LimitedTo a p n = CanHold a p n × (CanHold a p (n + 1) → ⊥)

-- one controller holds p for every number of rounds
abbrev pub UnlimitedBy : Arena → ℕ → Type 0
UnlimitedBy a p = (c : Controller) × ((k : ℕ) → Holds a c k p)

-- what it says of controllers that p counts c
abbrev pub Proper : Arena → ℕ → Count → Type 0
Proper a p Lost = Place a p → ⊥
Proper a p (Limited k) = LimitedTo a p k
Proper a p Unlimited = UnlimitedBy a p

-- the controller that knows the present position and gives f's output for it and the input, from p on
unfoldable pub plays : Arena → (ℕ → ℕ → ℕ) → ℕ → Controller
plays a f p [] = 0
plays a f p (x ∷ []) = f p x
plays a f p (x ∷ z ∷ xs) = plays a f (a.move p x (f p x)) (z ∷ xs)
