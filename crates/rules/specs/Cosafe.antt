-- The negation of a rule, and its truth over a finite trace in first-order words.
use Rattle.std.specs.Prelude.{◌≡◌, ℕ, suc, ◌<◌, ◌≤◌, Bool, true, not, ◌⊎◌, List, length}
use Rattle.arena.specs.Tally.{Played}
use Rattle.rules.specs.declared.part.Signal.{Signal}
use Rattle.rules.specs.Rule.{Rule, always, never, literal, next, release, both, either, agrees, round}

-- formulas with X and until and without release: what negations of rules are
pub data Cosafe : Type 0 where
  top : Cosafe
  bottom : Cosafe
  atom : Signal → Bool → Cosafe
  following : Cosafe → Cosafe
  until : Cosafe → Cosafe → Cosafe
  conj : Cosafe → Cosafe → Cosafe
  disj : Cosafe → Cosafe → Cosafe

-- the negation, driven in to the literals
unfoldable pub negation : Rule → Cosafe
negation always = bottom
negation never = top
negation (literal s want) = atom s (not want)
negation (next f) = following (negation f)
negation (release a b) = until (negation a) (negation b)
negation (both f g) = disj (negation f) (negation g)
negation (either f g) = conj (negation f) (negation g)

-- the formula holds at x, over the places 0 to last, where last + 1 is the number of rounds.
-- The one corner: the successor y of X may also be last + 1, where there is no round. An atom or an until holds
-- nowhere behind last, so this matters to constants alone.
unfoldable pub Holds : Cosafe → List Played → ℕ → Type 0
Holds top rs x = Unit {0}
Holds bottom rs x = ⊥
Holds (atom s want) rs x = (x < length rs) × (agrees (round rs x) s want ≡ true)
Holds (following f) rs x = (y : ℕ) × (y ≡ suc x) × (y ≤ length rs) × Holds f rs y
Holds (until f g) rs x = (y : ℕ) × (x ≤ y) × (y < length rs) × Holds g rs y × ((z : ℕ) → x ≤ z → z < y → Holds f rs z)
Holds (conj f g) rs x = Holds f rs x × Holds g rs x
Holds (disj f g) rs x = Holds f rs x ⊎ Holds g rs x

-- the same with no corner: every place has a round
unfoldable pub HoldsInside : Cosafe → List Played → ℕ → Type 0
HoldsInside top rs x = Unit {0}
HoldsInside bottom rs x = ⊥
HoldsInside (atom s want) rs x = (x < length rs) × (agrees (round rs x) s want ≡ true)
HoldsInside (following f) rs x = (y : ℕ) × (y ≡ suc x) × (y < length rs) × HoldsInside f rs y
HoldsInside (until f g) rs x = (y : ℕ) × (x ≤ y) × (y < length rs) × HoldsInside g rs y × ((z : ℕ) → x ≤ z → z < y → HoldsInside f rs z)
HoldsInside (conj f g) rs x = HoldsInside f rs x × HoldsInside g rs x
HoldsInside (disj f g) rs x = HoldsInside f rs x ⊎ HoldsInside g rs x

-- no constant stands in the formula
unfoldable pub Plain : Cosafe → Type 0
Plain top = ⊥
Plain bottom = ⊥
Plain (atom s want) = Unit {0}
Plain (following f) = Plain f
Plain (until f g) = Plain f × Plain g
Plain (conj f g) = Plain f × Plain g
Plain (disj f g) = Plain f × Plain g
