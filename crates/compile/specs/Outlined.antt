-- A rule's parts with the numbers of their duties.
-- Outlines: what the numbers are. outlines_prop: it says that in one way at most, as a fact of a struct must.
use Rattle.std.specs.Prelude.{◌≡◌, ℕ, ◌<◌, ◌≤◌, List, length, slice_index}
use Rattle.std.specs.Coded.{Coded-set, coded_ℕ, Unit-prop, ×_prop, Π_prop, le_prop}
use Rattle.rules.specs.declared.part.Part.{Part}
use Rattle.rules.specs.declared.part.Part.TheVariants.{True, False, Literal, Next, Release, Both, Either}
use Rattle.rules.specs.Parts.{part, Falls, duty_number, duty_part}

-- the sides of each part have smaller numbers; numbers has the duty number of each part, owners the part of each duty
pub record Outlines (ps : List Part) (numbers owners : List ℕ) : Type 0 where
  pub short : length ps ≤ 64
  pub falls : (k : ℕ) → Falls k (part ps k)
  pub numbered : (k : ℕ) → k < length ps → slice_index numbers k ≡ duty_number ps k
  pub duties : duty_number ps (length ps) ≤ 32
  pub owned : (d : ℕ) → d < 32 → slice_index owners d ≡ duty_part ps d

falls_prop : (k : ℕ) (x : Part) → IsProp (Falls k x)
falls_prop k True = Unit-prop
falls_prop k False = Unit-prop
falls_prop k (Literal s want) = Unit-prop
falls_prop k (Next f) = le_prop
falls_prop k (Release a b) = ×_prop le_prop le_prop
falls_prop k (Both f g) = ×_prop le_prop le_prop
falls_prop k (Either f g) = ×_prop le_prop le_prop

-- each of two facts about numbers
entries_prop : (n : ℕ) (xs : List ℕ) (f : ℕ → ℕ) → IsProp ((k : ℕ) → k < n → slice_index xs k ≡ f k)
entries_prop n xs f = Π_prop (λ k. Π_prop (λ h. Coded-set coded_ℕ (slice_index xs k) (f k)))

pub outlines_prop : (ps : List Part) (numbers owners : List ℕ) → IsProp (Outlines ps numbers owners)
outlines_prop ps numbers owners a b = λ j. record {
  short = le_prop a.short b.short j;
  falls = Π_prop (λ k. falls_prop k (part ps k)) a.falls b.falls j;
  numbered = entries_prop (length ps) numbers (duty_number ps) a.numbered b.numbered j;
  duties = le_prop a.duties b.duties j;
  owned = entries_prop 32 owners (duty_part ps) a.owned b.owned j;
}
