-- Numbered parts, and the rule that a part stands for.
use Rattle.std.specs.Prelude.{ℕ, zero, suc, ◌+◌, ◌<◌, ◌≤◌, Bool, true, false, cond, List, [], ◌∷◌, length, slice_index_or}
use Rattle.rules.specs.declared.part.Part.{Part}
use Rattle.rules.specs.declared.part.Part.TheVariants.{True, False, Literal, Next, Release, Both, Either}
use Rattle.rules.specs.Rule.{Rule, always, never, literal, next, release, both, either}

-- part number k; behind the last, True
abbrev pub part : List Part → ℕ → Part
part ps k = slice_index_or ps k True

-- the sides of part k have smaller numbers
abbrev pub Falls : ℕ → Part → Type 0
Falls k True = Unit {0}
Falls k False = Unit {0}
Falls k (Literal s want) = Unit {0}
Falls k (Next f) = f < k
Falls k (Release a b) = (a < k) × (b < k)
Falls k (Both f g) = (f < k) × (g < k)
Falls k (Either f g) = (f < k) × (g < k)

-- literals, X parts and R parts are duties
abbrev pub is_duty : Part → Bool
is_duty True = false
is_duty False = false
is_duty (Literal s want) = true
is_duty (Next f) = true
is_duty (Release a b) = true
is_duty (Both f g) = false
is_duty (Either f g) = false

-- how many of the first k parts are duties: part k's duty number, where it is a duty
unfoldable pub duty_number : List Part → ℕ → ℕ
duty_number [] k = 0
duty_number (x ∷ ps) zero = 0
duty_number (x ∷ ps) (suc k) = cond (is_duty x) 1 0 + duty_number ps k

-- the place of duty d behind one part more, which is a duty or not
abbrev pub behind : Bool → ℕ → (ℕ → ℕ) → ℕ
behind false d place = suc (place d)
behind true zero place = 0
behind true (suc d) place = suc (place d)

-- the number of the part that is duty d; where there is none, that behind the last
unfoldable pub duty_part : List Part → ℕ → ℕ
duty_part [] d = 0
duty_part (x ∷ ps) d = behind (is_duty x) d (duty_part ps)

-- the sides of each part have smaller numbers, and there are at most 32 duties
pub record WellFormed (ps : List Part) : Type 0 where
  pub falls : (k : ℕ) → Falls k (part ps k)
  pub duties : duty_number ps (length ps) ≤ 32

-- the rule that a part stands for, from those that its sides stand for
abbrev pub rule_from : (ℕ → Rule) → Part → Rule
rule_from f True = always
rule_from f False = never
rule_from f (Literal s want) = literal s want
rule_from f (Next a) = next (f a)
rule_from f (Release a b) = release (f a) (f b)
rule_from f (Both a b) = both (f a) (f b)
rule_from f (Either a b) = either (f a) (f b)

-- by at most n steps down; from part k, k steps reach the end
unfoldable pub rule_in : ℕ → List Part → ℕ → Rule
rule_in zero ps k = always
rule_in (suc n) ps k = rule_from (rule_in n ps) (part ps k)

abbrev pub rule_of : List Part → ℕ → Rule
rule_of ps k = rule_in (suc k) ps k
