-- What is shown of rules.
use Rattle.std.specs.Prelude.{◌≡◌, ℕ, ◌<◌, ◌≤◌, ◌↔◌, List, [], ◌++◌, length}
use Rattle.arena.specs.Tally.{Played, leads}
use Rattle.rules.specs.declared.part.Part.{Part}
use Rattle.rules.specs.Rule.{Rule, Fails}
use Rattle.rules.specs.Cosafe.{Cosafe, negation, Holds, HoldsInside, Plain}
use Rattle.rules.specs.Sets.{Sets, sets, trim, Trims, Fits, join_or, join_and}
use Rattle.rules.specs.Parts.{part, Falls, duty_number, WellFormed, rule_of}
use Rattle.rules.specs.Table.{parts_of, PartOf}
use Rattle.rules.specs.Progress.{of_true, of_false, list_from, after_from, part_after, list_of, list_after, list_after_all}
use Rattle.rules.specs.Explore.{positions, compiled, AllInRange, led_to, Reachable}
use Rattle.arena.specs.Arena.{Sound}
use Rattle.rules.specs.Game.{game}

-- a rule fails where its negation holds
abbrev pub FailsRight : Type 0
FailsRight = (f : Rule) (rs : List Played) (p : ℕ) → Fails f rs p ↔ Holds (negation f) rs p

-- the corner matters to constants alone
abbrev pub CornerRight : Type 0
CornerRight = (f : Cosafe) (rs : List Played) (x : ℕ) → Plain f → Holds f rs x ↔ HoldsInside f rs x

-- the list of a part and a part after a round are made from the sides' own
pub record StepsRight : Type 0 where
  pub list_step : (ps : List Part) → ((k : ℕ) → Falls k (part ps k)) → (k : ℕ) → list_of ps k ≡ list_from (list_of ps) (duty_number ps k) (part ps k)
  pub after_step : (ps : List Part) → ((k : ℕ) → Falls k (part ps k)) → (r : Played) (k : ℕ) → part_after ps r k ≡ after_from (list_of ps) (part_after ps r) r (duty_number ps k) (part ps k)

-- every list is trimmed and not too wide, or is too wide; a fold's start changes nothing
pub record ListsRight : Type 0 where
  pub of_part : (ps : List Part) (k : ℕ) → Fits (list_of ps k)
  pub after_round : (ps : List Part) (r : Played) (s : Sets) → Fits (list_after ps r s)
  pub or_none : (s : Sets) → Fits s → join_or of_false s ≡ s
  pub and_none : (s : Sets) → Fits s → join_and of_true s ≡ s

-- the list after the rounds, unless too wide, is empty exactly when the rule fails at 0
abbrev pub LostRight : Type 0
LostRight = (ps : List Part) → WellFormed ps → (k : ℕ) (rs : List Played) (xs : List ℕ) → list_after_all ps rs (list_of ps k) ≡ sets xs → (xs ≡ []) ↔ Fails (rule_of ps k) rs 0

-- trimming drops containing sets
abbrev pub TrimRight : Type 0
TrimRight = (xs : List ℕ) → Trims xs (trim xs)

-- and no other list does, however it is made
abbrev pub OneTrim : Type 0
OneTrim = (xs ys zs : List ℕ) → Trims xs ys → Trims xs zs → ys ≡ zs

-- the table of a rule has its sides in order, and stands for the rule
abbrev pub PartsRight : Type 0
PartsRight = (f : Rule) → ((k : ℕ) → Falls k (part (parts_of f).table k)) × (rule_of (parts_of f).table (parts_of f).number ≡ f)

-- equal parts are one part
abbrev pub OnePart : Type 0
OnePart = (f : Rule) (i j : ℕ) → i < length (parts_of f).table → j < length (parts_of f).table → rule_of (parts_of f).table i ≡ rule_of (parts_of f).table j → i ≡ j

-- the table has the parts of the rule, and no others
abbrev pub AllParts : Type 0
AllParts = (f g : Rule) → PartOf g f ↔ ((k : ℕ) × (k < length (parts_of f).table) × (rule_of (parts_of f).table k ≡ g))

-- of a rule that compiles, no list that rounds in range lead to is too wide, and it is lost exactly when the rule fails at 0
abbrev pub CompiledRight : Type 0
CompiledRight = (i o : ℕ) (f : Rule) (known : List (List ℕ)) → compiled i o f ≡ positions known → (rs : List Played) → AllInRange i o rs
    → (xs : List ℕ) × (led_to f rs ≡ sets xs) × ((xs ≡ []) ↔ Fails f rs 0)

-- its positions are the lists that are reached and not lost
abbrev pub PositionsRight : Type 0
PositionsRight = (i o : ℕ) (f : Rule) (known : List (List ℕ)) → compiled i o f ≡ positions known → Reachable i o f known

-- what failed stays failed, whatever rounds follow
abbrev pub FailsStays : Type 0
FailsStays = (f : Rule) (rs more : List Played) (p : ℕ) → Fails f rs p → Fails f (rs ++ more) p

-- a compiled rule is a game
abbrev pub GameSound : Type 0
GameSound = (i o : ℕ) (f : Rule) → i ≤ 4 → o ≤ 4 → Sound (game i o f)

-- rounds lead from its start to lost exactly when the rule fails at 0 of them
abbrev pub GameRight : Type 0
GameRight = (i o : ℕ) (f : Rule) (known : List (List ℕ)) → compiled i o f ≡ positions known → (rs : List Played) → AllInRange i o rs
    → (leads (game i o f) (game i o f).start rs ≡ 0) ↔ Fails f rs 0

pub record RulesStand : Type 0 where
  pub fails_right : FailsRight
  pub corner_right : CornerRight
  pub trim_right : TrimRight
  pub one_trim : OneTrim
  pub steps_right : StepsRight
  pub lists_right : ListsRight
  pub lost_right : LostRight
  pub parts_right : PartsRight
  pub one_part : OnePart
  pub all_parts : AllParts
  pub compiled_right : CompiledRight
  pub positions_right : PositionsRight
  pub fails_stays : FailsStays
  pub game_sound : GameSound
  pub game_right : GameRight
