-- What entering parts makes of a table.
-- Numbered: the table, and the number of the part. one_side, two_sides: the part that sides make. Enters: a rule's parts went in.
use Rattle.std.specs.Prelude.{◌≡◌, ℕ, ◌<◌, List, length, Some, None, Option}
use Rattle.rules.specs.declared.part.Part.{Part}
use Rattle.rules.specs.Rule.{Rule}
use Rattle.rules.specs.Table.{Entry, enter, parts_on}

-- the table is the entry's, and the part has the entry's number; or it has none, and the entry's table has more than 64 parts
pub data Numbered (after : List Part) (number : Option ℕ) (e : Entry) : Type 0 where
  all : after ≡ e.table → number ≡ Some e.number → Numbered after number e
  over : number ≡ None → 64 < length e.table → Numbered after number e

-- the part that sides make, where each has a number
abbrev pub one_side : (ℕ → Part) → Option ℕ → Option Part
one_side x (Some a) = Some (x a)
one_side x None = None

abbrev pub two_sides : (ℕ → ℕ → Part) → Option ℕ → Option ℕ → Option Part
two_sides x (Some a) (Some b) = Some (x a b)
two_sides x (Some a) None = None
two_sides x None (Some b) = None
two_sides x None None = None

-- the part is entered, where there is one; else it has no number
abbrev pub EntersPart : List Part → Option Part → List Part → Option ℕ → Type 0
EntersPart table (Some x) after number = Numbered after number (enter table x)
EntersPart table None after number = number ≡ None

-- the parts of the rule are entered
abbrev pub Enters : List Part → Rule → List Part → Option ℕ → Type 0
Enters table f after number = Numbered after number (parts_on table f)
