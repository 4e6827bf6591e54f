use Rattle.std.proofs.Common.{ℕ, ◌+◌, ◌-◌, ◌*◌, List, length}
use Rattle.words.specs.Words.{Said, and'}
use Rattle.rules.specs.declared.part.Part.{Part}
use Rattle.reader.specs.declared.descent.Source.{Source}
use Rattle.reader.specs.declared.descent.Found.{Found}
use Rattle.reader.specs.Grammar.{Sort, choice, join, Derives}
use Rattle.reader.specs.Steps.{text_of, names_of, saids, Past, Gives}
use Rattle.reader.proofs.descent.Source.+choice_join_rule_unit.Given as goal

abbrev pub decreases-choice : goal.decreases-choice
decreases-choice l = 4 * l.depth + 2

abbrev pub decreases-join : goal.decreases-join
decreases-join l = 4 * l.depth + 1

abbrev pub decreases-rule : goal.decreases-rule
decreases-rule l = 4 * l.depth + 3

abbrev pub decreases-unit : goal.decreases-unit
decreases-unit l = 4 * l.depth

-- what the loop began with has become this
abbrev Onward : Source → Sort → ℕ → List Part → Found → List Part → Found → Type 0
Onward src sort n s f after r = (ws : List Said) (p : ℕ) (table : List Part) → Gives (text_of src) (Derives (names_of src) sort n ws) p table s f → Gives (text_of src) (Derives (names_of src) sort n ws) p table after r

abbrev pub invariant-join-loop-table : goal.invariant-join-loop-table
invariant-join-loop-table l = Onward l.self join l.depth l.initial.table l.initial.left l.table l.left

abbrev pub decreases-join-loop-table : goal.decreases-join-loop-table
decreases-join-loop-table l = length (text_of l.self) - l.left.at

abbrev pub invariant-choice-loop-table : goal.invariant-choice-loop-table
invariant-choice-loop-table l = Past and' (saids (text_of l.self) l.left.at) × Onward l.self choice l.depth l.initial.table l.initial.left l.table l.left

abbrev pub decreases-choice-loop-table : goal.decreases-choice-loop-table
decreases-choice-loop-table l = length (text_of l.self) - l.left.at
