-- What the text of a rule comes to.
-- Small: a rule that fits. RuleText: what a text comes to. Served: what reading leaves. ReadRule: what the call gives.
use Rattle.std.specs.Prelude.{◌≡◌, ℕ, ◌-◌, ◌<◌, ◌≤◌, List, ◌++◌, map, length, replicate, Ok, Err, Option, Result, slice_index_or}
use Rattle.terms.specs.declared.refusal.Refusal.{Refusal}
use Rattle.terms.specs.declared.refusal.Refusal.TheVariants.{RuleTooLarge}
use Rattle.terms.specs.Refusals as refusals
use Rattle.words.specs.Words.{Placed, said, place, Words}
use Rattle.rules.specs.declared.part.Part.{Part}
use Rattle.rules.specs.declared.part.Part.TheVariants.{True}
use Rattle.rules.specs.Rule.{Rule}
use Rattle.rules.specs.Parts.{duty_number, WellFormed}
use Rattle.rules.specs.Table.{parts_of}
use Rattle.reader.specs.declared.descent.Source.{Source}
use Rattle.reader.specs.declared.read.Reading.{Reading}
use Rattle.reader.specs.Grammar.{Names, Reads}
use Rattle.reader.specs.Allowed.{start}
use Rattle.reader.specs.Faults.{Answer, tree, refusal, Outcome}
use Rattle.reader.specs.Entries.{Enters}
use Rattle.reader.specs.Steps.{text_of, names_of, saids, Stops}

-- how many parts a rule has, and how many of them are duties
abbrev pub parts_in : Rule → ℕ
parts_in f = length (parts_of f).table

abbrev pub duties_in : Rule → ℕ
duties_in f = duty_number (parts_of f).table (parts_in f)

-- a rule has at most 64 parts, and at most 32 of them are duties
pub record Small (f : Rule) : Type 0 where
  pub parts : parts_in f ≤ 64
  pub duties : duties_in f ≤ 32

-- a text comes to the rule that it says, or to one refusal, by its number and place; the place of the end is the text's length
pub data RuleText (known : Names) (text : List ℕ) : Answer → Type 0 where
  too_long : 1024 < length text → RuleText known text (refusal 1 0)
  refused : {ws : List Placed} {k i : ℕ} → length text ≤ 1024 → Words 0 text ws → Outcome known 32 (map said ws) (refusal k i) → RuleText known text (refusal k (slice_index_or (map place ws) i (length text)))
  too_large : {ws : List Placed} {f : Rule} → length text ≤ 1024 → Words 0 text ws → Outcome known 32 (map said ws) (tree f) → (Small f → ⊥) → RuleText known text (refusal 9 0)
  served : {ws : List Placed} {f : Rule} → length text ≤ 1024 → Words 0 text ws → Outcome known 32 (map said ws) (tree f) → Small f → RuleText known text (tree f)

-- the store has the table of the one rule that the text says, its sides before what they make, and zero entries behind it
pub record Served (known : Names) (text : List ℕ) (store : List Part) (r : Reading) : Type 0 where
  pub said_rule : Rule
  pub is : RuleText known text (tree said_rule)
  pub small : Small said_rule
  pub formed : WellFormed (parts_of said_rule).table
  pub parts_are : r.parts ≡ parts_in said_rule
  pub duties_are : r.duties ≡ duties_in said_rule
  pub root_is : r.root ≡ (parts_of said_rule).number
  pub store_is : store ≡ (parts_of said_rule).table ++ replicate (length store - parts_in said_rule) True

-- a store of at least 64 entries is served, or is refused and made zero
abbrev pub ReadRule : Names → List ℕ → List Part → Result Reading Refusal → Type 0
ReadRule known text store (Ok r) = Served known text store r
ReadRule known text store (Err e) = RuleText known text (refusal (refusals.number e) (refusals.place e)) × (store ≡ replicate (length store) True)

-- what the whole text comes to, before the rule's size is judged
abbrev pub WholeComes : Source → List Part → List Part → Result (Option ℕ) Refusal → Type 0
WholeComes s table after (Ok number) = (f : Rule) × Reads (names_of s) 32 (saids (text_of s) 0) f × Enters table f after number
WholeComes s table after (Err e) = Stops (names_of s) (start 32) (text_of s) 0 e

-- a rule whose parts were entered fits, or is too large
abbrev pub Sized : List Part → Rule → Result Reading Refusal → Type 0
Sized table f (Ok r) = Small f × (r.parts ≡ parts_in f) × (r.duties ≡ duties_in f) × (r.root ≡ (parts_of f).number) × (table ≡ (parts_of f).table)
Sized table f (Err e) = (Small f → ⊥) × (e ≡ RuleTooLarge)

-- what a text comes to with its parts in a table
abbrev pub TextComes : Source → List Part → Result Reading Refusal → Type 0
TextComes s table (Ok r) = (f : Rule) × RuleText (names_of s) (text_of s) (tree f) × Sized table f (Ok r)
TextComes s table (Err e) = RuleText (names_of s) (text_of s) (refusal (refusals.number e) (refusals.place e))
