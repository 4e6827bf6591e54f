-- What a signals text and the text of a rule come to, and what the stores then hold.
-- Roomy: the stores have room. ZeroParts: a store of zero entries. Both: the four outcomes.
use Rattle.std.specs.Prelude.{◌≡◌, ℕ, ◌<◌, ◌≤◌, ◌⊎◌, List, [], ◌++◌, length, replicate, Ok, Err, Result}
use Rattle.terms.specs.declared.refusal.Refusal.{Refusal}
use Rattle.terms.specs.declared.refusal.Refusal.TheVariants.{StoreTooShort}
use Rattle.terms.specs.Refusals as refusals
use Rattle.words.specs.declared.name.Name.{Name}
use Rattle.words.specs.Names.{HoldsNames}
use Rattle.words.specs.Signals.{Outcome, served, refused}
use Rattle.rules.specs.declared.part.Part.{Part}
use Rattle.rules.specs.declared.part.Part.TheVariants.{True}
use Rattle.reader.specs.declared.texts.Text.TheVariants.{Neither, Signals, Rule}
use Rattle.reader.specs.declared.texts.Texts.{Texts}
use Rattle.reader.specs.declared.texts.Misread.{Misread}
use Rattle.reader.specs.Names.{known}
use Rattle.reader.specs.Faults.{refusal}
use Rattle.reader.specs.Texts.{RuleText, Served}

-- the stores have room for eight names and 64 parts
abbrev pub Roomy : List Name → List Part → Type 0
Roomy names parts = (8 ≤ length names) × (64 ≤ length parts)

-- every entry is the zero entry
abbrev pub ZeroParts : List Part → Type 0
ZeroParts parts = parts ≡ replicate (length parts) True

-- the stores are too short and stay as they were; or the signals text is refused; or it is served and the text of the rule
-- is refused over its names; or both are served. Behind a refusal of a text both stores are zero.
pub data Both (names : List Name) (parts : List Part) (signals rule : List ℕ) : Result Texts Misread → List Name → List Part → Type 0 where
  stores_short : (length names < 8) ⊎ (length parts < 64)
      → Both names parts signals rule (Err (record { text = Neither; refusal = StoreTooShort })) names parts
  signals_refused : {e : Refusal} {names' : List Name} {parts' : List Part} → Roomy names parts
      → Outcome (length names) signals (refused (refusals.number e) (refusals.place e))
      → HoldsNames [] names' → ZeroParts parts'
      → Both names parts signals rule (Err (record { text = Signals; refusal = e })) names' parts'
  rule_refused : {ins outs : List (List ℕ)} {stored : List Name} {e : Refusal} {names' : List Name} {parts' : List Part} → Roomy names parts
      → Outcome (length names) signals (served ins outs) → HoldsNames (ins ++ outs) stored
      → RuleText (known stored (length ins) (length outs)) rule (refusal (refusals.number e) (refusals.place e))
      → HoldsNames [] names' → ZeroParts parts'
      → Both names parts signals rule (Err (record { text = Rule; refusal = e })) names' parts'
  both_served : {ins outs : List (List ℕ)} {t : Texts} {names' : List Name} {parts' : List Part} → Roomy names parts
      → Outcome (length names) signals (served ins outs) → HoldsNames (ins ++ outs) names'
      → t.signals.inputs ≡ length ins → t.signals.outputs ≡ length outs
      → Served (known names' (length ins) (length outs)) rule parts' t.rule
      → Both names parts signals rule (Ok t) names' parts'
