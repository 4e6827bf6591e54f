-- What the texts of the examples say, by the words that they have and the rules that these read as.
use Rattle.std.proofs.Common.{◌≡◌, ℕ, true, leb, List, [], ◌∷◌, map, length, get_or, replicate, refl, ap, subst, inl, inr, leb-true, arith}
use Rattle.words.specs.declared.name.Name.{Name}
use Rattle.words.specs.Words.{said, words_from}
use Rattle.words.specs.Names.{padding}
use Rattle.words.specs.Signals.{Outcome, served, reads}
use Rattle.words.proofs.WordLaws.{words_all}
use Rattle.rules.specs.Rule.{Rule}
use Rattle.reader.specs.Faults.{tree, Outcome as Heard}
use Rattle.reader.specs.Grammar.{Names}
use Rattle.reader.specs.Names.{known}
use Rattle.reader.specs.Texts.{parts_in, duties_in, served as said_rule}
use Rattle.reader.proofs.AnswerLaws.{answer, answers}
use Rattle.worked.specs.Worked.{door_name, lock_name, signals, Says}

-- the names, as they are stored
abbrev stored : List Name
stored = padding door_name ∷ padding lock_name ∷ replicate 6 (padding [])

named : Outcome 8 signals (served (door_name ∷ []) (lock_name ∷ []))
unfolding words_from
named = reads (record { roomy = leb-true 8 8 refl; short = leb-true 16 1024 refl }) (words_all signals) (record {
  says = refl;
  few_in = leb-true 1 4 refl;
  few_out = leb-true 1 4 refl;
  short = (leb-true 4 8 refl, (leb-true 4 8 refl, tt));
  apart = (λ h. elim h [ inl e ↦ (let first : ◌≡◌ {A = ℕ} 100 108 = ap (λ x. get_or x 0 0) e in omega arith) | inr i ↦ absurd i ], ((λ h. absurd h), tt));
})

-- which signal a name is
abbrev names : Names
names = known stored 1 1

-- a text whose words read as a rule that fits says it
pub said_by : (text : List ℕ) (f : Rule) → leb (length text) 1024 ≡ true → answer names 32 (map said (words_from text 0)) ≡ tree f → leb (parts_in f) 64 ≡ true → leb (duties_in f) 32 ≡ true → Says text f
said_by text f short e parts duties = (
  stored,
  record {
    named = named;
    stored_names = refl;
    said = said_rule (leb-true (length text) 1024 short) (words_all text) (subst (λ a. Heard names 32 (map said (words_from text 0)) a) e (answers names 32 (map said (words_from text 0)))) (record { parts = leb-true (parts_in f) 64 parts; duties = leb-true (duties_in f) 32 duties });
  },
)
