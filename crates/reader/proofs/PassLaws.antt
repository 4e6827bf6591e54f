-- What derives passes the machine.
use Rattle.std.proofs.Common.{◌≡◌, ℕ, List, [], ◌∷◌, refl, ◌∙◌}
use Rattle.words.specs.Words.{Said}
use Rattle.rules.specs.Rule.{Rule}
use Rattle.reader.specs.Grammar.{Names, Sort, rule, choice, join, unit, Derives, rule_choice, rule_release, choice_join, choice_or, join_unit, join_and, unit_true, unit_false, unit_name, unit_not, unit_next, unit_always, unit_group, Reads}
use Rattle.reader.specs.Allowed.{due, done, accepts, run, start}

module _ (known : Names) where
  -- a part of a sort leads from where it is due to where it is done
  abbrev pub Passes : Sort → ℕ → List Said → List Said → Type 0
  Passes unit n ws rest = (b : ℕ) (os : List ℕ) → run known (due n b os) ws ≡ run known (done b os) rest
  Passes join n ws rest = (os : List ℕ) → run known (due n n os) ws ≡ run known (done n os) rest
  Passes choice n ws rest = (os : List ℕ) → run known (due n n os) ws ≡ run known (done n os) rest
  Passes rule n ws rest = (m : ℕ) × ((os : List ℕ) → run known (due n n os) ws ≡ run known (done m os) rest)

  pub passes : {s : Sort} {n : ℕ} {ws : List Said} {t : Rule} {rest : List Said} → Derives known s n ws t rest → Passes s n ws rest
  passes (rule_choice {n = n} d) = (n, passes d)
  passes (rule_release d e) = let h = passes e in (h.0, λ os. passes d os ∙ h.1 os)
  passes (choice_join d) = passes d
  passes (choice_or d e) = λ os. passes d os ∙ passes e os
  passes (join_unit {n = n} d) = λ os. passes d n os
  passes (join_and {n = n} d e) = λ os. passes d os ∙ passes e n os
  passes unit_true = λ b os. refl
  passes unit_false = λ b os. refl
  passes (unit_name h) = λ b os. rw (h, run)
  passes (unit_not h) = λ b os. rw (h, run)
  passes (unit_next d) = λ b os. passes d b os
  passes (unit_always d) = λ b os. passes d b os
  passes (unit_group d) = λ b os. (passes d).1 (b ∷ os)

  -- what reads is accepted
  pub accepted : {n : ℕ} {ws : List Said} {t : Rule} → Reads known n ws t → run known (start n) ws ≡ accepts
  accepted d = (passes d).1 []
