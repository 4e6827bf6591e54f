-- The grammar of rules, as a relation between words and rules.
-- Names: which signal a name is. Derives: words begin with a rule, a choice, a join or a unit. Reads: words are a rule.
use Rattle.std.specs.Prelude.{◌≡◌, ℕ, suc, true, false, List, [], ◌∷◌, Some, Option}
use Rattle.words.specs.Words.{Said, X', G', R', and', or', not', open', close', true', false', name'}
use Rattle.rules.specs.declared.part.Signal.{Signal}
use Rattle.rules.specs.Rule.{Rule, always, never, literal, next, release, both, either}

-- which signal a name is, if any
abbrev pub Names : Type 0
Names = List ℕ → Option Signal

-- A rule is a choice, or a choice, `R` and a rule. A choice is joins with `|` between them, a join units with `&`.
pub data Sort : Type 0 where
  rule choice join unit : Sort

-- Derives known s n ws f rest: the words ws begin with an s, which says the rule f, and behind it stand the words rest.
-- Each X, G, ( and R is a level, and encloses what it governs on its right; n levels are left.
pub data Derives (known : Names) : Sort → ℕ → List Said → Rule → List Said → Type 0 where
  rule_choice : {n : ℕ} {ws rest : List Said} {t : Rule} → Derives known choice n ws t rest → Derives known rule n ws t rest
  rule_release : {n : ℕ} {ws ms rest : List Said} {t u : Rule} → Derives known choice (suc n) ws t (R' ∷ ms) → Derives known rule n ms u rest → Derives known rule (suc n) ws (release t u) rest
  choice_join : {n : ℕ} {ws rest : List Said} {t : Rule} → Derives known join n ws t rest → Derives known choice n ws t rest
  choice_or : {n : ℕ} {ws ms rest : List Said} {t u : Rule} → Derives known choice n ws t (or' ∷ ms) → Derives known join n ms u rest → Derives known choice n ws (either t u) rest
  join_unit : {n : ℕ} {ws rest : List Said} {t : Rule} → Derives known unit n ws t rest → Derives known join n ws t rest
  join_and : {n : ℕ} {ws ms rest : List Said} {t u : Rule} → Derives known join n ws t (and' ∷ ms) → Derives known unit n ms u rest → Derives known join n ws (both t u) rest
  unit_true : {n : ℕ} {ws : List Said} → Derives known unit n (true' ∷ ws) always ws
  unit_false : {n : ℕ} {ws : List Said} → Derives known unit n (false' ∷ ws) never ws
  unit_name : {n : ℕ} {x : List ℕ} {s : Signal} {ws : List Said} → known x ≡ Some s → Derives known unit n (name' x ∷ ws) (literal s true) ws
  unit_not : {n : ℕ} {x : List ℕ} {s : Signal} {ws : List Said} → known x ≡ Some s → Derives known unit n (not' ∷ name' x ∷ ws) (literal s false) ws
  unit_next : {n : ℕ} {ws rest : List Said} {t : Rule} → Derives known unit n ws t rest → Derives known unit (suc n) (X' ∷ ws) (next t) rest
  unit_always : {n : ℕ} {ws rest : List Said} {t : Rule} → Derives known unit n ws t rest → Derives known unit (suc n) (G' ∷ ws) (release never t) rest
  unit_group : {n : ℕ} {ws rest : List Said} {t : Rule} → Derives known rule n ws t (close' ∷ rest) → Derives known unit (suc n) (open' ∷ ws) t rest

-- the words ws are a rule of at most n levels, and say f
abbrev pub Reads : Names → ℕ → List Said → Rule → Type 0
Reads known n ws f = Derives known rule n ws f []
