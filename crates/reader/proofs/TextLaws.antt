-- Every text has words, and comes to one thing.
use Rattle.std.proofs.Common.{◌≡◌, ℕ, ◌-◌, ◌≤◌, List, [], ◌∷◌, ◌++◌, map, length, get_or, sym, refl, ap, ◌∙◌, subst, ap₂, arith, length-append}
use native.Mathlib.Decide.{dec_le}
use Rattle.terms.specs.declared.refusal.Refusal.{Refusal}
use Rattle.terms.specs.Refusals as refusals
use Rattle.words.specs.Words.{Placed, said, place, Words, words_from}
use Rattle.words.proofs.WordLaws.{words_one, words_all}
use Rattle.rules.specs.Rule.{Rule}
use Rattle.reader.specs.Grammar.{Names, Reads}
use Rattle.reader.specs.Allowed.{start}
use Rattle.reader.specs.Faults.{Answer, tree, refusal, Outcome, reads}
use Rattle.reader.specs.Steps.{saids, first_place, Stops}
use Rattle.reader.specs.Texts.{Small, parts_in, duties_in, RuleText, too_long, refused, too_large, served}
use Rattle.reader.proofs.AnswerLaws.{by_run, answers}
use Rattle.reader.proofs.FaultLaws.{outcome_one}

-- a rule fits or not
small_or : (f : Rule) → Dec (Small f)
small_or f = go (dec_le (parts_in f) 64) (dec_le (duties_in f) 32)
  where
    go : Dec (parts_in f ≤ 64) → Dec (duties_in f ≤ 32) → Dec (Small f)
    go (yes a) (yes b) = yes (record { parts = a; duties = b })
    go (yes a) (no b) = no (λ s. b s.duties)
    go (no a) (yes b) = no (λ s. a s.parts)
    go (no a) (no b) = no (λ s. a s.parts)

module _ (known : Names) (text : List ℕ) where
  -- words of one text come to one answer
  same_outcome : {v u : List Placed} {a b : Answer} → Words 0 text v → Words 0 text u → Outcome known 32 (map said v) a → Outcome known 32 (map said u) b → (v ≡ u) × (a ≡ b)
  same_outcome {v} {u} {a} {b} w x o p =
      let same : v ≡ u = words_one w x in
      let q : Outcome known 32 (map said u) a = subst (λ z. Outcome known 32 (map said z) a) same o in
      let c = outcome_one known 32 (map said u) in
      (same, sym (c.2 a q) ∙ c.2 b p)

  tree_same : {f g : Rule} → tree f ≡ tree g → f ≡ g
  tree_same e = cc

  at_place : List Placed → Answer → Answer
  at_place ws (tree f) = tree f
  at_place ws (refusal k i) = refusal k (get_or (map place ws) i (length text))

  text_same : {a b : Answer} → RuleText known text a → RuleText known text b → a ≡ b
  unfolding at_place
  text_same (too_long h) (too_long i) = refl
  text_same (too_long h) (refused i w o) = absurd (omega arith)
  text_same (too_long h) (too_large i w o l) = absurd (omega arith)
  text_same (too_long h) (served i w o s) = absurd (omega arith)
  text_same (refused i w o) (too_long h) = absurd (omega arith)
  text_same (refused i w o) (refused j x p) = let c = same_outcome w x o p in ap₂ at_place c.0 c.1
  text_same (refused i w o) (too_large j x p l) = cc ((same_outcome w x o p).1)
  text_same (refused i w o) (served j x p s) = cc ((same_outcome w x o p).1)
  text_same (too_large i w o l) (too_long h) = absurd (omega arith)
  text_same (too_large i w o l) (refused j x p) = cc ((same_outcome w x o p).1)
  text_same (too_large i w o l) (too_large j x p m) = refl
  text_same (too_large i w o l) (served j x p s) = absurd (l (subst Small (sym (tree_same (same_outcome w x o p).1)) s))
  text_same (served i w o s) (too_long h) = absurd (omega arith)
  text_same (served i w o s) (refused j x p) = cc ((same_outcome w x o p).1)
  text_same (served i w o s) (too_large j x p l) = absurd (l (subst Small (tree_same (same_outcome w x o p).1) s))
  text_same (served i w o s) (served j x p r) = (same_outcome w x o p).1

  -- words come to something, and so does the text
  from_outcome : length text ≤ 1024 → (a : Answer) → Outcome known 32 (map said (words_from text 0)) a → (b : Answer) × RuleText known text b
  from_outcome h (refusal k i) o = (_, refused h (words_all text) o)
  from_outcome h (tree f) o = go (small_or f)
    where
      go : Dec (Small f) → (b : Answer) × RuleText known text b
      go (yes s) = (tree f, served h (words_all text) o s)
      go (no l) = (refusal 9 0, too_large h (words_all text) o l)

  some_answer : (b : Answer) × RuleText known text b
  some_answer = go (dec_le (length text) 1024)
    where
      go : Dec (length text ≤ 1024) → (b : Answer) × RuleText known text b
      go (yes h) = let o = outcome_one known 32 (map said (words_from text 0)) in from_outcome h o.0 o.1
      go (no h) = (refusal 1 0, too_long (omega arith))

  pub text_one : (a : Answer) × RuleText known text a × ((b : Answer) → RuleText known text b → a ≡ b)
  text_one = let s = some_answer in (s.0, s.1, λ b r. text_same s.1 r)

  said_many : (ws : List Placed) → length (map said ws) ≡ length ws
  said_many [] = refl
  said_many (w ∷ ws) = omega (arith, said_many ws)

  -- the place of the first of the words behind others
  behind : (pre rest : List Placed) (e : ℕ) → get_or (map place (pre ++ rest)) (length pre) e ≡ first_place rest e
  behind [] [] e = refl
  behind [] (w ∷ rest) e = refl
  behind (w ∷ pre) rest e = behind pre rest e

  -- where the table stops, the text is refused
  pub stops_text : (e : Refusal) → length text ≤ 1024 → Stops known (start 32) text 0 e → RuleText known text (refusal (refusals.number e) (refusals.place e))
  stops_text e h s =
      let ws = words_from text 0 in
      let rest = words_from text s.from in
      let many : length (map said ws) - length (map said rest) ≡ length s.words = omega (arith, said_many ws, said_many rest, ap length s.are, length-append s.words rest) in
      let o : Outcome known 32 (map said ws) (refusal (refusals.number e) (length s.words)) = subst (Outcome known 32 (map said ws)) (ap (by_run known (map said ws)) s.stop ∙ ap (refusal (refusals.number e)) many) (answers known 32 (map said ws)) in
      let p : get_or (map place ws) (length s.words) (length text) ≡ refusals.place e = ap (λ l. get_or (map place l) (length s.words) (length text)) s.are ∙ behind s.words rest (length text) ∙ sym s.place_is in
      subst (λ q. RuleText known text (refusal (refusals.number e) q)) p (refused h (words_all text) o)

  -- words that read are served, or too large
  pub reads_text : (f : Rule) → length text ≤ 1024 → Reads known 32 (saids text 0) f → Small f → RuleText known text (tree f)
  reads_text f h d s = served h (words_all text) (reads d) s

  pub large_text : (f : Rule) → length text ≤ 1024 → Reads known 32 (saids text 0) f → (Small f → ⊥) → RuleText known text (refusal 9 0)
  large_text f h d l = too_large h (words_all text) (reads d) l
