-- The table with other names, and with more levels.
use Rattle.std.proofs.Common.{◌≡◌, ℕ, zero, suc, Bool, true, false, List, [], ◌∷◌, Some, None, Option, refl}
use Rattle.words.specs.Words.{Said, X', G', R', U', F', and', or', not', open', close', true', false', name', strange'}
use Rattle.rules.specs.declared.part.Signal.{Signal}
use Rattle.reader.specs.Grammar.{Names}
use Rattle.reader.specs.Allowed.{State, due, named, done, Step, moves, refused, if_known, step}
use Rattle.reader.specs.Faults.{free, foreign}

abbrev pub ups : List ℕ → List ℕ
ups [] = []
ups (b ∷ os) = suc b ∷ ups os

-- a level more everywhere
abbrev pub lift : State → State
lift (due n b os) = due (suc n) (suc b) (ups os)
lift (named b os) = named (suc b) (ups os)
lift (done b os) = done (suc b) (ups os)

abbrev pub strange_word : Said → Bool
strange_word (strange' c) = true
strange_word w = false

abbrev pub name_word : Said → Bool
name_word (name' x) = true
name_word w = false

-- why a word is refused, or that it is not; and what the table says with every name known, and with a level more
pub data Why (known : Names) (s : State) : Said → Step → Type 0 where
  fine : {w : Said} {q : State} → step free s w ≡ moves q → step free (lift s) w ≡ moves (lift q) → Why known s w (moves q)
  strange : {c : ℕ} → Why known s (strange' c) (refused 2)
  misplaced : {w : Said} → foreign w ≡ false → strange_word w ≡ false → step free s w ≡ refused 3 → step free (lift s) w ≡ refused 3 → Why known s w (refused 3)
  unknown : {x : List ℕ} (q : State) → known x ≡ None → step free s (name' x) ≡ moves q → Why known s (name' x) (refused 5)
  until : Why known s U' (refused 7)
  finally : Why known s F' (refused 7)
  deep : {w : Said} (q : State) → foreign w ≡ false → strange_word w ≡ false → name_word w ≡ false → step free s w ≡ refused 8 → step free (lift s) w ≡ moves q → Why known s w (refused 8)

module _ (known : Names) where
  why_name : (s q : State) (x : List ℕ) (o : Option Signal) → known x ≡ o → step free s (name' x) ≡ moves q → step free (lift s) (name' x) ≡ moves (lift q) → Why known s (name' x) (if_known o q)
  why_name s q x (Some g) e h i = fine h i
  why_name s q x None e h i = unknown q e h

  pub why : (s : State) (w : Said) → Why known s w (step known s w)
  why (due n b os) true' = fine refl refl
  why (due n b os) false' = fine refl refl
  why (due n b os) (name' x) = why_name (due n b os) (done b os) x (known x) refl refl refl
  why (due n b os) not' = fine refl refl
  why (due zero b os) X' = deep (due 0 (suc b) (ups os)) refl refl refl refl refl
  why (due (suc n) b os) X' = fine refl refl
  why (due zero b os) G' = deep (due 0 (suc b) (ups os)) refl refl refl refl refl
  why (due (suc n) b os) G' = fine refl refl
  why (due zero b os) open' = deep (due 0 0 (suc b ∷ ups os)) refl refl refl refl refl
  why (due (suc n) b os) open' = fine refl refl
  why (due n b os) U' = until
  why (due n b os) F' = finally
  why (due n b os) (strange' c) = strange
  why (due n b os) w = misplaced refl refl refl refl
  why (named b os) (name' x) = why_name (named b os) (done b os) x (known x) refl refl refl
  why (named b os) U' = until
  why (named b os) F' = finally
  why (named b os) (strange' c) = strange
  why (named b os) w = misplaced refl refl refl refl
  why (done b []) close' = misplaced refl refl refl refl
  why (done b (o ∷ os)) close' = fine refl refl
  why (done b os) and' = fine refl refl
  why (done b os) or' = fine refl refl
  why (done zero os) R' = deep (due 0 0 (ups os)) refl refl refl refl refl
  why (done (suc b) os) R' = fine refl refl
  why (done b os) U' = until
  why (done b os) F' = finally
  why (done b os) (strange' c) = strange
  why (done b os) w = misplaced refl refl refl refl

abbrev pub number : Step → ℕ
number (moves s) = 0
number (refused k) = k

-- what is misplaced stays so with a level more
pub stays : (s : State) (w : Said) → step free s w ≡ refused 3 → step free (lift s) w ≡ refused 3
stays s w h = go (why free s w) h
  where
    go : {v : Said} {e : Step} → Why free s v e → e ≡ refused 3 → step free (lift s) v ≡ refused 3
    go (misplaced a b c d) h = d
    go y h = cc
