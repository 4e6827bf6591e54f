-- A word takes as many bytes as what it says is wide.
use Rattle.std.specs.Prelude.{◌≡◌, ℕ, Bool, true, false, cond, List, [], ◌∷◌, length, Some, Option, ◌==◌, refl}
use Rattle.std.proofs.Common.{sym, ap, ◌∙◌}
use Rattle.std.proofs.lemmas.Bool.{cond_both}
use Rattle.terms.specs.Lists.{same_list}
use Rattle.terms.proofs.ListLaws.{same_list_decides}
use Rattle.words.specs.Words.{Said, X', G', R', U', F', and', or', not', open', close', in', out', true', false', spelled, mark, width}

-- a run is as wide as it is long
pub width_spelled : (r : List ℕ) → width (spelled r) ≡ length r
width_spelled r =
    first (105 ∷ 110 ∷ []) in' _ refl
    (first (111 ∷ 117 ∷ 116 ∷ []) out' _ refl
    (first (116 ∷ 114 ∷ 117 ∷ 101 ∷ []) true' _ refl
    (first (102 ∷ 97 ∷ 108 ∷ 115 ∷ 101 ∷ []) false' _ refl refl)))
  where
    -- a word by its letters, or what is said otherwise
    first : (w : List ℕ) (s t : Said) → width s ≡ length w → width t ≡ length r → width (cond (same_list r w) s t) ≡ length r
    first w s t e f = cond_both (same_list r w) s t (λ v. width v ≡ length r) (λ same. e ∙ sym (ap length ((same_list_decides r w).0 same))) (λ _. f)

-- a mark takes one byte
pub width_mark : (b : ℕ) → width (mark b) ≡ 1
width_mark b =
    either (b == 88) X' _ refl (either (b == 71) G' _ refl (either (b == 82) R' _ refl (either (b == 85) U' _ refl (either (b == 70) F' _ refl
    (either (b == 38) and' _ refl (either (b == 124) or' _ refl (either (b == 33) not' _ refl (either (b == 40) open' _ refl (either (b == 41) close' _ refl refl)))))))))
  where
    either : (c : Bool) (s t : Said) → width s ≡ 1 → width t ≡ 1 → width (cond c s t) ≡ 1
    either true s t e f = e
    either false s t e f = f

-- what a word that says a run, or a mark, takes
pub run_width : {v : Option Said} (r : List ℕ) {s : Said} → v ≡ Some (spelled r) → v ≡ Some s → width s ≡ length r
run_width r {s} a b = let e : spelled r ≡ s = cc in ap width (sym e) ∙ width_spelled r

pub mark_width : {v : Option Said} (b : ℕ) {s : Said} → v ≡ Some (mark b) → v ≡ Some s → width s ≡ 1
mark_width b {s} a c = let e : mark b ≡ s = cc in ap width (sym e) ∙ width_mark b
