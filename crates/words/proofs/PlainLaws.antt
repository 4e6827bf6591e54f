-- The names of a text have no zero byte.
use Rattle.std.specs.Prelude.{◌≡◌, ℕ, Bool, true, false, cond, List, [], ◌∷◌, map, drop, ◌==◌, ◌≢◌}
use Rattle.std.proofs.Common.{ap, subst}
use Rattle.std.specs.List.{AllByRecursion}
use Rattle.std.proofs.lemmas.Bool.{both_ways}
use Rattle.terms.specs.Lists.{same_list}
use Rattle.words.specs.Words.{Said, X', G', R', U', F', and', or', not', open', close', in', out', true', false', name', Placed, at, said, other, kind, goes_on, spelled, mark, Run, ends, stops, more, Words, none, gap, one, long, words_from}
use Rattle.words.proofs.WordLaws.{from_words}

-- a name has no zero byte
abbrev pub Plain : List ℕ → Type 0
Plain x = AllByRecursion (λ b. b ≢ 0) x

-- a word that, if it is a name, has no zero byte
abbrev pub Plainly : Said → Type 0
Plainly w = (x : List ℕ) → w ≡ name' x → Plain x

module _ (c : Bool) (s t : Said) where
  plain_cond : Plainly s → Plainly t → Plainly (cond c s t)
  plain_cond f g = go c
    where
      go : (b : Bool) → Plainly (cond b s t)
      go true = f
      go false = g

plain_name : (r : List ℕ) → Plain r → Plainly (name' r)
plain_name r p x e = let is : r ≡ x = cc in subst Plain is p

plain_mark : (b : ℕ) → Plainly (mark b)
plain_mark b =
    plain_cond (b == 88) X' _ (λ x e. cc) (
    plain_cond (b == 71) G' _ (λ x e. cc) (
    plain_cond (b == 82) R' _ (λ x e. cc) (
    plain_cond (b == 85) U' _ (λ x e. cc) (
    plain_cond (b == 70) F' _ (λ x e. cc) (
    plain_cond (b == 38) and' _ (λ x e. cc) (
    plain_cond (b == 124) or' _ (λ x e. cc) (
    plain_cond (b == 33) not' _ (λ x e. cc) (
    plain_cond (b == 40) open' _ (λ x e. cc) (
    plain_cond (b == 41) close' _ (λ x e. cc) (λ x e. cc))))))))))

plain_spelled : (r : List ℕ) → Plain r → Plainly (spelled r)
plain_spelled r p =
    plain_cond (same_list r (105 ∷ 110 ∷ [])) in' _ (λ x e. cc) (
    plain_cond (same_list r (111 ∷ 117 ∷ 116 ∷ [])) out' _ (λ x e. cc) (
    plain_cond (same_list r (116 ∷ 114 ∷ 117 ∷ 101 ∷ [])) true' _ (λ x e. cc) (
    plain_cond (same_list r (102 ∷ 97 ∷ 108 ∷ 115 ∷ 101 ∷ [])) false' _ (λ x e. cc) (plain_name r p))))

plain_run : {bs r rest : List ℕ} → Run bs r rest → Plain r
plain_run ends = tt
plain_run (stops h) = tt
plain_run (more {b = b} h y) = (λ z. both_ways (goes_on b) (ap goes_on z) h, plain_run y)

-- the words of a text
pub words_plain : {p : ℕ} {bs : List ℕ} {ws : List Placed} → Words p bs ws → AllByRecursion Plainly (map said ws)
words_plain none = tt
words_plain (gap h y) = words_plain y
words_plain (one {b = b} h y) = (plain_mark b, words_plain y)
words_plain (long {b = b} {r = r} h run y) = (plain_spelled (b ∷ r) ((λ z. let zero : kind b ≡ other = ap kind z in cc), plain_run run), words_plain y)

pub from_plain : (bs : List ℕ) (i : ℕ) (w : Said) (q : ℕ) (rest : List Placed) → words_from bs i ≡ at w q ∷ rest → Plainly w
from_plain bs i w q rest e = (words_plain (subst (Words i (drop i bs)) e (from_words bs i))).0
