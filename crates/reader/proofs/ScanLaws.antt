-- The words of a text from a place on, by the byte that stands there.
use Rattle.std.proofs.Common.{◌≡◌, ℕ, ◌<◌, ◌≤◌, List, length, Some, sym, refl, subst, inl, inr, arith}
use Rattle.std.proofs.lemmas.Bool.{cases_lt}
use Rattle.words.specs.declared.word.Word.{Word}
use Rattle.words.specs.declared.word.Word.TheVariants.{End}
use Rattle.words.specs.declared.word.Token.{Token}
use Rattle.words.specs.Words.{Said, end_token, Comes}
use Rattle.words.proofs.WordLaws.{from_end, first_said}
use Rattle.reader.specs.Scan.{Peek, word, end}

-- a token's word, told, is the word that comes
abbrev token : Word → ℕ → ℕ → Token
token w a n = record { word = w; at = a; next = n }

pub some_one : {s u : Said} → Some s ≡ Some u → s ≡ u
some_one e = cc

module _ (bs : List ℕ) (from : ℕ) where
  peeked_so : (w : Word) (a n : ℕ) → Comes bs from (token w a n) → Peek bs from (token w a n)
  peeked_so End a n h = end refl h.0 h.1
  peeked_so w a n h = let f = first_said bs from a n w (λ e. cc) h in word f.0 f.1 f.2

  peeked : (t : Token) → Comes bs from t → Peek bs from t
  peeked t h = peeked_so t.word t.at t.next h

-- the word at any place
pub word_at : (bs : List ℕ) (from : ℕ) (t : Token) → (from ≤ length bs → Comes bs from t) → (length bs < from → t ≡ end_token (length bs)) → Peek bs from t
word_at bs from t c e = elim (cases_lt (length bs) from) [
  | inl l ↦ subst (Peek bs from) (sym (e l)) (end refl (from_end bs from (omega arith)) refl)
  | inr l ↦ peeked bs from t (c l)
]
