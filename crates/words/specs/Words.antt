-- The words of a text, with their places.
-- Said: what a word says. Words: the words of a text, as a relation. words_from: the same, computed from a place on.
use Rattle.std.specs.Prelude.{◌≡◌, ℕ, zero, suc, ◌+◌, Bool, true, false, cond, ◌&&◌, ◌||◌, List, [], ◌∷◌, length, take, drop, Some, None, Option, ◌==◌, nat_le}
use Rattle.std.specs.List.{prefix_len}
use Rattle.terms.specs.Lists.{same_list}
use Rattle.words.specs.declared.word.Word.{Word}
use Rattle.words.specs.declared.word.Word.TheVariants.{Next, Always, Release, Until, Finally, And, Or, Not, Open, Close, In, Out, True, False, Name, Strange, End}
use Rattle.words.specs.declared.word.Token.{Token}

-- what a word says: X, G, R, U, F, and, or, not, brackets, in, out, true, false, a name by its bytes; or a byte that
-- begins no word
pub data Said : Type 0 where
  X' G' R' U' F' : Said
  and' or' not' open' close' : Said
  in' out' true' false' : Said
  name' : List ℕ → Said
  strange' : ℕ → Said

-- a word and its place
pub data Placed : Type 0 where
  at : Said → ℕ → Placed

abbrev pub said : Placed → Said
said (at w p) = w

abbrev pub place : Placed → ℕ
place (at w p) = p

-- a blank: a space or a line feed
abbrev pub is_blank : ℕ → Bool
is_blank b = b == 0x20 || b == 0x0a

-- a byte is a blank, a letter a to z, or another
pub data Kind : Type 0 where
  blank letter other : Kind

abbrev pub kind : ℕ → Kind
kind b = cond (is_blank b) blank (cond (nat_le 97 b && nat_le b 122) letter other)

-- a letter a to z or a digit: what a name goes on with
abbrev pub goes_on : ℕ → Bool
goes_on b = (nat_le 97 b && nat_le b 122) || (nat_le 48 b && nat_le b 57)

-- the word that a run of letters and digits is: in, out, true, false or a name
abbrev pub spelled : List ℕ → Said
spelled r =
    cond (same_list r (105 ∷ 110 ∷ [])) in'
    (cond (same_list r (111 ∷ 117 ∷ 116 ∷ [])) out'
    (cond (same_list r (116 ∷ 114 ∷ 117 ∷ 101 ∷ [])) true'
    (cond (same_list r (102 ∷ 97 ∷ 108 ∷ 115 ∷ 101 ∷ [])) false'
    (name' r))))

-- the word of one byte that b is; a byte that begins no word is strange
abbrev pub mark : ℕ → Said
mark b =
    cond (b == 88) X' (cond (b == 71) G' (cond (b == 82) R' (cond (b == 85) U' (cond (b == 70) F'
    (cond (b == 38) and' (cond (b == 124) or' (cond (b == 33) not' (cond (b == 40) open' (cond (b == 41) close'
    (strange' b))))))))))

-- how many bytes what a word says takes
abbrev pub width : Said → ℕ
width X' = 1
width G' = 1
width R' = 1
width U' = 1
width F' = 1
width and' = 1
width or' = 1
width not' = 1
width open' = 1
width close' = 1
width in' = 2
width out' = 3
width true' = 4
width false' = 5
width (name' r) = length r
width (strange' b) = 1

-- Run bs r rest: bs is r and then rest, and r is the longest run of letters and digits that bs begins with
pub data Run : List ℕ → List ℕ → List ℕ → Type 0 where
  ends : Run [] [] []
  stops : {b : ℕ} {bs : List ℕ} → goes_on b ≡ false → Run (b ∷ bs) [] (b ∷ bs)
  more : {b : ℕ} {bs r rest : List ℕ} → goes_on b ≡ true → Run bs r rest → Run (b ∷ bs) (b ∷ r) rest

-- Words p bs ws: ws are the words of bs, whose first byte has the place p
pub data Words : ℕ → List ℕ → List Placed → Type 0 where
  none : {p : ℕ} → Words p [] []
  gap : {p b : ℕ} {bs : List ℕ} {ws : List Placed} → kind b ≡ blank → Words (suc p) bs ws → Words p (b ∷ bs) ws
  one : {p b : ℕ} {bs : List ℕ} {ws : List Placed} → kind b ≡ other → Words (suc p) bs ws → Words p (b ∷ bs) (at (mark b) p ∷ ws)
  long : {p b : ℕ} {bs r rest : List ℕ} {ws : List Placed} → kind b ≡ letter → Run bs r rest → Words (suc p + length r) rest ws → Words p (b ∷ bs) (at (spelled (b ∷ r)) p ∷ ws)

-- the words, computed, by at most n bytes or words
unfoldable pub words_in : ℕ → ℕ → List ℕ → List Placed
words_in zero p bs = []
words_in (suc n) p [] = []
words_in (suc n) p (b ∷ bs) = elim (kind b) [
  | blank ↦ words_in n (suc p) bs
  | letter ↦ at (spelled (b ∷ take (prefix_len goes_on bs) bs)) p ∷ words_in n (suc p + prefix_len goes_on bs) (drop (prefix_len goes_on bs) bs)
  | other ↦ at (mark b) p ∷ words_in n (suc p) bs
]

-- the words of a text from the place p on
unfoldable pub words_from : List ℕ → ℕ → List Placed
unfolding words_in
words_from bs p = words_in (length bs) p (drop p bs)

-- what a token of the word reader says, and where; the end says nothing
abbrev pub Comes : List ℕ → ℕ → Token → Type 0
Comes bs from t = Tells t.word
  where
    Is : Said → Type 0
    Is s = words_from bs from ≡ at s t.at ∷ words_from bs t.next

    Tells : Word → Type 0
    Tells Next = Is X'
    Tells Always = Is G'
    Tells Release = Is R'
    Tells Until = Is U'
    Tells Finally = Is F'
    Tells And = Is and'
    Tells Or = Is or'
    Tells Not = Is not'
    Tells Open = Is open'
    Tells Close = Is close'
    Tells In = Is in'
    Tells Out = Is out'
    Tells True = Is true'
    Tells False = Is false'
    Tells (Name r) = Is (name' r.now)
    Tells (Strange b) = Is (strange' b)
    Tells End = (words_from bs from ≡ []) × (t.at ≡ length bs)

-- what a word of the reader says; the end says nothing
abbrev pub says : Word → Option Said
says Next = Some X'
says Always = Some G'
says Release = Some R'
says Until = Some U'
says Finally = Some F'
says And = Some and'
says Or = Some or'
says Not = Some not'
says Open = Some open'
says Close = Some close'
says In = Some in'
says Out = Some out'
says True = Some true'
says False = Some false'
says (Name r) = Some (name' r.now)
says (Strange b) = Some (strange' b)
says End = None

-- the token for the end of a text of n bytes
abbrev pub end_token : ℕ → Token
end_token n = record { word = End; at = n; next = n }

-- the computed words of a text are its words, and its only ones
abbrev pub WordsStand : Type 0
WordsStand = (bs : List ℕ) → Words 0 bs (words_from bs 0) × ((ws : List Placed) → Words 0 bs ws → ws ≡ words_from bs 0)
