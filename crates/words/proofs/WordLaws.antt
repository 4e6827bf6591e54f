-- A text has one list of words, the computed one; and how a reader goes through them.
use Rattle.std.specs.Prelude.{◌≡◌, ℕ, zero, suc, ◌+◌, ◌-◌, ◌<◌, ◌≤◌, Bool, true, false, cond, List, [], ◌∷◌, length, take, drop, Some, slice_index, slice_index_or, slice_range, refl}
use Rattle.std.proofs.Common.{sym, ap, ap₂, subst, subst₂, ◌∙◌, add-one, one-add, arith}
use Rattle.std.specs.List.{prefix_len}
use Rattle.std.proofs.lemmas.List.{length-take, length-drop, drop-drop, drop_more, drop_all, get_or-drop}
use Rattle.std.proofs.lemmas.List.Sums.{prefix_len-le-length, prefix_len_stops}
use Rattle.std.proofs.lemmas.Slice.{between_to_end}
use Rattle.std.proofs.lemmas.Bool.{cond-true}
use Rattle.words.specs.declared.word.Word.{Word}
use Rattle.words.specs.declared.word.Word.TheVariants.{End}
use Rattle.words.specs.Words.{Said, Placed, at, is_blank, Kind, blank, letter, other, kind, goes_on, spelled, mark, Run, ends, stops, more, Words, none, gap, one, long, words_in, words_from, says, Comes}

-- a text has one longest run
pub run_one : {bs r rest r' rest' : List ℕ} → Run bs r rest → Run bs r' rest' → (r ≡ r') × (rest ≡ rest')
run_one ends ends = (refl, refl)
run_one (stops h) (stops k) = (refl, refl)
run_one (stops {b = b} h) (more k y) = cc
run_one (more {b = b} h x) (stops k) = cc
run_one (more {b = b} h x) (more k y) = let ef = run_one x y in (ap (λ z. b ∷ z) ef.0, ef.1)

-- a text has one list of words
pub words_one : {p : ℕ} {bs : List ℕ} {v w : List Placed} → Words p bs v → Words p bs w → v ≡ w
words_one none none = refl
words_one (gap h x) (gap k y) = words_one x y
words_one (gap h x) (one k y) = cc
words_one (gap h x) (long k r y) = cc
words_one (one h x) (gap k y) = cc
words_one (one {p = p} {b = b} h x) (one k y) = ap (λ z. at (mark b) p ∷ z) (words_one x y)
words_one (one h x) (long k r y) = cc
words_one (long h q x) (gap k y) = cc
words_one (long h q x) (one k y) = cc
words_one (long {p = p} {b = b} h q x) (long {ws = w} k r y) =
    let ef = run_one q r in
    ap₂ (λ a z. at (spelled (b ∷ a)) p ∷ z) ef.0 (words_one x (subst₂ (λ a z. Words (suc p + length a) z w) (sym ef.0) (sym ef.1) y))

-- the longest run, computed
pub run_leading : (bs : List ℕ) → Run bs (take (prefix_len goes_on bs) bs) (drop (prefix_len goes_on bs) bs)
run_leading [] = ends
run_leading (b ∷ bs) = go (run_leading bs) (goes_on b) refl
  where
    go : Run bs (take (prefix_len goes_on bs) bs) (drop (prefix_len goes_on bs) bs) → (g : Bool) → goes_on b ≡ g → Run (b ∷ bs) (take (cond g (1 + prefix_len goes_on bs) 0) (b ∷ bs)) (drop (cond g (1 + prefix_len goes_on bs) 0) (b ∷ bs))
    go r true h = subst (λ n. Run (b ∷ bs) (take n (b ∷ bs)) (drop n (b ∷ bs))) (sym (one-add (prefix_len goes_on bs))) (more h r)
    go r false h = stops h

leading_length : (bs : List ℕ) → length (take (prefix_len goes_on bs) bs) ≡ prefix_len goes_on bs
leading_length bs = omega (arith, length-take (prefix_len goes_on bs) bs, prefix_len-le-length goes_on bs)

-- the computed words are the words
words_in_words : (n p : ℕ) (bs : List ℕ) → length bs ≤ n → Words p bs (words_in n p bs)
unfolding words_in
words_in_words zero p [] h = none
words_in_words zero p (b ∷ bs) h = absurd (omega arith)
words_in_words (suc n) p [] h = none
words_in_words (suc n) p (b ∷ bs) h = go (words_in_words n) (kind b) refl
  where
    go : ((q : ℕ) (cs : List ℕ) → length cs ≤ n → Words q cs (words_in n q cs)) → (k : Kind) → kind b ≡ k → Words p (b ∷ bs) (elim k [
      | blank ↦ words_in n (suc p) bs
      | letter ↦ at (spelled (b ∷ take (prefix_len goes_on bs) bs)) p ∷ words_in n (suc p + prefix_len goes_on bs) (drop (prefix_len goes_on bs) bs)
      | other ↦ at (mark b) p ∷ words_in n (suc p) bs
    ])
    go on blank e = gap e (on (suc p) bs (omega arith))
    go on letter e =
        let rest = on (suc p + prefix_len goes_on bs) (drop (prefix_len goes_on bs) bs) (omega (arith, length-drop (prefix_len goes_on bs) bs)) in
        long e (run_leading bs) (subst (λ m. Words (suc p + m) (drop (prefix_len goes_on bs) bs) (words_in n (suc p + prefix_len goes_on bs) (drop (prefix_len goes_on bs) bs))) (sym (leading_length bs)) rest)
    go on other e = one e (on (suc p) bs (omega arith))

module _ (bs : List ℕ) where
  -- the words from a place on
  pub from_words : (p : ℕ) → Words p (drop p bs) (words_from bs p)
  unfolding words_from
  from_words p = words_in_words (length bs) p (drop p bs) (omega (arith, length-drop p bs))

  -- they are the only ones
  pub words_from_is : (p : ℕ) (ws : List Placed) → Words p (drop p bs) ws → words_from bs p ≡ ws
  words_from_is p ws w = words_one (from_words p) w

  -- the words of a whole text
  pub words_all : Words 0 bs (words_from bs 0)
  words_all = from_words 0

  pub from_end : (i : ℕ) → length bs ≤ i → words_from bs i ≡ []
  from_end i h = words_from_is i [] (subst (λ l. Words i l []) (sym (drop_all i bs h)) none)

  to_end : (i : ℕ) → slice_range bs i (length bs) ≡ drop i bs
  to_end i = between_to_end bs i (length bs) (omega arith)

  -- blanks are passed
  past : {ws : List Placed} (xs : List ℕ) (p : ℕ) → Words (p + prefix_len is_blank xs) (drop (prefix_len is_blank xs) xs) ws → Words p xs ws
  past [] p none = none
  past {ws} (b ∷ xs) p w = go (past xs (suc p)) (is_blank b) refl w
    where
      go : (Words (suc p + prefix_len is_blank xs) (drop (prefix_len is_blank xs) xs) ws → Words (suc p) xs ws) → (c : Bool) → is_blank b ≡ c → Words (p + cond c (1 + prefix_len is_blank xs) 0) (drop (cond c (1 + prefix_len is_blank xs) 0) (b ∷ xs)) ws → Words p (b ∷ xs) ws
      go on true e v =
          let n = prefix_len is_blank xs in
          let one-more : Words (p + suc n) (drop n xs) ws = subst (λ m. Words (p + m) (drop m (b ∷ xs)) ws) (one-add n) v in
          let same : p + suc n ≡ suc p + n = omega arith in
          gap (cond-true _ _ _ e) (on (subst (λ m. Words m (drop n xs) ws) same one-more))
      go on false e v = let same : p + 0 ≡ p = omega arith in subst (λ m. Words m (b ∷ xs) ws) same v

  -- j is the place behind the blanks at i
  module _ (i j : ℕ) (is : j ≡ i + prefix_len is_blank (slice_range bs i (length bs))) where
    to : j ≡ i + prefix_len is_blank (drop i bs)
    to = is ∙ ap (λ l. i + prefix_len is_blank l) (to_end i)

    pub passed : words_from bs i ≡ words_from bs j
    passed =
        let n = prefix_len is_blank (drop i bs) in
        let left : drop j bs ≡ drop n (drop i bs) = ap (λ m. drop m bs) to ∙ sym (drop-drop n i bs) in
        words_from_is i (words_from bs j) (past (drop i bs) i (subst₂ (λ m l. Words m l (words_from bs j)) to left (from_words j)))

    pub solid : j < length bs → is_blank (slice_index bs j) ≡ false
    solid h =
        let n = prefix_len is_blank (drop i bs) in
        let inside : n < length (drop i bs) = omega (arith, to, length-drop i bs) in
        ap (λ m. is_blank (slice_index bs m)) to ∙ ap is_blank (sym (get_or-drop i bs n 0)) ∙ prefix_len_stops is_blank (drop i bs) 0 inside

  module _ (i : ℕ) (h : i < length bs) where
    here : {ws : List Placed} → Words i (slice_index bs i ∷ drop (i + 1) bs) ws → words_from bs i ≡ ws
    here {ws} w = words_from_is i ws (subst (λ l. Words i l ws) (sym (drop_more bs i 0 h)) w)

    after : Words (suc i) (drop (i + 1) bs) (words_from bs (i + 1))
    after = subst (λ n. Words n (drop (i + 1) bs) (words_from bs (i + 1))) (add-one i) (from_words (i + 1))

    -- a byte that is neither blank nor letter is a word
    pub from_mark : kind (slice_index bs i) ≡ other → words_from bs i ≡ at (mark (slice_index bs i)) i ∷ words_from bs (i + 1)
    from_mark e = here (one e after)

    -- a letter begins a run
    pub from_run : kind (slice_index bs i) ≡ letter → goes_on (slice_index bs i) ≡ true → (j : ℕ) → j ≡ i + prefix_len goes_on (slice_range bs i (length bs)) → (words_from bs i ≡ at (spelled (slice_range bs i j)) i ∷ words_from bs j) × (i < j)
    from_run e g j is =
        let b = slice_index_or bs i 0 in
        let rest = drop (i + 1) bs in
        let n = prefix_len goes_on rest in
        let to : j ≡ i + prefix_len goes_on (drop i bs) = is ∙ ap (λ l. i + prefix_len goes_on l) (to_end i) in
        let split : drop i bs ≡ b ∷ rest = drop_more bs i 0 h in
        let count : prefix_len goes_on (drop i bs) ≡ 1 + n = ap (prefix_len goes_on) split ∙ cond-true _ _ _ g in
        let width : j - i ≡ suc n = omega arith in
        let run : take (j - i) (drop i bs) ≡ b ∷ take n rest = ap₂ take width split in
        let place : suc i + length (take n rest) ≡ j = omega (arith, leading_length rest) in
        let left : drop n rest ≡ drop j bs = drop-drop n (i + 1) bs ∙ ap (λ m. drop m bs) (omega arith) in
        let behind : Words (suc i + length (take n rest)) (drop n rest) (words_from bs j) = subst₂ (λ m l. Words m l (words_from bs j)) (sym place) (sym left) (from_words j) in
        (here (long e (run_leading rest) behind) ∙ ap (λ r. at (spelled r) i ∷ words_from bs j) (sym run), omega arith)

module _ (bs : List ℕ) (from p n : ℕ) (s : Said) where
  -- a token comes where it says the first word
  pub comes : (w : Word) → says w ≡ Some s → words_from bs from ≡ at s p ∷ words_from bs n → Comes bs from (record { word = w; at = p; next = n })
  comes End h e = cc
  comes w h e = cc

module _ (bs : List ℕ) (from p n : ℕ) where
  -- a token that comes says the first word, unless it is the end
  pub first_said : (w : Word) → ¬ (w ≡ End) → Comes bs from (record { word = w; at = p; next = n }) → (s : Said) × (says w ≡ Some s) × (words_from bs from ≡ at s p ∷ words_from bs n)
  first_said End h e = absurd (h refl)
  first_said w h e = (_, refl, e)

  -- behind the last word comes the end, at the text's length
  pub end_said : (w : Word) → w ≡ End → Comes bs from (record { word = w; at = p; next = n }) → (words_from bs from ≡ []) × (p ≡ length bs)
  end_said w h e = subst (λ v. Comes bs from (record { word = v; at = p; next = n })) h e
