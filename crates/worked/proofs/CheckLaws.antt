-- A test of a book against its game, which computes.
-- shown: where it passes, the game shows the rows.
use Rattle.std.proofs.Common.{◌≡◌, ℕ, zero, suc, ◌^◌, ◌<◌, Bool, true, false, true≢false, cond, not, ◌&&◌, ◌==◌, List, [], length, get_or, take, drop, nat_lt, nat_le, Some, None, Option, refl, sym, ap, ◌∙◌, inl, inr, Decides, eqb-true, ltb-true, leb-true, le-leb, arith}
use Rattle.std.proofs.lemmas.Bool.{and_parts, cases_eq, lt-ltb, le-ltb}
use Rattle.std.proofs.lemmas.Bool.Decides.{Decides-not}
use Rattle.terms.specs.declared.count.Count.{Count}
use Rattle.terms.specs.declared.count.Count.TheVariants.{Lost, Limited, Unlimited}
use Rattle.terms.specs.Best.{Best}
use Rattle.terms.specs.Order.{AtMost, plus}
use Rattle.arena.specs.Arena.{Arena, Place, Sound}
use Rattle.arena.specs.Book.{front, header, entry_at, book_length}
use Rattle.arena.proofs.ControlLaws.{values_proper}
use Rattle.book.specs.Told.{count_told, spoiling_told, answer_told, count_in}
use Rattle.book.specs.Agreeing.{Follows, Expected, AgreesAt, Agrees}
use Rattle.book.proofs.ToldLaws.{agrees_right, told_count_is}
use Rattle.terms.proofs.ListLaws.{same_list_decides}
use Rattle.terms.specs.Lists.{same_list}
use Rattle.worked.specs.Worked.{Row, endless, book_of, Shows}

-- ---- tests

unfoldable at_most : Count → Count → Bool
at_most Lost d = true
at_most (Limited k) Lost = false
at_most (Limited k) (Limited j) = nat_le k j
at_most (Limited k) Unlimited = true
at_most Unlimited Lost = false
at_most Unlimited (Limited j) = false
at_most Unlimited Unlimited = true

unfoldable same_count : Count → Count → Bool
same_count Lost Lost = true
same_count (Limited k) (Limited j) = k == j
same_count Unlimited Unlimited = true
same_count c d = false

unfoldable below : ℕ → (ℕ → Bool) → Bool
below zero t = true
below (suc n) t = t n && below n t

unfoldable best : (Count → Count → Bool) → ℕ → (ℕ → Count) → ℕ → Bool
unfolding below
best le m f y = nat_lt y m && (below m (λ z. le (f z) (f y)) && below y (λ z. not (le (f y) (f z))))

unfoldable follows : Count → ℕ → (ℕ → Count) → Option ℕ → Bool
unfolding best at_most below same_count plus
follows Lost m f s = false
follows (Limited k) m f None = false
follows (Limited k) m f (Some x) = best (λ c d. at_most d c) m f x && same_count (Limited k) (plus (f x) 1)
follows Unlimited m f None = below m (λ x. same_count (f x) Unlimited)
follows Unlimited m f (Some x) = false

unfoldable expects : Arena → List ℕ → ℕ → ℕ → ℕ → Bool
unfolding best at_most
expects a bs p x y = cond (nat_lt x (2 ^ a.inputs)) (best at_most (2 ^ a.outputs) (λ z. count_in bs (a.move p x z)) y) (y == 0)

unfoldable agrees_at : Arena → List ℕ → ℕ → Bool
unfolding expects follows below
agrees_at a bs p =
    same_list (take 8 (drop (entry_at p) bs)) (front (count_told bs p) (spoiling_told bs p))
    && (below 16 (λ x. expects a bs p x (answer_told bs p x))
    && follows (count_told bs p) (2 ^ a.inputs) (λ x. count_in bs (a.move p x (answer_told bs p x))) (spoiling_told bs p))

unfoldable agrees : Arena → List ℕ → Bool
unfolding agrees_at below
agrees a bs = (nat_le 1 a.size && length bs == book_length a.size) && (same_list (take 8 bs) (header a) && below a.size (λ k. agrees_at a bs (suc k)))

-- the book of the rows is the game's, and its counts are the rows'
unfoldable pub shows : Arena → List Row → Bool
unfolding agrees below same_count
shows a rows = a.size == length rows && (agrees a (book_of rows) && below (length rows) (λ k. same_count (count_told (book_of rows) (suc k)) (get_or rows k (endless [])).count))

-- ---- what they tell

at_most_decides : (c d : Count) → Decides (at_most c d) (AtMost c d)
unfolding at_most AtMost
at_most_decides Lost d = (λ _. tt, λ _. refl)
at_most_decides (Limited k) Lost = (λ e. absurd (true≢false (sym e)), λ h. absurd h)
at_most_decides (Limited k) (Limited j) = (leb-true k j, λ h. le-leb k j h)
at_most_decides (Limited k) Unlimited = (λ _. tt, λ _. refl)
at_most_decides Unlimited Lost = (λ e. absurd (true≢false (sym e)), λ h. absurd h)
at_most_decides Unlimited (Limited j) = (λ e. absurd (true≢false (sym e)), λ h. absurd h)
at_most_decides Unlimited Unlimited = (λ _. tt, λ _. refl)

same_count_true : (c d : Count) → same_count c d ≡ true → c ≡ d
unfolding same_count
same_count_true Lost Lost e = refl
same_count_true Lost (Limited j) e = absurd (true≢false (sym e))
same_count_true Lost Unlimited e = absurd (true≢false (sym e))
same_count_true (Limited k) Lost e = absurd (true≢false (sym e))
same_count_true (Limited k) (Limited j) e = ap Limited (eqb-true k j e)
same_count_true (Limited k) Unlimited e = absurd (true≢false (sym e))
same_count_true Unlimited Lost e = absurd (true≢false (sym e))
same_count_true Unlimited (Limited j) e = absurd (true≢false (sym e))
same_count_true Unlimited Unlimited e = refl

below_true : (n : ℕ) (t : ℕ → Bool) → below n t ≡ true → (k : ℕ) → k < n → t k ≡ true
unfolding below
below_true zero t e k l = absurd (omega arith)
below_true (suc n) t e k l =
    let w = and_parts (t n) (below n t) e in
    elim (cases_eq k n) [ inl same ↦ ap t same ∙ w.0 | inr apart ↦ below_true n t w.1 k (omega arith) ]

module _ (le : Count → Count → Bool) (Le : Count → Count → Type 0) (decides : (c d : Count) → Decides (le c d) (Le c d)) where
  best_true : (m : ℕ) (f : ℕ → Count) (y : ℕ) → best le m f y ≡ true → Best Le m f y
  unfolding best
  best_true m f y e =
      let w = and_parts (nat_lt y m) _ e in
      let u = and_parts (below m (λ z. le (f z) (f y))) _ w.1 in
      record {
        here = ltb-true y m w.0;
        best = λ z l. (decides (f z) (f y)).0 (below_true m (λ z. le (f z) (f y)) u.0 z l);
        lowest = λ z l. (Decides-not (le (f y) (f z)) (decides (f y) (f z))).0 (below_true y (λ z. not (le (f y) (f z))) u.1 z l);
      }

follows_true : (c : Count) (m : ℕ) (f : ℕ → Count) (s : Option ℕ) → follows c m f s ≡ true → Follows c m f s
unfolding follows
follows_true Lost m f s e = absurd (true≢false (sym e))
follows_true (Limited k) m f None e = absurd (true≢false (sym e))
follows_true (Limited k) m f (Some x) e =
    let w = and_parts (best (λ c d. at_most d c) m f x) _ e in
    (x, refl, best_true (λ c d. at_most d c) (λ c d. AtMost d c) (λ c d. at_most_decides d c) m f x w.0, same_count_true (Limited k) (plus (f x) 1) w.1)
follows_true Unlimited m f None e = (refl, λ x l. same_count_true (f x) Unlimited (below_true m (λ x. same_count (f x) Unlimited) e x l))
follows_true Unlimited m f (Some x) e = absurd (true≢false (sym e))

expects_true : (a : Arena) (bs : List ℕ) (p x y : ℕ) → expects a bs p x y ≡ true → Expected a bs p x y
unfolding expects
expects_true a bs p x y e =
    let f : ℕ → Count = λ z. count_in bs (a.move p x z) in
    let m : ℕ = 2 ^ a.outputs in
    record {
      best = λ l. best_true at_most AtMost at_most_decides m f y (sym (ap (λ (b : Bool). cond b (best at_most m f y) (y == 0)) (lt-ltb x (2 ^ a.inputs) l)) ∙ e);
      blank = λ l. eqb-true y 0 (sym (ap (λ (b : Bool). cond b (best at_most m f y) (y == 0)) (le-ltb x (2 ^ a.inputs) l)) ∙ e);
    }

agrees_at_true : (a : Arena) (bs : List ℕ) (p : ℕ) → agrees_at a bs p ≡ true → AgreesAt a bs p
unfolding agrees_at
agrees_at_true a bs p e =
    let xs = take 8 (drop (entry_at p) bs) in
    let ys = front (count_told bs p) (spoiling_told bs p) in
    let w = and_parts (same_list xs ys) _ e in
    let u = and_parts (below 16 (λ x. expects a bs p x (answer_told bs p x))) _ w.1 in
    record {
      front = (same_list_decides xs ys).0 w.0;
      answers = λ x l. expects_true a bs p x (answer_told bs p x) (below_true 16 (λ x. expects a bs p x (answer_told bs p x)) u.0 x l);
      follows = follows_true (count_told bs p) (2 ^ a.inputs) (λ x. count_in bs (a.move p x (answer_told bs p x))) (spoiling_told bs p) u.1;
    }

agrees_true : (a : Arena) (bs : List ℕ) → agrees a bs ≡ true → Agrees a bs
unfolding agrees
agrees_true a bs e =
    let w = and_parts (nat_le 1 a.size && length bs == book_length a.size) _ e in
    let u = and_parts (nat_le 1 a.size) (length bs == book_length a.size) w.0 in
    let v = and_parts (same_list (take 8 bs) (header a)) (below a.size (λ k. agrees_at a bs (suc k))) w.1 in
    record {
      sized = leb-true 1 a.size u.0;
      long = eqb-true (length bs) (book_length a.size) u.1;
      head = (same_list_decides (take 8 bs) (header a)).0 v.0;
      here = here v.1;
    }
  where
    here : below a.size (λ k. agrees_at a bs (suc k)) ≡ true → (p : ℕ) → Place a p → AgreesAt a bs p
    here f zero i = absurd (let l = i.0 in omega arith)
    here f (suc k) i = agrees_at_true a bs (suc k) (below_true a.size (λ k. agrees_at a bs (suc k)) f k (let l = i.1 in omega arith))

-- where the test passes, the game shows the rows
pub shown : (a : Arena) → Sound a → (rows : List Row) → shows a rows ≡ true → Shows a rows
unfolding shows
shown a sound rows e =
    let bs = book_of rows in
    let w = and_parts (a.size == length rows) _ e in
    let u = and_parts (agrees a bs) (below (length rows) (λ k. same_count (count_told bs (suc k)) (get_or rows k (endless [])).count)) w.1 in
    let size : a.size ≡ length rows = eqb-true a.size (length rows) w.0 in
    let b = (agrees_right a sound bs).0 (agrees_true a bs u.0) in
    record {
      size = size;
      book = b;
      counts = λ k l.
          let told : count_told bs (suc k) ≡ (get_or rows k (endless [])).count = same_count_true _ _ (below_true (length rows) (λ k. same_count (count_told bs (suc k)) (get_or rows k (endless [])).count) u.1 k l) in
          (values_proper sound b.0 (suc k) _).0 (sym (told_count_is a sound b.0 bs b.1 (suc k) (omega arith, omega (arith, size))) ∙ told);
    }
