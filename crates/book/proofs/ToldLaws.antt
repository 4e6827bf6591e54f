-- What the bytes of the game's book tell, and that they are its book exactly when they agree with the moves.
use Rattle.std.proofs.Common.{◌≡◌, ℕ, ◌+◌, ◌-◌, ◌*◌, ◌/◌, ◌%◌, ◌^◌, ◌<◌, ◌≤◌, Bool, true, false, cond, ◌&&◌, eqb, leb, ◌↔◌, List, ◌++◌, length, get_or, take, drop, Some, None, Option, sym, refl, ap, ◌∙◌, subst, inl, inr, arith, take-add, pow_mono}
use mathlib.Core.Path.{fun_ext}
use native.Mathlib.Nat.{div-add-mod}
use Rattle.std.proofs.lemmas.List.{get_or-take, get_or-drop, get_or_past, length-take-le, length-drop, take-take, get_or-append-add}
use Rattle.std.proofs.lemmas.Bool.{cases_eq, cases_lt, ne_eqb, le-leb, and_from, cond-true, cond-false}
use Rattle.std.proofs.lemmas.Bool.Decides.{nat_tests}
use Rattle.terms.specs.declared.count.Count.{Count}
use Rattle.terms.specs.declared.count.Count.TheVariants.{Lost, Limited, Unlimited}
use Rattle.arena.specs.Arena.{Arena, Place, Sound}
use Rattle.terms.specs.Order.{AtMost, plus, Most}
use Rattle.arena.specs.Count.{Counts}
use Rattle.arena.specs.Values.{Spoils, Values}
use Rattle.arena.specs.Book.{status, rounds, input_byte, front, entry_at, Book, IsBook}
use Rattle.terms.proofs.OrderLaws.{at_most_antisym}
use Rattle.arena.proofs.CountLaws.{counts_once}
use Rattle.arena.proofs.ValueLaws.{answer_costs, spoils_costs}
use Rattle.terms.proofs.BestLaws.{best_same}
use Rattle.book.specs.Told.{flag_told, count_told, spoiling_told, answer_told, count_in}
use Rattle.book.specs.Agreeing.{Follows, Agrees}
use Rattle.book.proofs.AgreeLaws.{true_counts, true_spoils}

-- ---- from agreement

module _ (a : Arena) (sound : Sound a) (bs : List ℕ) (g : Agrees a bs) where
  inside : ℕ → Bool
  inside p = leb 1 p && leb p a.size

  count : ℕ → Count
  count p = cond (inside p) (count_told bs p) Lost

  spoiling : ℕ → Option ℕ
  spoiling p = cond (inside p) (spoiling_told bs p) None

  is_inside : (p : ℕ) → Place a p → inside p ≡ true
  unfolding inside
  is_inside p i = and_from _ _ (le-leb 1 p i.0) (le-leb p a.size i.1)

  not_inside : (p : ℕ) → (Place a p → ⊥) → inside p ≡ false
  unfolding inside
  not_inside p o = grind (arith, nat_tests, o)

  count_is : (p : ℕ) → Place a p → count p ≡ count_told bs p
  unfolding count
  count_is p i = cond-true (inside p) _ _ (is_inside p i)

  -- a move's count
  count_at : (q : ℕ) → q ≤ a.size → count_in bs q ≡ count q
  unfolding count
  count_at q l = elim (cases_eq q 0) [
    | inl e ↦ rw e (sym (cond-false (inside 0) (count_told bs 0) Lost (not_inside 0 (λ i. omega arith))))
    | inr ne ↦ cond-false (eqb q 0) _ _ (ne_eqb q 0 ne) ∙ sym (count_is q (omega arith, l))
  ]

  moved : (p : ℕ) (f : ℕ → ℕ) → ◌≡◌ {A = ℕ → Count} (λ x. count_in bs (a.move p x (f x))) (λ x. count (a.move p x (f x)))
  moved p f = fun_ext (λ x. count_at _ (sound.sized.within p x (f x)))

  few : (x : ℕ) → x < 2 ^ a.inputs → x < 16
  few x l = let h : 2 ^ a.inputs ≤ 2 ^ 4 = pow_mono sound.walks.few_in in omega arith

  off : (p : ℕ) → (Place a p → ⊥) → count p ≡ Lost
  unfolding count
  off p o = cond-false (inside p) _ _ (not_inside p o)

  none : (p : ℕ) → (Place a p → ⊥) → spoiling p ≡ None
  unfolding spoiling
  none p o = cond-false (inside p) _ _ (not_inside p o)

  spoiling_is : (p : ℕ) → Place a p → spoiling p ≡ spoiling_told bs p
  unfolding spoiling
  spoiling_is p i = cond-true (inside p) _ _ (is_inside p i)

  best : (p x : ℕ) → Place a p → x < 2 ^ a.inputs → Most (2 ^ a.outputs) (λ y. count (a.move p x y)) (answer_told bs p x)
  best p x i l = subst (λ n. Most (2 ^ a.outputs) n (answer_told bs p x)) (fun_ext (λ y. count_at _ (sound.sized.within p x y))) (((g.here p i).answers x (few x l)).best l)

  fol : (p : ℕ) → Place a p → Follows (count p) (2 ^ a.inputs) (λ x. count (a.move p x (answer_told bs p x))) (spoiling p)
  fol p i =
      subst (λ n. Follows (count p) (2 ^ a.inputs) n (spoiling p)) (moved p (answer_told bs p)) (rw (count_is p i, spoiling_is p i) (g.here p i).follows)

  told_values : Values a
  told_values = record {
    count = count;
    answer = answer_told bs;
    spoiling = spoiling;
    counts = true_counts a count (answer_told bs) spoiling off best fol;
    answers = best;
    spoils = true_spoils a count (answer_told bs) spoiling off best fol none;
  }

  agrees_book : Book a told_values bs
  unfolding told_values
  agrees_book = record {
    sized = g.sized;
    long = g.long;
    head = g.head;
    entries = λ p i.
        let d = drop (entry_at p) bs in
        let long : length d ≡ length bs - entry_at p = length-drop (entry_at p) bs in
        let room : 24 ≤ length d = omega (arith, g.long) in
        record {
          answers = take 16 (drop 8 d);
          layout =
              take-add 8 16 d
              ∙ ap (λ f. f ++ take 16 (drop 8 d)) (g.here p i).front
              ∙ ap (λ c. front c (spoiling_told bs p) ++ take 16 (drop 8 d)) (sym (count_is p i))
              ∙ ap (λ s. front (count p) s ++ take 16 (drop 8 d)) (sym (spoiling_is p i));
          answered =
              let at : (x : ℕ) → x < 16 → get_or (take 16 (drop 8 d)) x 0 ≡ answer_told bs p x = λ x l. get_or-take 16 (drop 8 d) x 0 l ∙ get_or-drop 8 d x 0 ∙ get_or-drop (entry_at p) bs (8 + x) 0 in
              let sixteen : length (take 16 (drop 8 d)) ≡ 16 = length-take-le 16 (drop 8 d) (omega (arith, length-drop 8 d)) in
              record {
                sixteen = sixteen;
                answer = λ x l. at x (few x l);
                no_answer = λ x l. elim (cases_lt x 16) [
                  | inl m ↦ at x m ∙ ((g.here p i).answers x m).blank l
                  | inr m ↦ get_or_past (take 16 (drop 8 d)) x 0 (omega arith)
                ];
              };
        };
  }

-- ---- from the book

-- what a record's first bytes say
told_count : (c : Count) (f h l : ℕ) → (c ≡ Lost → ⊥) → f ≡ status c → h ≡ rounds c / 256 → l ≡ rounds c % 256 → cond (eqb f 1) Unlimited (Limited (256 * h + l)) ≡ c
told_count Lost f h l n e u w = absurd (n refl)
told_count (Limited k) f h l n e u w = rw (e, u, w) (ap Limited (div-add-mod k 256))
told_count Unlimited f h l n e u w = rw e refl

told_spoiling : (c : Count) (m : ℕ) (g : ℕ → Count) (s : Option ℕ) (f b : ℕ) → (c ≡ Lost → ⊥) → Spoils c m g s → f ≡ status c → b ≡ input_byte s → cond (eqb f 1) None (Some b) ≡ s
told_spoiling Lost m g s f b n h e u = absurd (n refl)
told_spoiling (Limited k) m g s f b n h e u = rw e (ap Some (u ∙ ap input_byte h.1) ∙ sym h.1)
told_spoiling Unlimited m g s f b n h e u = rw e (sym h)

stays : (d : Count) → AtMost Unlimited (plus d 1) → d ≡ Unlimited
unfolding AtMost plus
stays Lost l = absurd l
stays (Limited k) l = absurd l
stays Unlimited l = refl

follows_same : (c : Count) (m : ℕ) (f g : ℕ → Count) (s : Option ℕ) → ((x : ℕ) → x < m → f x ≡ g x) → Follows c m f s → Follows c m g s
follows_same Lost m f g s e h = h
follows_same (Limited k) m f g s e h = (h.0, h.1, best_same e h.2, h.3 ∙ ap (λ c. plus c 1) (e h.0 h.2.here))
follows_same Unlimited m f g s e h = (h.0, λ x l. sym (e x l) ∙ h.1 x l)

module _ (a : Arena) (sound : Sound a) (v : Values a) (bs : List ℕ) (b : Book a v bs) where
  -- a position is not lost
  pub not_lost : (p : ℕ) → Place a p → v.count p ≡ Lost → ⊥
  not_lost p i e = unfold Counts in subst (Counts a p) e (v.counts p) i

  pub lost_count : v.count 0 ≡ Lost
  lost_count = counts_once a 0 _ Lost (v.counts 0) (unfold Counts in λ i. omega arith)

  pub lost_spoiling : v.spoiling 0 ≡ None
  lost_spoiling = subst (λ c. Spoils c (2 ^ a.inputs) (λ x. v.count (a.move 0 x (v.answer 0 x))) (v.spoiling 0)) lost_count (v.spoils 0)

  -- a byte of the record of p
  entry_byte : (p k : ℕ) (i : Place a p) → k < 24 → get_or bs (entry_at p + k) 0 ≡ get_or (front (v.count p) (v.spoiling p) ++ (b.entries p i).answers) k 0
  entry_byte p k i l =
      sym (get_or-take 24 (drop (entry_at p) bs) k 0 l ∙ get_or-drop (entry_at p) bs k 0) ∙ ap (λ r. get_or r k 0) (b.entries p i).layout

  pub flag_is : (p : ℕ) → Place a p → flag_told bs p ≡ status (v.count p)
  flag_is p i = let e : entry_at p + 0 ≡ entry_at p = omega arith in ap (λ k. get_or bs k 0) (sym e) ∙ entry_byte p 0 i (omega arith)

  pub told_count_is : (p : ℕ) → Place a p → count_told bs p ≡ v.count p
  told_count_is p i =
      let e : (entry_at p + 4) + 1 ≡ entry_at p + 5 = omega arith in
      told_count (v.count p) _ _ _ (not_lost p i) (flag_is p i) (entry_byte p 4 i (omega arith)) (ap (λ k. get_or bs k 0) e ∙ entry_byte p 5 i (omega arith))

  pub told_spoiling_is : (p : ℕ) → Place a p → spoiling_told bs p ≡ v.spoiling p
  told_spoiling_is p i = told_spoiling (v.count p) _ _ (v.spoiling p) _ _ (not_lost p i) (v.spoils p) (flag_is p i) (entry_byte p 6 i (omega arith))

  answer_byte_is : (p x : ℕ) (i : Place a p) → x < 16 → answer_told bs p x ≡ get_or (b.entries p i).answers x 0
  answer_byte_is p x i l = entry_byte p (8 + x) i (omega arith) ∙ get_or-append-add (front (v.count p) (v.spoiling p)) (b.entries p i).answers x 0

  pub told_answer_is : (p x : ℕ) → Place a p → x < 2 ^ a.inputs → answer_told bs p x ≡ v.answer p x
  told_answer_is p x i l =
      let few : 2 ^ a.inputs ≤ 2 ^ 4 = pow_mono sound.walks.few_in in
      answer_byte_is p x i (omega arith) ∙ (b.entries p i).answered.answer x l

  count_in_is : (q : ℕ) → q ≤ a.size → v.count q ≡ count_in bs q
  count_in_is q l = elim (cases_eq q 0) [
    | inl e ↦ rw e lost_count
    | inr ne ↦ sym (cond-false (eqb q 0) _ _ (ne_eqb q 0 ne) ∙ told_count_is q (omega arith, l))
  ]

  -- the values follow from their moves
  follows : (p : ℕ) (c : Count) → Place a p → v.count p ≡ c → Spoils c (2 ^ a.inputs) (λ x. v.count (a.move p x (v.answer p x))) (v.spoiling p) → Follows c (2 ^ a.inputs) (λ x. v.count (a.move p x (v.answer p x))) (v.spoiling p)
  follows p Lost i e h = not_lost p i e
  follows p (Limited k) i e h = (
    h.0,
    h.1,
    h.2,
    sym e ∙ at_most_antisym _ _ (answer_costs v p h.0 h.2.here) (spoils_costs v sound p h.0 (v.answer p h.0) h.1),
  )
  follows p Unlimited i e h = (h, λ x l. stays _ (subst (λ c. AtMost c (plus (v.count (a.move p x (v.answer p x))) 1)) e (answer_costs v p x l)))

  -- the same counts, answers and spoiling inputs, as told
  told_follows : (p : ℕ) → Place a p → Follows (count_told bs p) (2 ^ a.inputs) (λ x. count_in bs (a.move p x (answer_told bs p x))) (spoiling_told bs p)
  told_follows p i =
      rw (told_count_is p i, told_spoiling_is p i)
      (follows_same (v.count p) (2 ^ a.inputs) _ _ (v.spoiling p)
      (λ x l. count_in_is _ (sound.sized.within p x _) ∙ ap (λ y. count_in bs (a.move p x y)) (sym (told_answer_is p x i l)))
      (follows p (v.count p) i refl (v.spoils p)))

  book_agrees : Agrees a bs
  book_agrees = record {
    sized = b.sized;
    long = b.long;
    head = b.head;
    here = λ p i. record {
      front =
          sym (take-take 8 24 (drop (entry_at p) bs) (omega arith)) ∙ ap (take 8) (b.entries p i).layout
          ∙ ap (λ c. front c (v.spoiling p)) (sym (told_count_is p i)) ∙ ap (front (count_told bs p)) (sym (told_spoiling_is p i));
      answers = λ x m. record {
        best = λ l. rw (told_answer_is p x i l) (subst (λ n. Most (2 ^ a.outputs) n (v.answer p x)) (fun_ext (λ y. count_in_is _ (sound.sized.within p x y))) (v.answers p x i l));
        blank = λ l. answer_byte_is p x i m ∙ (b.entries p i).answered.no_answer x l;
      };
      follows = told_follows p i;
    };
  }

-- the bytes agree with the moves exactly when they are the book
pub agrees_right : (a : Arena) → Sound a → (bs : List ℕ) → Agrees a bs ↔ IsBook a bs
agrees_right a s bs = ((λ g. (told_values a s bs g, agrees_book a s bs g)), λ b. book_agrees a s b.0 bs b.1)
