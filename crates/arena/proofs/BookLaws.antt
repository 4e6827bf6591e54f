-- A game that is not too large has exactly one book.
use Rattle.std.proofs.Common.{◌≡◌, ℕ, zero, suc, ◌+◌, ◌-◌, ◌*◌, ◌/◌, ◌%◌, ◌^◌, ◌<◌, ◌≤◌, cond, ltb, List, [], ◌++◌, map, length, get_or, take, drop, sym, refl, ap, ◌∙◌, subst, inl, inr, arith, pow_mono}
use Rattle.std.specs.List.{range_with_len}
use Rattle.std.proofs.lemmas.List.FromFn.{length-map-range_with_len, get_or-map-range_with_len}
use Rattle.std.proofs.lemmas.List.{ext_get_or, get_or-take, get_or-drop, get_or_past, length-append, drop_at, drop-drop, drop-append-le, take-append-le, take_all, length-drop}
use Rattle.std.proofs.lemmas.Bool.{cases_eq, cases_lt, lt-ltb, le-ltb}
use Rattle.arena.specs.Arena.{Arena, Place, Sound}
use Rattle.arena.specs.Values.{Values}
use Rattle.arena.specs.Book.{front, AnswerBytes, Entry, header, entry_at, Book, IsBook}
use Rattle.arena.proofs.ValueLaws.{values, one_count, one_answer, one_spoiling}

-- ---- at most one

module _ {a : Arena} (v w : Values a) where
  answers_once : (p : ℕ) (bs cs : List ℕ) → Place a p → AnswerBytes a v p bs → AnswerBytes a w p cs → bs ≡ cs
  answers_once p bs cs h s t = ext_get_or 0 bs cs (s.sixteen ∙ sym t.sixteen) (λ x _. elim (cases_lt x (2 ^ a.inputs)) [
    | inl l ↦ s.answer x l ∙ one_answer v w p x h l ∙ sym (t.answer x l)
    | inr l ↦ s.no_answer x l ∙ sym (t.no_answer x l)
  ])

  pub entry_once : (p : ℕ) (bs cs : List ℕ) → Place a p → Entry a v p bs → Entry a w p cs → bs ≡ cs
  entry_once p bs cs h s t =
      s.layout
      ∙ ap (λ n. front (n p) (v.spoiling p) ++ s.answers) (one_count v w)
      ∙ ap (λ i. front (w.count p) i ++ s.answers) (one_spoiling v w p h)
      ∙ ap (λ i. front (w.count p) (w.spoiling p) ++ i) (answers_once p _ _ h s.answered t.answered)
      ∙ sym t.layout

  -- the byte at i, if i is past the header, is in the record of this position
  books_once : (bs cs : List ℕ) → Book a v bs → Book a w cs → bs ≡ cs
  books_once bs cs s t = ext_get_or 0 bs cs (s.long ∙ sym t.long) (λ i l. elim (cases_lt i 8) [
    | inl h ↦ sym (get_or-take 8 bs i 0 h) ∙ ap (λ r. get_or r i 0) (s.head ∙ sym t.head) ∙ get_or-take 8 cs i 0 h
    | inr h ↦ (
        let p = (i - 8) / 24 + 1 in
        let k = (i - 8) % 24 in
        let place : Place a p = (omega arith, omega (arith, s.long)) in
        let at : entry_at p + k ≡ i = omega arith in
        let e = entry_once p _ _ place (s.entries p place) (t.entries p place) in
        let b : get_or (take 24 (drop (entry_at p) bs)) k 0 ≡ get_or bs i 0 = get_or-take 24 (drop (entry_at p) bs) k 0 (omega arith) ∙ get_or-drop (entry_at p) bs k 0 ∙ ap (λ m. get_or bs m 0) at in
        let d : get_or (take 24 (drop (entry_at p) cs)) k 0 ≡ get_or cs i 0 = get_or-take 24 (drop (entry_at p) cs) k 0 (omega arith) ∙ get_or-drop (entry_at p) cs k 0 ∙ ap (λ m. get_or cs m 0) at in
        sym b ∙ ap (λ r. get_or r k 0) e ∙ d)
  ])

pub one_book : (a : Arena) (bytes others : List ℕ) → IsBook a bytes → IsBook a others → bytes ≡ others
one_book a bs cs s t = books_once s.0 t.0 bs cs s.1 t.1

-- ---- at least one

module _ {a : Arena} (v : Values a) where
  answer_byte : ℕ → ℕ → ℕ
  answer_byte p x = cond (ltb x (2 ^ a.inputs)) (v.answer p x) 0

  answer_list : ℕ → List ℕ
  answer_list p = map (answer_byte p) (range_with_len 0 16)

  entry_bytes : ℕ → List ℕ
  entry_bytes p = front (v.count p) (v.spoiling p) ++ answer_list p

  answer_at : (p x : ℕ) → x < 16 → get_or (answer_list p) x 0 ≡ answer_byte p x
  unfolding answer_list
  answer_at p x l = get_or-map-range_with_len (answer_byte p) 0 16 x x 0 l (omega arith)

  sixteen : (p : ℕ) → length (answer_list p) ≡ 16
  unfolding answer_list
  sixteen p = length-map-range_with_len (answer_byte p) 0 16

  made_entry : Sound a → (p : ℕ) → Entry a v p (entry_bytes p)
  unfolding entry_bytes answer_byte
  made_entry s p =
      let few : 2 ^ a.inputs ≤ 2 ^ 4 = pow_mono s.walks.few_in in
      record {
        answers = answer_list p;
        layout = refl;
        answered = record {
          sixteen = sixteen p;
          answer = λ x l. answer_at p x (omega arith) ∙ rw (lt-ltb x (2 ^ a.inputs) l);
          no_answer = λ x l. elim (cases_lt x 16) [
            | inl i ↦ answer_at p x i ∙ rw (le-ltb x (2 ^ a.inputs) l)
            | inr i ↦ get_or_past (answer_list p) x 0 (omega (arith, sixteen p))
          ];
        };
      }

  entry_size : (p : ℕ) → length (entry_bytes p) ≡ 24
  unfolding entry_bytes
  entry_size p = omega (arith, sixteen p)

  records : ℕ → List ℕ
  records zero = []
  records (suc k) = records k ++ entry_bytes (suc k)

  records_size : (k : ℕ) → length (records k) ≡ 24 * k
  unfolding records
  records_size zero = refl
  records_size (suc k) = omega (arith, length-append (records k) (entry_bytes (suc k)), records_size k, entry_size (suc k))

  nth_record : (k p : ℕ) → 1 ≤ p → p ≤ k → take 24 (drop (24 * (p - 1)) (records k)) ≡ entry_bytes p
  unfolding records
  nth_record zero p l h = absurd (omega arith)
  nth_record (suc k) p l h = elim (cases_eq p (suc k)) [
    | inl e ↦ (let at : length (records k) ≡ 24 * (p - 1) = omega (arith, records_size k) in
        ap (take 24) (drop_at (records k) (entry_bytes (suc k)) (24 * (p - 1)) at)
        ∙ take_all 24 (entry_bytes (suc k)) (omega (arith, entry_size (suc k))) ∙ ap entry_bytes (sym e))
    | inr ne ↦
        ap (take 24) (drop-append-le (24 * (p - 1)) (records k) (entry_bytes (suc k)) (omega (arith, records_size k)))
        ∙ take-append-le 24 (drop (24 * (p - 1)) (records k)) (entry_bytes (suc k)) (omega (arith, length-drop (24 * (p - 1)) (records k), records_size k))
        ∙ nth_record k p l (omega arith)
  ]

  made_book : Sound a → 1 ≤ a.size → Book a v (header a ++ records a.size)
  made_book s l = record {
    sized = l;
    long = omega (arith, records_size a.size);
    head = refl;
    entries = λ p h.
        let e : drop (entry_at p) (header a ++ records a.size) ≡ drop (24 * (p - 1)) (records a.size) = sym (drop-drop (24 * (p - 1)) 8 (header a ++ records a.size)) in
        subst (Entry a v p) (sym (ap (take 24) e ∙ nth_record a.size p h.0 h.1)) (made_entry s p);
  }

pub has_book : (a : Arena) → Sound a → 1 ≤ a.size → (bytes : List ℕ) × IsBook a bytes
has_book a s l = (header a ++ records (values a) a.size, (values a, made_book (values a) s l))
