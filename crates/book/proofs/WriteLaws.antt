-- How a book is written.
use Rattle.std.proofs.Common.{◌≡◌, ℕ, zero, suc, ◌+◌, ◌-◌, ◌^◌, ◌<◌, ◌≤◌, List, ◌++◌, length, get_or, take, drop, sym, ap, ◌∙◌, subst, inl, inr, arith, pow_mono}
use borrow.Rule.Slice.PartMut.{put_mid}
use denote.Param.Members.{Mut}
use Rattle.std.specs.Fn.{Called}
use Rattle.std.specs.Array.{IsFromFnResultFrom}
use Rattle.std.proofs.lemmas.List.{get_or_past, drop-take, length-take-le, length-drop, length-append, append-nil, drop_all, take_at, drop_at}
use Rattle.std.proofs.lemmas.Slice.{take-put_mid_below, take-put_mid}
use Rattle.std.proofs.lemmas.Bool.{cases_eq, cases_lt}
use Rattle.arena.specs.Arena.{Arena, Sound}
use Rattle.arena.specs.Values.{Values}
use Rattle.arena.specs.Book.{front, AnswerBytes, Entry, header, entry_at, book_length, Book}
use Rattle.arena.proofs.ValueLaws.{values}
use Rattle.book.specs.Ranks.{Filled}

-- where a call leaves the closure as it was, each element of the array is what a call gave
pub each_from_fn : {F B : Type 0} (g : Mut F (ℕ × Unit {0}) B) (f : F) (ys : List B) (P : ℕ → B → Type 0) → ((x : ℕ) (r : B) (q : F) → Called g f (x, tt) r q → (q ≡ f) × P x r) → (i n : ℕ) → IsFromFnResultFrom g f ys i n → (k : ℕ) (d : B) → i ≤ k → k < i + n → P k (get_or ys k d)
each_from_fn g f ys P h i zero s k d l m = absurd (omega arith)
each_from_fn g f ys P h i (suc n) s k d l m =
    let t = h i s.1 s.0 s.3 in
    elim (cases_eq k i) [
      | inl e ↦ rw e (subst (P i) (sym (s.2.1 d)) t.1)
      | inr ne ↦ each_from_fn g f ys P h (i + 1) n (subst (λ q. IsFromFnResultFrom g q ys (i + 1) n) t.0 s.4) k d (omega arith) (omega arith)
    ]

pub answer_bytes_from : {a : Arena} {v : Values a} (s : Sound a) (p : ℕ) (bytes : List ℕ) → length bytes ≡ 16 → ((x : ℕ) → x < 16 → Filled v p x (get_or bytes x 0)) → AnswerBytes a v p bytes
answer_bytes_from {a} s p bytes l f =
    let few : 2 ^ a.inputs ≤ 2 ^ 4 = pow_mono s.walks.few_in in
    record {
      sixteen = l;
      answer = λ x m. (f x (omega arith)).answer m;
      no_answer = λ x m. elim (cases_lt x 16) [ inl i ↦ (f x i).no_answer m | inr i ↦ get_or_past bytes x 0 (omega arith) ];
    }

-- eight bytes and sixteen, written one after the other, are all
two_parts : (d xs ys : List ℕ) → length d ≡ 24 → length xs ≡ 8 → length ys ≡ 16 → put_mid 8 (length (xs ++ drop 8 d) - 8) (xs ++ drop 8 d) ys ≡ xs ++ ys
two_parts d xs ys l m n =
    ap (λ t. t ++ (ys ++ drop (length (xs ++ drop 8 d) - 8) (drop 8 (xs ++ drop 8 d)))) (take_at xs (drop 8 d) 8 m)
    ∙ ap (λ t. xs ++ (ys ++ drop (length (xs ++ drop 8 d) - 8) t)) (drop_at xs (drop 8 d) 8 m)
    ∙ ap (λ t. xs ++ (ys ++ t)) (drop_all (length (xs ++ drop 8 d) - 8) (drop 8 d) (omega (arith, length-append xs (drop 8 d))))
    ∙ ap (λ t. xs ++ t) (append-nil ys)

pub entry_from : {a : Arena} {v : Values a} (p : ℕ) (d xs ys : List ℕ) → length d ≡ 24 → xs ≡ front (v.count p) (v.spoiling p) → AnswerBytes a v p ys → Entry a v p (put_mid 8 (length (xs ++ drop 8 d) - 8) (xs ++ drop 8 d) ys)
entry_from p d xs ys l e b = record {
  answers = ys;
  layout = two_parts d xs ys l (ap length e) b.sixteen ∙ ap (λ f. f ++ ys) e;
  answered = b;
}

pub entry_long : {a : Arena} {v : Values a} {p : ℕ} {bs : List ℕ} → Entry a v p bs → length bs ≡ 24
entry_long e = omega (arith, ap length e.layout, e.answered.sixteen)

-- ---- the book in the course of writing

-- the header is written, and the records below p
pub record Written (a : Arena) (p : ℕ) (bytes : List ℕ) : Type 0 where
  pub long : length bytes ≡ book_length a.size
  pub head : take 8 bytes ≡ header a
  pub entries : (v : Values a) (q : ℕ) → 1 ≤ q → q < p → Entry a v q (take 24 (drop (entry_at q) bytes))

part_below : (b bs : List ℕ) (r at k : ℕ) → r + 24 ≤ at → at ≤ length b → take 24 (drop r (put_mid at k b bs)) ≡ take 24 (drop r b)
part_below b bs r at k h l = sym (drop-take r 24 (put_mid at k b bs)) ∙ ap (drop r) (take-put_mid_below at k b bs (r + 24) h l) ∙ drop-take r 24 b

part_here : (b bs : List ℕ) (at k : ℕ) → at ≤ length b → length bs ≡ 24 → take 24 (drop at (put_mid at k b bs)) ≡ bs
part_here b bs at k l e = sym (drop-take at 24 (put_mid at k b bs)) ∙ ap (drop at) (take-put_mid at k b bs (at + 24) (omega arith) l) ∙ drop_at (take at b) bs at (length-take-le at b l)

part_long : (b bs : List ℕ) (at k : ℕ) → k ≡ 24 → at + 24 ≤ length b → length bs ≡ 24 → length (put_mid at k b bs) ≡ length b
part_long b bs at k f l e = simp (length-append, length-drop) (omega (arith, length-take-le at b (omega arith)))

-- the record of p is written too
pub written_more : {a : Arena} {p : ℕ} {b bs : List ℕ} {at k : ℕ} → at ≡ entry_at p → k ≡ 24 → 1 ≤ p → p ≤ a.size → ((v : Values a) → Entry a v p bs) → Written a p b → Written a (p + 1) (put_mid at k b bs)
written_more {a} {p} {b} {bs} {at} {k} f o low high t w =
    let full : length bs ≡ 24 = entry_long (t (values a)) in
    let room : at + 24 ≤ length b = omega (arith, w.long) in
    record {
      long = part_long b bs at k o room full ∙ w.long;
      head = take-put_mid_below at k b bs 8 (omega arith) (omega arith) ∙ w.head;
      entries = λ v q i j. elim (cases_eq q p) [
        | inl s ↦ rw s (subst (Entry a v p) (sym (ap (λ r. take 24 (drop r (put_mid at k b bs))) (sym f) ∙ part_here b bs at k (omega arith) full)) (t v))
        | inr ne ↦ subst (Entry a v q) (sym (part_below b bs (entry_at q) at k (omega arith) (omega arith))) (w.entries v q i (omega arith))
      ];
    }

-- and so all are
pub book_from : {a : Arena} {p : ℕ} {bytes : List ℕ} → 1 ≤ a.size → a.size < p → Written a p bytes → (v : Values a) → Book a v bytes
book_from s l w v = record { sized = s; long = w.long; head = w.head; entries = λ q i. w.entries v q i.0 (omega arith) }
