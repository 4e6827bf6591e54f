-- Rounds that agree in the signals that are read lead to the same.
use Rattle.std.proofs.Common.{◌≡◌, ℕ, ◌+◌, ◌^◌, ◌<◌, ◌≤◌, ◌/◌, Bool, true, false, not, eqb, cond, List, [], ◌∷◌, length, get_or, set, fold, sym, refl, ap, ◌∙◌, subst, subst₂, ap₂, inl, inr, ⊎_elim, arith, pow_mono}
use native.Mathlib.Nat.{div-eq_of_lt}
use lib.Bits.{bit_and, bit_or, and_le_l}
use Rattle.std.proofs.lemmas.List.{get_or_past, get_or-set_same, get_or-set_other}
use Rattle.std.proofs.lemmas.Bool.{cond-true, lt-ltb, cases_lt, cases_eq}
use Rattle.arena.specs.Tally.{Played}
use Rattle.rules.specs.declared.part.Part.{Part}
use Rattle.rules.specs.declared.part.Part.TheVariants.{True, False, Literal, Next, Release, Both, Either}
use Rattle.rules.specs.declared.part.Signal.{Signal}
use Rattle.rules.specs.declared.part.Signal.TheVariants.{Input, Output}
use Rattle.rules.specs.Rule.{bit, agrees}
use Rattle.rules.specs.Sets.{Sets, sets, join_or, join_and, members}
use Rattle.rules.specs.Parts.{part, Falls, duty_number, duty_part}
use Rattle.rules.specs.Progress.{own, of_true, of_false, list_of, after_from, part_after, set_after, list_after}
use Rattle.rules.proofs.BitLaws.{bit_of_and, bit_of_or, bit_own, Any, members_any}
use Rattle.rules.proofs.StepLaws.{after_step}
use Rattle.compile.specs.declared.mask.Mask.{Mask}
use Rattle.compile.specs.Reads.{none, digit, mask_of, joined, reads_from, Alike, Small, Agree, Covers, Reading, Readings}
use Rattle.compile.proofs.AfterLaws.{set_begins, list_begins}

-- rounds that agree under two masks as one agree under each
or_left : (m n a b : ℕ) → Alike (bit_or m n) a b → Alike m a b
or_left m n a b h k e = h k (omega (arith, bit_of_or m n k, e))

or_right : (m n a b : ℕ) → Alike (bit_or m n) a b → Alike n a b
or_right m n a b h k e = h k (omega (arith, bit_of_or m n k, e))

pub agree_left : (m n : Mask) (r s : Played) → Agree (joined m n) r s → Agree m r s
agree_left m n r s h = record {
  small = h.small;
  input = or_left m.inputs n.inputs r.input s.input h.input;
  output = or_left m.outputs n.outputs r.output s.output h.output;
}

pub agree_right : (m n : Mask) (r s : Played) → Agree (joined m n) r s → Agree n r s
agree_right m n r s h = record {
  small = h.small;
  input = or_right m.inputs n.inputs r.input s.input h.input;
  output = or_right m.outputs n.outputs r.output s.output h.output;
}

-- a round and the one with all other signals off agree
alike_shown : (m a : ℕ) → Alike m a (bit_and a m)
alike_shown m a k e = omega (arith, bit_of_and a m k, e)

pub agree_shown : (m : Mask) (r s : Played) → Small r → s.input ≡ bit_and r.input m.inputs → s.output ≡ bit_and r.output m.outputs → Agree m r s
agree_shown m r s small x y = record {
  small = (small, (omega (arith, x, and_le_l r.input m.inputs, small.0), omega (arith, y, and_le_l r.output m.outputs, small.1)));
  input = λ k e. alike_shown m.inputs r.input k e ∙ ap (λ n. bit n k) (sym x);
  output = λ k e. alike_shown m.outputs r.output k e ∙ ap (λ n. bit n k) (sym y);
}

-- the digit past a number
bit_past : (a k : ℕ) → a < 256 → 8 ≤ k → bit a k ≡ 0
bit_past a k l ge =
    let wide : 2 ^ 8 ≤ 2 ^ k = pow_mono ge in
    let zero : a / 2 ^ k ≡ 0 = div-eq_of_lt (omega arith) in
    omega (arith, zero)

digit_same : (k a b : ℕ) → a < 256 → b < 256 → Alike (digit k) a b → bit a k ≡ bit b k
digit_same k a b l m h = ⊎_elim
    (λ lt. h k (ap (λ d. bit d k) (cond-true _ _ 0 (lt-ltb k 8 lt)) ∙ bit_own k))
    (λ ge. bit_past a k l ge ∙ sym (bit_past b k m ge))
    (cases_lt k 8)

agrees_same : (r s : Played) (x : Signal) (want : Bool) → Agree (mask_of x) r s → agrees r x want ≡ agrees s x want
agrees_same r s (Input k) true h = ap (λ n. eqb n 1) (digit_same k r.input s.input h.small.0.0 h.small.1.0 h.input)
agrees_same r s (Input k) false h = ap (λ n. not (eqb n 1)) (digit_same k r.input s.input h.small.0.0 h.small.1.0 h.input)
agrees_same r s (Output k) true h = ap (λ n. eqb n 1) (digit_same k r.output s.output h.small.0.1 h.small.1.1 h.output)
agrees_same r s (Output k) false h = ap (λ n. not (eqb n 1)) (digit_same k r.output s.output h.small.0.1 h.small.1.1 h.output)

-- a part after rounds that agree in what it reads
from_same : (f : ℕ → Mask) (g u v : ℕ → Sets) (r s : Played) (d k : ℕ) (x : Part) → Falls k x → ((a : ℕ) → a < k → Agree (f a) r s → u a ≡ v a) → Agree (reads_from f x) r s
    → after_from g u r d x ≡ after_from g v s d x
from_same f g u v r s d k True l i h = refl
from_same f g u v r s d k False l i h = refl
from_same f g u v r s d k (Literal x want) l i h = ap (λ b. cond b of_true of_false) (agrees_same r s x want h)
from_same f g u v r s d k (Next a) l i h = refl
from_same f g u v r s d k (Release a b) l i h = ap₂ (λ x y. join_and y (join_or x (own d))) (i a l.0 (agree_left (f a) (f b) r s h)) (i b l.1 (agree_right (f a) (f b) r s h))
from_same f g u v r s d k (Both a b) l i h = ap₂ join_and (i a l.0 (agree_left (f a) (f b) r s h)) (i b l.1 (agree_right (f a) (f b) r s h))
from_same f g u v r s d k (Either a b) l i h = ap₂ join_or (i a l.0 (agree_left (f a) (f b) r s h)) (i b l.1 (agree_right (f a) (f b) r s h))

module _ (ps : List Part) where
  pub part_covered : ((k : ℕ) → Falls k (part ps k)) → (f : ℕ → Mask) (k : ℕ) → ((a : ℕ) → a < k → Covers (f a) (λ r. part_after ps r a)) → Covers (reads_from f (part ps k)) (λ r. part_after ps r k)
  part_covered falls f k i r s h =
      after_step ps falls r k
      ∙ from_same f (list_of ps) (part_after ps r) (part_after ps s) r s (duty_number ps k) k (part ps k) (falls k) (λ a l. i a l r s) h
      ∙ sym (after_step ps falls s k)

  -- a mask more
  pub reading_more : ((k : ℕ) → Falls k (part ps k)) → (k : ℕ) (masks : List Mask) (m : Mask) → k < length masks → Reading k ps masks → m ≡ reads_from (λ j. get_or masks j none) (part ps k) → Reading (k + 1) ps (set masks k m)
  reading_more falls k masks m inside h is j l = ⊎_elim
      (λ same.
      let at : get_or (set masks k m) j none ≡ reads_from (λ j. get_or masks j none) (part ps k) = ap (λ i. get_or (set masks k m) i none) same ∙ get_or-set_same masks k m none inside ∙ is in
      subst₂ (λ (x : Mask) i. Covers x (λ r. part_after ps r i)) (sym at) (sym same) (part_covered falls (λ j. get_or masks j none) k h))
      (λ other. subst (λ (x : Mask). Covers x (λ r. part_after ps r j)) (sym (get_or-set_other masks k j m none other)) (h j (omega arith)))
      (cases_eq j k)

  -- there is no part past the last
  pub past_covered : ((k : ℕ) → Falls k (part ps k)) → (m : Mask) (k : ℕ) → length ps ≤ k → Covers m (λ r. part_after ps r k)
  past_covered falls m k past r s h = gone r ∙ sym (gone s)
    where
      gone : (r : Played) → part_after ps r k ≡ of_true
      gone r = after_step ps falls r k ∙ ap (after_from (list_of ps) (part_after ps r) r (duty_number ps k)) (get_or_past ps k True past)

  -- each mask covers its part, be it one or not
  pub reading_all : ((k : ℕ) → Falls k (part ps k)) → (masks : List Mask) → Readings ps masks → (k : ℕ) → Covers (get_or masks k none) (λ r. part_after ps r k)
  reading_all falls masks h k = elim (cases_lt k (length ps)) [ inl l ↦ h.reads k l | inr l ↦ past_covered falls (get_or masks k none) k l ]

  abbrev Covered : Mask → ℕ → Type 0
  Covered m d = Covers m (λ r. part_after ps r (duty_part ps d))

  module _ (n d : ℕ) (m : Mask) (before : (e : ℕ) → e < d → bit n e ≡ 1 → Covered m e) (e : ℕ) (l : e < d + 1) (has : bit n e ≡ 1) where
    -- a duty more that is in the set n
    pub duty_in : (x : Mask) → Covered x d → Covered (joined m x) e
    duty_in x h = ⊎_elim
        (λ same. subst (Covered (joined m x)) (sym same) (λ r s g. h r s (agree_right m x r s g)))
        (λ other r s g. before e (omega arith) has r s (agree_left m x r s g))
        (cases_eq e d)

    -- or is not
    pub duty_out : (bit n d ≡ 1 → ⊥) → Covered m e
    duty_out out = ⊎_elim (λ same. absurd (out (ap (bit n) (sym same) ∙ has))) (λ other. before e (omega arith) has) (cases_eq e d)

-- a fold over equal values
fold_same : (join : Sets → Sets → Sets) (f g : ℕ → Sets) (xs : List ℕ) (s : Sets) → ((x : ℕ) → Any (λ y. y ≡ x) xs → f x ≡ g x) → fold (λ all x. join all (f x)) s xs ≡ fold (λ all x. join all (g x)) s xs
fold_same join f g [] s h = refl
fold_same join f g (x ∷ xs) s h =
    ap (λ t. fold (λ all y. join all (f y)) (join s t) xs) (h x (inl refl)) ∙ fold_same join f g xs (join s (g x)) (λ y m. h y (inr m))

-- what a set has stays in the union of sets
or_keeps : (xs : List ℕ) (a d : ℕ) → bit a d ≡ 1 → bit (fold bit_or a xs) d ≡ 1
or_keeps [] a d e = e
or_keeps (x ∷ xs) a d e = or_keeps xs (bit_or a x) d (omega (arith, bit_of_or a x d, e))

or_has : (xs : List ℕ) (a x d : ℕ) → Any (λ y. y ≡ x) xs → bit x d ≡ 1 → bit (fold bit_or a xs) d ≡ 1
or_has [] a x d m e = absurd m
or_has (y ∷ ys) a x d (inl is) e = or_keeps ys (bit_or a y) d (omega (arith, bit_of_or a y d, ap (λ z. bit z d) is, e))
or_has (y ∷ ys) a x d (inr m) e = or_has ys (bit_or a y) x d m e

module _ (ps : List Part) (m : Mask) (xs : List ℕ) where
  -- a mask that covers each duty of a list covers the list
  pub list_covered : ((d : ℕ) → d < 32 → bit (fold bit_or 0 xs) d ≡ 1 → Covers m (λ r. part_after ps r (duty_part ps d))) → Covers m (λ r. list_after ps r (sets xs))
  list_covered h r s g =
      let set_same : (x : ℕ) → Any (λ y. y ≡ x) xs → set_after ps r x ≡ set_after ps s x = λ x in_list.
      set_begins ps r x
      ∙ fold_same join_and (λ d. part_after ps r (duty_part ps d)) (λ d. part_after ps s (duty_part ps d)) (members x) of_true (λ d in_set.
      let (e, low, has, is) = (members_any (λ y. y ≡ d) x).0 in_set in
      let at : bit (fold bit_or 0 xs) e ≡ 1 = or_has xs 0 x e in_list has in
      subst (λ y. part_after ps r (duty_part ps y) ≡ part_after ps s (duty_part ps y)) is (h e low at r s g))
      ∙ sym (set_begins ps s x) in
      list_begins ps r xs ∙ fold_same join_or (set_after ps r) (set_after ps s) xs of_false set_same ∙ sym (list_begins ps s xs)
