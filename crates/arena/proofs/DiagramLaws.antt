-- A drawn arena is sound.
use Rattle.std.proofs.Common.{◌≡◌, ℕ, zero, suc, ◌≤◌, true, false, List, refl, inl, inr, arith}
use Rattle.std.proofs.lemmas.Bool.Decides.{nat_tests}
use Rattle.terms.specs.declared.shape.Shape.{Shape}
use Rattle.arena.specs.Arena.{Sound, beyond}
use Rattle.arena.specs.Diagram.{drawn, drawable, told, sought, head_at, next_at}
use Rattle.terms.specs.Bytes.{word}
use Rattle.arena.proofs.RangeLaws.{in_range, range_beyond}

-- no destination is above the size
pub sought_within : (h : Shape) (bs : List ℕ) (left k x y : ℕ) → sought h bs left k x y ≤ h.size
unfolding sought
sought_within h bs zero k x y = omega arith
sought_within h bs (suc left) k x y =
    let rest : sought h bs left (next_at h (word bs k)) x y ≤ h.size = sought_within h bs left (next_at h (word bs k)) x y in grind (arith, nat_tests)

-- what a drawable header says
pub told_all : (h : Shape) (n : ℕ) → drawable h ≡ true → told h n ≡ n
told_all h n e = rw e refl

pub told_none : (h : Shape) (n : ℕ) → drawable h ≡ false → told h n ≡ 0
told_none h n e = rw e refl

drawable_is : (h : Shape) → drawable h ≡ true → (h.inputs ≤ 4) × (h.outputs ≤ 4) × (1 ≤ h.start) × (h.start ≤ h.size) × (h.size ≤ 255)
unfolding drawable
drawable_is h e = grind (arith, nat_tests)

pub drawn_sound : (h : Shape) (bs : List ℕ) → Sound (drawn h bs)
drawn_sound h bs =
    let n = told h h.size in
    let i = told h h.inputs in
    let o = told h h.outputs in
    let is : drawable h ≡ true → (h.inputs ≤ 4) × (h.outputs ≤ 4) × (1 ≤ h.start) × (h.start ≤ h.size) × (h.size ≤ 255) = drawable_is h in
    record {
      walks = record {
        few_in = grind (arith, nat_tests);
        few_out = grind (arith, nat_tests);
        from_lost = λ x y. rw (range_beyond n i o 0 x y (inl refl));
        past_input = λ p x y l. rw (range_beyond n i o p x y (inr (inr (inl l))));
        past_output = λ p x y l. rw (range_beyond n i o p x y (inr (inr (inr l))));
      };
      sized = record {
        small = grind (arith, nat_tests);
        no_start = λ e. grind (arith, nat_tests);
        start_low = λ l. grind (arith, nat_tests);
        start_high = grind (arith, nat_tests);
        within = λ p x y.
            let s : sought h bs h.records (head_at p) x y ≤ h.size = sought_within h bs h.records (head_at p) x y in
            let r : beyond n i o p x y ≡ false → (1 ≤ p) × (p ≤ n) = λ e. let w = in_range n i o p x y e in (w.0, w.1) in
            grind (arith, nat_tests);
        past_size = λ p x y l. rw (range_beyond n i o p x y (inr (inl l)));
      };
    }
