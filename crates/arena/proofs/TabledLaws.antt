-- The arena of a table is sound.
use Rattle.std.proofs.Common.{◌≡◌, ℕ, ◌≤◌, true, false, refl, inl, inr, arith}
use Rattle.std.proofs.lemmas.Bool.Decides.{nat_tests}
use Rattle.arena.specs.Arena.{Sound, beyond}
use Rattle.arena.specs.Tabled.{fitting, offered, tabled}
use Rattle.arena.proofs.RangeLaws.{in_range, range_beyond}

-- numbers that fit are those of a game
pub fitting_is : (n i o : ℕ) → fitting n i o ≡ true → (i ≤ 4) × (o ≤ 4) × (1 ≤ n) × (n ≤ 255)
unfolding fitting
fitting_is n i o e = grind (arith, nat_tests)

pub fitting_from : (n i o : ℕ) → i ≤ 4 → o ≤ 4 → 1 ≤ n → n ≤ 255 → fitting n i o ≡ true
unfolding fitting
fitting_from n i o a b c d = grind (arith, nat_tests)

pub tabled_sound : (n i o : ℕ) (f : ℕ → ℕ → ℕ → ℕ) → Sound (tabled n i o f)
tabled_sound n i o f =
    let m = offered n i o n in
    let a = offered n i o i in
    let b = offered n i o o in
    let is : fitting n i o ≡ true → (i ≤ 4) × (o ≤ 4) × (1 ≤ n) × (n ≤ 255) = fitting_is n i o in
    record {
      walks = record {
        few_in = grind (arith, nat_tests);
        few_out = grind (arith, nat_tests);
        from_lost = λ x y. rw (range_beyond m a b 0 x y (inl refl));
        past_input = λ p x y l. rw (range_beyond m a b p x y (inr (inr (inl l))));
        past_output = λ p x y l. rw (range_beyond m a b p x y (inr (inr (inr l))));
      };
      sized = record {
        small = grind (arith, nat_tests);
        no_start = λ e. grind (arith, nat_tests);
        start_low = λ l. grind (arith, nat_tests);
        start_high = grind (arith, nat_tests);
        within = λ p x y.
            let r : beyond m a b p x y ≡ false → (1 ≤ p) × (p ≤ m) = λ e. let w = in_range m a b p x y e in (w.0, w.1) in
            grind (arith, nat_tests);
        past_size = λ p x y l. rw (range_beyond m a b p x y (inr (inl l)));
      };
    }

-- a question in range is put to numbers that fit
pub inside_fits : (n i o p x y : ℕ) → beyond (offered n i o n) (offered n i o i) (offered n i o o) p x y ≡ false → fitting n i o ≡ true
inside_fits n i o p x y e =
    let w = in_range (offered n i o n) (offered n i o i) (offered n i o o) p x y e in
    let low : 1 ≤ p = w.0 in
    let high : p ≤ offered n i o n = w.1 in
    grind (arith, nat_tests)

pub offered_all : (n i o k : ℕ) → fitting n i o ≡ true → offered n i o k ≡ k
offered_all n i o k e = rw e refl
