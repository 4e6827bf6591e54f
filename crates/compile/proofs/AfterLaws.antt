-- Lists after a round, one duty and one set at a time.
use Rattle.std.proofs.Common.{◌≡◌, ℕ, ◌+◌, ◌-◌, ◌^◌, ◌<◌, List, [], ◌∷◌, length, get_or, drop, fold, refl, ap, ◌∙◌}
use lib.Bits.{bit_and}
use lib.Count.{count_trailing_zeros}
use Rattle.std.proofs.lemmas.List.{at_drop_more}
use Rattle.arena.specs.Tally.{Played}
use Rattle.rules.specs.declared.part.Part.{Part}
use Rattle.rules.specs.Sets.{Sets, too_wide, sets, members}
use Rattle.rules.specs.Progress.{of_true, of_false, set_after, list_after}
use Rattle.compile.specs.Known.{join_duty, join_set}
use Rattle.compile.proofs.GivenLaws.{or_strict, and_strict}
use Rattle.compile.proofs.MemberLaws.{members_lowest, members_none}

-- a fold stays at what no step leaves
pub folded_stays : {A B : Type 0} (f : B → A → B) (b : B) → ((x : A) → f b x ≡ b) → (xs : List A) → fold f b xs ≡ b
folded_stays f b h [] = refl
folded_stays f b h (x ∷ xs) = ap (λ c. fold f c xs) (h x) ∙ folded_stays f b h xs

module _ (ps : List Part) (r : Played) where
  pub set_begins : (x : ℕ) → set_after ps r x ≡ fold (join_duty ps r) of_true (members x)
  unfolding set_after
  set_begins x = refl

  pub list_begins : (xs : List ℕ) → list_after ps r (sets xs) ≡ fold (join_set ps r) of_false xs
  unfolding list_after
  list_begins xs = refl

  pub duties_wide : (ds : List ℕ) → fold (join_duty ps r) too_wide ds ≡ too_wide
  duties_wide ds = folded_stays (join_duty ps r) too_wide (λ d. and_strict.left _) ds

  pub sets_wide : (xs : List ℕ) → fold (join_set ps r) too_wide xs ≡ too_wide
  sets_wide xs = folded_stays (join_set ps r) too_wide (λ x. or_strict.left _) xs

  module _ (s : Sets) (n : ℕ) (some : 0 < n) (fits : n < 2 ^ 32) where
    -- the lowest duty is joined first
    pub duty_joined : fold (join_duty ps r) s (members n) ≡ fold (join_duty ps r) (join_duty ps r s (count_trailing_zeros 32 n)) (members (bit_and n (n - 1)))
    duty_joined = ap (fold (join_duty ps r) s) (members_lowest n some fits)

    pub duty_wide : join_duty ps r s (count_trailing_zeros 32 n) ≡ too_wide → fold (join_duty ps r) s (members n) ≡ too_wide
    duty_wide e = duty_joined ∙ ap (λ t. fold (join_duty ps r) t (members (bit_and n (n - 1)))) e ∙ duties_wide (members (bit_and n (n - 1)))

  pub no_duty_left : (s : Sets) (n : ℕ) → n ≡ 0 → fold (join_duty ps r) s (members n) ≡ s
  no_duty_left s n e = ap (fold (join_duty ps r) s) (ap members e ∙ members_none)

  module _ (s : Sets) (xs : List ℕ) (i : ℕ) (inside : i < length xs) where
    -- the sets are joined in order
    pub set_joined : fold (join_set ps r) s (drop i xs) ≡ fold (join_set ps r) (join_set ps r s (get_or xs i 0)) (drop (i + 1) xs)
    set_joined = at_drop_more (fold (join_set ps r) s) xs i 0 inside

    pub set_wide : join_set ps r s (get_or xs i 0) ≡ too_wide → fold (join_set ps r) s (drop i xs) ≡ too_wide
    set_wide e = set_joined ∙ ap (λ t. fold (join_set ps r) t (drop (i + 1) xs)) e ∙ sets_wide (drop (i + 1) xs)
