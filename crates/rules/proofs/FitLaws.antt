-- Every list is trimmed, or too wide.
use Rattle.std.proofs.Common.{◌≡◌, ℕ, ◌^◌, ◌≤◌, leb, List, [], ◌∷◌, ◌++◌, map, length, get_or, fold, refl, ap, ◌∙◌, append-nil, arith}
use lib.Bits.{bit_or, or_zero_l}
use Rattle.std.proofs.lemmas.Bool.{cond_both, cond-true, leb-true, le-leb}
use Rattle.arena.specs.Tally.{Played}
use Rattle.rules.specs.declared.part.Part.{Part}
use Rattle.rules.specs.declared.part.Part.TheVariants.{True, False, Both, Either}
use Rattle.rules.specs.Sets.{trim, unions, Sets, too_wide, sets, fit, join_or, join_and, Trimmed, Trims, Fits}
use Rattle.rules.specs.Parts.{part, duty_number}
use Rattle.rules.specs.Progress.{of_true, of_false, list_from, list_in, list_of, set_after, list_after}
use Rattle.rules.proofs.TrimLaws.{within_self, trim_right, one_trim}

fit_fits : (xs : List ℕ) → Trimmed xs → Fits (fit xs)
unfolding Fits
fit_fits xs t = cond_both (leb (length xs) 32) (sets xs) too_wide Fits (λ e. (t, leb-true (length xs) 32 e)) (λ e. tt)

or_fits : (s t : Sets) → Fits (join_or s t)
unfolding join_or Fits
or_fits too_wide t = tt
or_fits (sets xs) too_wide = tt
or_fits (sets xs) (sets ys) = fit_fits (trim (xs ++ ys)) (trim_right (xs ++ ys)).trimmed

and_fits : (s t : Sets) → Fits (join_and s t)
unfolding join_and Fits
and_fits too_wide t = tt
and_fits (sets xs) too_wide = tt
and_fits (sets xs) (sets ys) = fit_fits (trim (unions xs ys)) (trim_right (unions xs ys)).trimmed

one_fits : (x : ℕ) → Fits (sets (x ∷ []))
unfolding Fits
one_fits x = (record { ascends = λ i j l m. absurd (omega arith); apart = λ i j l m w. omega arith }, omega arith)

none_fits : Fits of_false
unfolding Fits
none_fits = (record { ascends = λ i j l m. absurd (omega arith); apart = λ i j l m w. absurd (omega arith) }, omega arith)

from_fits : (f : ℕ → Sets) (d : ℕ) (x : Part) → Fits (list_from f d x)
from_fits f d True = one_fits 0
from_fits f d False = none_fits
from_fits f d (Both a b) = and_fits (f a) (f b)
from_fits f d (Either a b) = or_fits (f a) (f b)
from_fits f d x = one_fits (2 ^ d)

pub of_part : (ps : List Part) (k : ℕ) → Fits (list_of ps k)
unfolding list_in
of_part ps k = from_fits (list_in k ps) (duty_number ps k) (part ps k)

any_fits : (f : ℕ → Sets) (xs : List ℕ) (s : Sets) → Fits s → Fits (fold (λ any x. join_or any (f x)) s xs)
any_fits f [] s h = h
any_fits f (x ∷ xs) s h = any_fits f xs (join_or s (f x)) (or_fits s (f x))

pub after_round : (ps : List Part) (r : Played) (s : Sets) → Fits (list_after ps r s)
unfolding list_after Fits
after_round ps r too_wide = tt
after_round ps r (sets xs) = any_fits (set_after ps r) xs of_false none_fits

-- a trimmed list is not changed by trimming
trims_self : (xs : List ℕ) → Trimmed xs → Trims xs xs
trims_self xs t = record { trimmed = t; taken = λ i l. (i, l, refl); covers = λ j l. (j, l, within_self (get_or xs j 0)) }

trim_same : (xs : List ℕ) → Trimmed xs → length xs ≤ 32 → fit (trim xs) ≡ sets xs
trim_same xs t l = ap fit (one_trim xs (trim xs) xs (trim_right xs) (trims_self xs t)) ∙ cond-true (leb (length xs) 32) (sets xs) too_wide (le-leb (length xs) 32 l)

pub or_none : (s : Sets) → Fits s → join_or of_false s ≡ s
unfolding join_or Fits
or_none too_wide h = refl
or_none (sets xs) h = trim_same xs h.0 h.1

map_none : (xs : List ℕ) → map (bit_or 0) xs ≡ xs
map_none [] = refl
map_none (x ∷ xs) = let a : bit_or 0 x ≡ x = or_zero_l x in let b : map (bit_or 0) xs ≡ xs = map_none xs in cc

pub and_none : (s : Sets) → Fits s → join_and of_true s ≡ s
unfolding join_and Fits unions
and_none too_wide h = refl
and_none (sets xs) h = ap (λ l. fit (trim l)) (append-nil (map (bit_or 0) xs) ∙ map_none xs) ∙ trim_same xs h.0 h.1
