-- The list of a part, and lists after rounds.
use Rattle.std.specs.Prelude.{ℕ, zero, suc, ◌^◌, cond, List, [], ◌∷◌, fold}
use Rattle.arena.specs.Tally.{Played}
use Rattle.rules.specs.declared.part.Part.{Part}
use Rattle.rules.specs.declared.part.Part.TheVariants.{True, False, Literal, Next, Release, Both, Either}
use Rattle.rules.specs.Rule.{agrees}
use Rattle.rules.specs.Sets.{Sets, too_wide, sets, join_or, join_and, members}
use Rattle.rules.specs.Parts.{part, duty_number, duty_part}

-- the lists of true and of false
abbrev pub of_true : Sets
of_true = sets (0 ∷ [])

abbrev pub of_false : Sets
of_false = sets []

-- the set of duty d alone
abbrev pub own : ℕ → Sets
own d = sets (2 ^ d ∷ [])

-- the list of a part that is duty d, where it is a duty, from the lists of its sides
abbrev pub list_from : (ℕ → Sets) → ℕ → Part → Sets
list_from f d True = of_true
list_from f d False = of_false
list_from f d (Literal s want) = own d
list_from f d (Next a) = own d
list_from f d (Release a b) = own d
list_from f d (Both a b) = join_and (f a) (f b)
list_from f d (Either a b) = join_or (f a) (f b)

unfoldable pub list_in : ℕ → List Part → ℕ → Sets
unfolding join_or join_and duty_number
list_in zero ps k = of_true
list_in (suc n) ps k = list_from (list_in n ps) (duty_number ps k) (part ps k)

-- the list of part k
abbrev pub list_of : List Part → ℕ → Sets
list_of ps k = list_in (suc k) ps k

-- a part after a round, from its sides' lists (f) and its sides after the round (g)
abbrev pub after_from : (ℕ → Sets) → (ℕ → Sets) → Played → ℕ → Part → Sets
after_from f g r d True = of_true
after_from f g r d False = of_false
after_from f g r d (Literal s want) = cond (agrees r s want) of_true of_false
after_from f g r d (Next a) = f a
after_from f g r d (Release a b) = join_and (g b) (join_or (g a) (own d))
after_from f g r d (Both a b) = join_and (g a) (g b)
after_from f g r d (Either a b) = join_or (g a) (g b)

unfoldable pub after_in : ℕ → List Part → Played → ℕ → Sets
unfolding list_in join_or join_and duty_number
after_in zero ps r k = of_true
after_in (suc n) ps r k = after_from (list_in n ps) (after_in n ps r) r (duty_number ps k) (part ps k)

-- the list of part k after a round
abbrev pub part_after : List Part → Played → ℕ → Sets
part_after ps r k = after_in (suc k) ps r k

-- the "and" over a set's duties after the round, from the lowest up
unfoldable pub set_after : List Part → Played → ℕ → Sets
unfolding after_in join_and members duty_part
set_after ps r x = fold (λ all d. join_and all (part_after ps r (duty_part ps d))) of_true (members x)

-- the "or", in order, over the sets
unfoldable pub list_after : List Part → Played → Sets → Sets
unfolding set_after join_or
list_after ps r too_wide = too_wide
list_after ps r (sets xs) = fold (λ any x. join_or any (set_after ps r x)) of_false xs

-- after each of these rounds in turn
unfoldable pub list_after_all : List Part → List Played → Sets → Sets
unfolding list_after
list_after_all ps [] s = s
list_after_all ps (r ∷ rs) s = list_after_all ps rs (list_after ps r s)
