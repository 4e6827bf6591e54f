-- Lists that were made before, kept by the number of their part.
-- join_duty, join_set: one step of a list after a round. entry: what is noted of a part. Knows: what an entry says. Remembers: a memory of lists is right.
-- gives_prop, remembers_prop: they say that in one way at most, as facts of a struct must.
use Rattle.std.specs.Prelude.{◌≡◌, ℕ, Bool, false, cond, List, length, Some, None, Option, slice_index_or, refl}
use Rattle.std.specs.Coded.{Coded, Coded-set, code_by, coded_ℕ, coded_list, coded_option, Unit-prop, Π_prop}
use Rattle.arena.specs.Tally.{Played}
use Rattle.rules.specs.declared.part.Part.{Part}
use Rattle.rules.specs.Sets.{Sets, too_wide, sets, join_or, join_and}
use Rattle.rules.specs.Parts.{duty_part}
use Rattle.rules.specs.Progress.{part_after, set_after}
use Rattle.compile.specs.Listed.{told, Gives}

-- one duty more of a set after the round, and one set more of a list
abbrev pub join_duty : List Part → Played → Sets → ℕ → Sets
join_duty ps r all d = join_and all (part_after ps r (duty_part ps d))

abbrev pub join_set : List Part → Played → Sets → ℕ → Sets
join_set ps r any x = join_or any (set_after ps r x)

-- what an entry says of a list: nothing yet, that it is too wide, or what it is
abbrev pub Knows : Sets → Option (Option (List ℕ)) → Type 0
Knows s None = Unit {0}
Knows s (Some l) = s ≡ told l

-- entry k of a memory with these marks
abbrev pub entry : List Bool → List (Option (List ℕ)) → ℕ → Option (Option (List ℕ))
entry known lists k = cond (slice_index_or known k false) (Some (slice_index_or lists k None)) None

-- entry k, where it is known, is the list f k
pub record Remembers (f : ℕ → Sets) (known : List Bool) (lists : List (Option (List ℕ))) : Type 0 where
  pub marks : length known ≡ 64
  pub long : length lists ≡ 64
  pub right : (k : ℕ) → Knows (f k) (entry known lists k)

-- a list or too wide, as what a join came to
abbrev given : Sets → Option (List ℕ)
given too_wide = None
given (sets l) = Some l

given_told : (s : Sets) → told (given s) ≡ s
given_told too_wide = refl
given_told (sets l) = refl

pub sets_coded : Coded Sets
sets_coded = code_by (Option (List ℕ)) (coded_option (coded_list coded_ℕ)) given told given_told

knows_prop : (s : Sets) (x : Option (Option (List ℕ))) → IsProp (Knows s x)
knows_prop s None = Unit-prop
knows_prop s (Some l) = Coded-set sets_coded s (told l)

pub gives_prop : (r : Option (List ℕ)) (s : Sets) → IsProp (Gives r s)
gives_prop r s = Coded-set sets_coded s (told r)

pub remembers_prop : (f : ℕ → Sets) (known : List Bool) (lists : List (Option (List ℕ))) → IsProp (Remembers f known lists)
remembers_prop f known lists a b = λ j. record {
  marks = Coded-set coded_ℕ (length known) 64 a.marks b.marks j;
  long = Coded-set coded_ℕ (length lists) 64 a.long b.long j;
  right = Π_prop (λ k. knows_prop (f k) (entry known lists k)) a.right b.right j;
}
