-- The parts of a rule, numbered as they are completed, left side first.
use Rattle.std.specs.Prelude.{◌≡◌, ℕ, suc, Bool, cond, ◌&&◌, ◌⊎◌, List, [], ◌∷◌, ◌++◌, length, ◌==◌, nat_lt}
use Rattle.rules.specs.declared.part.Signal.TheVariants.{Input, Output}
use Rattle.rules.specs.declared.part.Part.{Part}
use Rattle.rules.specs.declared.part.Part.TheVariants.{True, False, Literal, Next, Release, Both, Either}
use Rattle.rules.specs.Rule.{Rule, always, never, literal, next, release, both, either}

-- three numbers that tell a part: its kind, and its sides or its signal and whether that is to be on
abbrev pub kind : Part → ℕ
kind True = 0
kind False = 1
kind (Literal (Input k) want) = 2
kind (Literal (Output k) want) = 3
kind (Next f) = 4
kind (Release a b) = 5
kind (Both f g) = 6
kind (Either f g) = 7

abbrev pub left : Part → ℕ
left True = 0
left False = 0
left (Literal (Input k) want) = k
left (Literal (Output k) want) = k
left (Next f) = f
left (Release a b) = a
left (Both f g) = f
left (Either f g) = f

abbrev pub right : Part → ℕ
right True = 0
right False = 0
right (Literal (Input k) want) = cond want 1 0
right (Literal (Output k) want) = cond want 1 0
right (Next f) = 0
right (Release a b) = b
right (Both f g) = g
right (Either f g) = g

-- the two are equal
unfoldable pub same_part : Part → Part → Bool
same_part x y = kind x == kind y && (left x == left y && right x == right y)

-- the number of the first part that is x; how many parts there are, where none is
unfoldable pub place : List Part → Part → ℕ
unfolding same_part
place [] x = 0
place (y ∷ ys) x = cond (same_part y x) 0 (suc (place ys x))

-- a table, and the number of a part in it
pub record Entry : Type 0 where
  pub table : List Part
  pub number : ℕ

-- equal parts are one part
unfoldable pub enter : List Part → Part → Entry
unfolding place
enter ps x = record { table = cond (nat_lt (place ps x) (length ps)) ps (ps ++ (x ∷ [])); number = place ps x }

-- the parts of a rule, behind those of ps
unfoldable pub parts_on : List Part → Rule → Entry
unfolding enter
parts_on ps always = enter ps True
parts_on ps never = enter ps False
parts_on ps (literal s want) = enter ps (Literal s want)
parts_on ps (next f) = let e = parts_on ps f in enter e.table (Next e.number)
parts_on ps (release a b) = let e = parts_on ps a in let g = parts_on e.table b in enter g.table (Release e.number g.number)
parts_on ps (both a b) = let e = parts_on ps a in let g = parts_on e.table b in enter g.table (Both e.number g.number)
parts_on ps (either a b) = let e = parts_on ps a in let g = parts_on e.table b in enter g.table (Either e.number g.number)

abbrev pub parts_of : Rule → Entry
parts_of f = parts_on [] f

-- g is the rule f or a part of it
unfoldable pub PartOf : Rule → Rule → Type 0
PartOf g always = g ≡ always
PartOf g never = g ≡ never
PartOf g (literal s want) = g ≡ literal s want
PartOf g (next f) = (g ≡ next f) ⊎ PartOf g f
PartOf g (release a b) = (g ≡ release a b) ⊎ (PartOf g a ⊎ PartOf g b)
PartOf g (both a b) = (g ≡ both a b) ⊎ (PartOf g a ⊎ PartOf g b)
PartOf g (either a b) = (g ≡ either a b) ⊎ (PartOf g a ⊎ PartOf g b)
