-- The list of a part, and a part after a round, from their sides; what a memory of lists says.
use Rattle.std.proofs.Common.{◌≡◌, ℕ, ◌<◌, Bool, true, false, true≢false, cond, ◌⊎◌, inl, inr, List, Some, None, Option, length, get_or, replicate, sym, refl, ap, ◌∙◌, subst, ⊎_elim, arith}
use lib.ListN.{length-replicate}
use Rattle.std.proofs.lemmas.List.{get_or-replicate, get_or_past}
use Rattle.std.proofs.lemmas.Bool.{cases_lt}
use Rattle.rules.specs.declared.part.Part.{Part}
use Rattle.rules.specs.declared.part.Part.TheVariants.{Literal, Next, Release}
use Rattle.rules.specs.declared.part.Signal.{Signal}
use Rattle.rules.specs.Sets.{Sets}
use Rattle.rules.specs.Parts.{part, is_duty, duty_number, duty_part}
use Rattle.rules.specs.Progress.{own, list_from, list_of, after_from, part_after, set_after}
use Rattle.rules.proofs.PartLaws.{duty_below}
use Rattle.rules.proofs.StepLaws.{list_step, after_step}
use Rattle.compile.specs.declared.outline.Outline.{Outline}
use Rattle.compile.specs.declared.progress.Progress.{Progress}
use Rattle.compile.specs.Known.{Knows, Remembers}
use Rattle.compile.specs.Progressing.{rule, round, Stays}

module _ (p : Progress) (k : ℕ) {x : Part} (is : part (rule p) k ≡ x) where
  pub list_at : list_of (rule p) k ≡ list_from (list_of (rule p)) (duty_number (rule p) k) x
  list_at = list_step (rule p) p.outline.outlines.falls k ∙ ap (list_from (list_of (rule p)) (duty_number (rule p) k)) is

  pub after_at : part_after (rule p) (round p) k ≡ after_from (list_of (rule p)) (part_after (rule p) (round p)) (round p) (duty_number (rule p) k) x
  after_at = after_step (rule p) p.outline.outlines.falls (round p) k ∙ ap (after_from (list_of (rule p)) (part_after (rule p) (round p)) (round p) (duty_number (rule p) k)) is

-- an outline of these parts has the number of a part that is a duty, and it is small
module _ (o : Outline) (ps : List Part) (same : o.parts.now ≡ ps) (k : ℕ) (inside : k < length ps) where
  pub number_is : get_or o.numbers k 0 ≡ duty_number ps k
  number_is = o.outlines.numbered k (omega (arith, ap length same)) ∙ ap (λ z. duty_number z k) same

  pub number_fits : is_duty (part ps k) ≡ true → get_or o.numbers k 0 < 32
  number_fits d = omega (arith, number_is, o.outlines.duties, ap (λ z. duty_number z (length z)) same, duty_below ps k d)

-- a literal, an X part or an R part is a duty, whose list is its own
abbrev Duty : Part → Type 0
Duty x = ((s : Signal) × (want : Bool) × (x ≡ Literal s want)) ⊎ (((f : ℕ) × (x ≡ Next f)) ⊎ ((a : ℕ) × (b : ℕ) × (x ≡ Release a b)))

pub is_own : (x : Part) → Duty x → is_duty x ≡ true
is_own x (inl (s, want, e)) = ap is_duty e
is_own x (inr (inl (f, e))) = ap is_duty e
is_own x (inr (inr (a, b, e))) = ap is_duty e

pub list_own : (f : ℕ → Sets) (d : ℕ) (x : Part) → Duty x → list_from f d x ≡ own d
list_own f d x (inl (s, want, e)) = ap (list_from f d) e
list_own f d x (inr (inl (g, e))) = ap (list_from f d) e
list_own f d x (inr (inr (a, b, e))) = ap (list_from f d) e

-- what is made of the rule and the round stays
module _ {p q : Progress} (same : Stays p q) (k : ℕ) where
  pub list_stays : list_of (rule p) k ≡ list_of (rule q) k
  list_stays = ap (λ z. list_of z k) (sym same.parts)

  pub after_stays : part_after (rule p) (round p) k ≡ part_after (rule q) (round q) k
  after_stays = λ j. part_after (sym same.parts j) (sym same.played j) k

  pub duty_stays : part_after (rule p) (round p) (duty_part (rule p) k) ≡ part_after (rule q) (round q) (duty_part (rule q) k)
  duty_stays = λ j. part_after (sym same.parts j) (sym same.played j) (duty_part (sym same.parts j) k)

  pub set_stays : set_after (rule p) (round p) k ≡ set_after (rule q) (round q) k
  set_stays = λ j. set_after (sym same.parts j) (sym same.played j) k

pub stays_on : {p q r : Progress} → Stays p q → Stays q r → Stays p r
stays_on a b = record { parts = b.parts ∙ a.parts; played = b.played ∙ a.played }

-- an entry of equal ones, or the default that is equal to them
pub getD_equal : {A : Type 0} (n k : ℕ) (a : A) → get_or (replicate n a) k a ≡ a
getD_equal n k a = ⊎_elim (get_or-replicate n k a a) (λ past. get_or_past (replicate n a) k a (omega (arith, length-replicate n a))) (cases_lt k n)

-- where no mark is set nothing is known
pub remembers_none : (f : ℕ → Sets) (lists : List (Option (List ℕ))) → length lists ≡ 64 → Remembers f (replicate 64 false) lists
remembers_none f lists long = record {
  marks = refl;
  long = long;
  right = λ k. subst (λ b. Knows (f k) (cond b (Some (get_or lists k None)) None)) (sym (getD_equal 64 k false)) tt;
}

-- what is known stays so where the parts that are known come to the same
pub remembers_on : (f g : ℕ → Sets) (known : List Bool) (lists : List (Option (List ℕ))) → ((k : ℕ) → k < 64 → get_or known k false ≡ true → f k ≡ g k) → Remembers f known lists → Remembers g known lists
remembers_on f g known lists same r = record {
  marks = r.marks;
  long = r.long;
  right = λ k. on k (get_or known k false) refl (r.right k);
}
  where
    inside : (k : ℕ) → get_or known k false ≡ true → k < 64
    inside k e = elim (cases_lt k 64) [
      | inl l ↦ l
      | inr l ↦ absurd (true≢false (sym e ∙ get_or_past known k false (omega (arith, r.marks))))
    ]

    on : (k : ℕ) (b : Bool) → get_or known k false ≡ b → Knows (f k) (cond b (Some (get_or lists k None)) None) → Knows (g k) (cond b (Some (get_or lists k None)) None)
    on k true e h = sym (same k (inside k e) e) ∙ h
    on k false e h = tt
