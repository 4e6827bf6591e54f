-- Numbering the duties of a rule's parts, one part at a time.
use Rattle.std.proofs.Common.{◌≡◌, ℕ, zero, suc, ◌+◌, ◌<◌, ◌≤◌, true, false, cond, List, [], ◌∷◌, length, get_or, set, replicate, sym, refl, ap, ◌∙◌, ⊎_elim, arith, length-set, get_or-set_other, get_or-set_same}
use Rattle.std.proofs.lemmas.List.{get_or-replicate}
use Rattle.std.proofs.lemmas.Bool.{cases_eq, cases_lt}
use Rattle.rules.specs.declared.part.Part.{Part}
use Rattle.rules.specs.declared.part.Part.TheVariants.{True}
use Rattle.rules.specs.Parts.{behind, is_duty, duty_number, duty_part}
use Rattle.rules.proofs.PartLaws.{duty_found}
use Rattle.reader.proofs.SizeLaws.{none_duties, duty_more}
use Rattle.compile.specs.Numbering.{Numbered}

-- a duty that no part is has the place behind the last part
pub duty_past : (ps : List Part) (d : ℕ) → duty_number ps (length ps) ≤ d → duty_part ps d ≡ length ps
unfolding duty_number duty_part
duty_past [] d h = refl
duty_past (x ∷ ps) zero h =
    elim (is_duty x) as (λ b. cond b 1 0 + duty_number ps (length ps) ≤ 0 → behind b 0 (duty_part ps) ≡ suc (length ps)) [
      | true ↦ λ l. absurd (omega arith)
      | false ↦ λ l. ap suc (duty_past ps 0 (omega arith))
    ] h
duty_past (x ∷ ps) (suc d) h =
    elim (is_duty x) as (λ b. cond b 1 0 + duty_number ps (length ps) ≤ suc d → behind b (suc d) (duty_part ps) ≡ suc (length ps)) [
      | true ↦ λ l. ap suc (duty_past ps d (omega arith))
      | false ↦ λ l. ap suc (duty_past ps (suc d) (omega arith))
    ] h

pub numbered_none : (ps : List Part) → Numbered ps 0 (replicate 64 0) (replicate 32 (length ps)) 0
numbered_none ps = record {
  sizes = (refl, refl);
  next_is = sym (none_duties ps);
  few = omega arith;
  numbers_are = λ j h. absurd (omega arith);
  owners_are = λ d h. absurd (omega arith);
  no_owners = λ d l h. get_or-replicate 32 d (length ps) 0 h;
}

module _ (ps : List Part) (k : ℕ) (numbers owners : List ℕ) (next : ℕ) (n : Numbered ps k numbers owners next) (inside : k < length ps) (short : length ps ≤ 64) where
  numbers_more : (j : ℕ) → j < k + 1 → get_or (set numbers k next) j 0 ≡ duty_number ps j
  numbers_more j h = ⊎_elim
      (λ same. ap (λ i. get_or (set numbers k next) i 0) same ∙ get_or-set_same numbers k next 0 (omega (arith, n.sizes.0)) ∙ n.next_is ∙ ap (duty_number ps) (sym same))
      (λ other. get_or-set_other numbers k j next 0 other ∙ n.numbers_are j (omega arith))
      (cases_eq j k)

  -- a part that is no duty takes no number
  pub numbered_other : is_duty (get_or ps k True) ≡ false → Numbered ps (k + 1) (set numbers k next) owners next
  numbered_other e = record {
    sizes = (length-set numbers k next ∙ n.sizes.0, n.sizes.1);
    next_is = n.next_is ∙ sym (duty_more ps k inside ∙ ap (λ b. cond b 1 0 + duty_number ps k) e ∙ omega arith);
    few = omega (arith, n.few);
    numbers_are = numbers_more;
    owners_are = n.owners_are;
    no_owners = n.no_owners;
  }

  -- a duty takes the next number
  pub numbered_duty : is_duty (get_or ps k True) ≡ true → next < 32 → Numbered ps (k + 1) (set numbers k next) (set owners next k) (next + 1)
  numbered_duty e low = record {
    sizes = (length-set numbers k next ∙ n.sizes.0, length-set owners next k ∙ n.sizes.1);
    next_is = omega (arith, n.next_is, duty_more ps k inside ∙ ap (λ b. cond b 1 0 + duty_number ps k) e);
    few = omega (arith, n.few);
    numbers_are = numbers_more;
    owners_are = λ d h. ⊎_elim
        (λ same. ap (λ i. get_or (set owners next k) i 0) same ∙ get_or-set_same owners next k 0 (omega (arith, n.sizes.1)) ∙ sym (ap (duty_part ps) (same ∙ n.next_is) ∙ duty_found ps k e))
        (λ other. get_or-set_other owners next d k 0 other ∙ n.owners_are d (omega arith))
        (cases_eq d next);
    no_owners = λ d l h. get_or-set_other owners next d k 0 (λ same. omega arith) ∙ n.no_owners d (omega arith) h;
  }

-- all parts are numbered
pub numbered_owners : (ps : List Part) (numbers owners : List ℕ) (next : ℕ) → Numbered ps (length ps) numbers owners next → (d : ℕ) → d < 32 → get_or owners d 0 ≡ duty_part ps d
numbered_owners ps numbers owners next n d h =
    ⊎_elim (n.owners_are d) (λ past. n.no_owners d past h ∙ sym (duty_past ps d (omega (arith, n.next_is)))) (cases_lt d next)
