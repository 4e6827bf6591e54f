-- Parts, their rules and their duties.
use Rattle.std.specs.Prelude.{◌≡◌, ℕ, zero, suc, ◌+◌, ◌<◌, Bool, true, false, cond, ◌⊎◌, List, [], ◌∷◌, length, refl}
use Rattle.std.proofs.Common.{ap, ap₂, ◌∙◌, inl, inr, zero-add, one-add, arith}
use Rattle.rules.specs.declared.part.Part.{Part}
use Rattle.rules.specs.declared.part.Part.TheVariants.{True, Next, Release, Both, Either}
use Rattle.rules.specs.Rule.{Rule, next, release, both, either}
use Rattle.rules.specs.Parts.{part, Falls, is_duty, duty_number, behind, duty_part, rule_from, rule_in}

pub rule_same : (f g : ℕ → Rule) (k : ℕ) (x : Part) → Falls k x → ((a : ℕ) → a < k → f a ≡ g a) → rule_from f x ≡ rule_from g x
rule_same f g k (Next a) l h = ap next (h a l)
rule_same f g k (Release a b) l h = ap₂ release (h a l.0) (h b l.1)
rule_same f g k (Both a b) l h = ap₂ both (h a l.0) (h b l.1)
rule_same f g k (Either a b) l h = ap₂ either (h a l.0) (h b l.1)
rule_same f g k x l h = refl

-- steps enough give one rule
pub rule_stays : (ps : List Part) → ((k : ℕ) → Falls k (part ps k)) → (n m k : ℕ) → k < n → k < m → rule_in n ps k ≡ rule_in m ps k
unfolding rule_in
rule_stays ps falls zero m k l r = absurd (omega arith)
rule_stays ps falls (suc n) zero k l r = absurd (omega arith)
rule_stays ps falls (suc n) (suc m) k l r =
    rule_same (rule_in n ps) (rule_in m ps) k (part ps k) (falls k) (λ a s. rule_stays ps falls n m a (omega arith) (omega arith))

behind_step : (b : Bool) (n : ℕ) (place : ℕ → ℕ) → behind b (cond b 1 0 + n) place ≡ suc (place n)
behind_step true n place = rw (one-add n)
behind_step false n place = rw (zero-add n)

pub duty_found : (ps : List Part) (k : ℕ) → is_duty (part ps k) ≡ true → duty_part ps (duty_number ps k) ≡ k
unfolding duty_part duty_number
duty_found [] k e = cc
duty_found (x ∷ ps) zero e = rw e
duty_found (x ∷ ps) (suc k) e = behind_step (is_duty x) (duty_number ps k) (duty_part ps) ∙ ap suc (duty_found ps k e)

pub duty_below : (ps : List Part) (k : ℕ) → is_duty (part ps k) ≡ true → duty_number ps k < duty_number ps (length ps)
unfolding duty_number
duty_below [] k e = cc
duty_below (x ∷ ps) zero e = rw e (omega arith)
duty_below (x ∷ ps) (suc k) e = omega (arith, duty_below ps k e)

pub duty_or_none : (ps : List Part) (d : ℕ) → (is_duty (part ps (duty_part ps d)) ≡ true) ⊎ (part ps (duty_part ps d) ≡ True)
unfolding duty_part
duty_or_none [] d = inr refl
duty_or_none (x ∷ ps) d = go (is_duty x) refl d (duty_or_none ps)
  where
    go : (b : Bool) → is_duty x ≡ b → (d : ℕ) → ((e : ℕ) → (is_duty (part ps (duty_part ps e)) ≡ true) ⊎ (part ps (duty_part ps e) ≡ True))
        → (is_duty (part (x ∷ ps) (behind b d (duty_part ps))) ≡ true) ⊎ (part (x ∷ ps) (behind b d (duty_part ps)) ≡ True)
    go false e d h = h d
    go true e zero h = inl e
    go true e (suc d) h = h d
