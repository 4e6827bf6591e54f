-- A refusal is told by its number and its place.
use Rattle.std.proofs.Common.{◌≡◌, ℕ, cond, ◌==◌, refl, sym, ap₂, ◌∙◌}
use Rattle.terms.specs.declared.refusal.Refusal.{Refusal}
use Rattle.terms.specs.declared.refusal.Refusal.TheVariants.{TextTooLong, StrangeByte, Misplaced, BadName, UnknownName, TooManySignals, Unsupported, TooDeep, RuleTooLarge, StartLost, TooWide, TooManyPositions, StoreTooShort, DiagramField, DiagramChain, DiagramRepeat, SizeZero, NotThisBook, OutOfRange, RunLost, TooManySweeps}
use Rattle.terms.specs.Refusals as refusals

-- the refusal of a number and a place
refusal_of : ℕ → ℕ → Refusal
refusal_of n p =
    cond (n == 1) TextTooLong (cond (n == 2) (StrangeByte p) (cond (n == 3) (Misplaced p) (cond (n == 4) (BadName p) (cond (n == 5) (UnknownName p)
    (cond (n == 6) (TooManySignals p) (cond (n == 7) (Unsupported p) (cond (n == 8) (TooDeep p) (cond (n == 9) RuleTooLarge (cond (n == 10) StartLost
    (cond (n == 11) (TooWide p) (cond (n == 12) TooManyPositions (cond (n == 13) StoreTooShort (cond (n == 14) (DiagramField p) (cond (n == 15) (DiagramChain p)
    (cond (n == 16) (DiagramRepeat p) (cond (n == 17) SizeZero (cond (n == 18) NotThisBook (cond (n == 19) OutOfRange (cond (n == 20) RunLost TooManySweeps)))))))))))))))))))

refusal_is : (e : Refusal) → refusal_of (refusals.number e) (refusals.place e) ≡ e
unfolding refusal_of
refusal_is TextTooLong = refl
refusal_is (StrangeByte k) = refl
refusal_is (Misplaced k) = refl
refusal_is (BadName k) = refl
refusal_is (UnknownName k) = refl
refusal_is (TooManySignals k) = refl
refusal_is (Unsupported k) = refl
refusal_is (TooDeep k) = refl
refusal_is RuleTooLarge = refl
refusal_is StartLost = refl
refusal_is (TooWide k) = refl
refusal_is TooManyPositions = refl
refusal_is StoreTooShort = refl
refusal_is (DiagramField k) = refl
refusal_is (DiagramChain k) = refl
refusal_is (DiagramRepeat k) = refl
refusal_is SizeZero = refl
refusal_is NotThisBook = refl
refusal_is OutOfRange = refl
refusal_is RunLost = refl
refusal_is TooManySweeps = refl

-- number and place tell a refusal
pub same_refusal : (e d : Refusal) → refusals.number e ≡ refusals.number d → refusals.place e ≡ refusals.place d → e ≡ d
same_refusal e d n p = sym (refusal_is e) ∙ ap₂ refusal_of n p ∙ refusal_is d
