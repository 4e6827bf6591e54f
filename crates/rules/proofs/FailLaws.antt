-- A rule fails where its negation holds.
use Rattle.std.proofs.Common.{◌≡◌, ℕ, suc, ◌<◌, ◌≤◌, Bool, true, false, not, ◌↔◌, List, ◌++◌, length, refl, ap, ◌∙◌, subst, inl, inr, ⊎_elim, arith, length-append}
use lib.ListN.{get_or-append}
use Rattle.std.proofs.lemmas.Bool.{cases_lt, not-true, not-false, not_from_true, not_from_false}
use Rattle.arena.specs.Tally.{Played}
use Rattle.rules.specs.declared.part.Signal.{Signal}
use Rattle.rules.specs.Rule.{Rule, always, never, literal, next, release, both, either, is_on, round, agrees, Fails}
use Rattle.rules.specs.Cosafe.{Cosafe, top, bottom, atom, following, until, conj, disj, negation, Holds, HoldsInside, Plain}

turned : (r : Played) (s : Signal) (want : Bool) → agrees r s want ≡ false ↔ agrees r s (not want) ≡ true
turned r s true = (λ e. not_from_false (is_on r s) e, λ e. not-true (is_on r s) e)
turned r s false = (λ e. not-false (is_on r s) e, λ e. not_from_true (is_on r s) e)

pub fails_right : (f : Rule) (rs : List Played) (p : ℕ) → Fails f rs p ↔ Holds (negation f) rs p
unfolding Fails Holds negation
fails_right always rs p = (λ h. h, λ h. h)
fails_right never rs p = (λ h. h, λ h. h)
fails_right (literal s want) rs p = (λ h. (h.0, (turned _ s want).0 h.1), λ h. (h.0, (turned _ s want).1 h.1))
fails_right (next f) rs p = (
  λ h. (suc p, refl, h.0, (fails_right f rs (suc p)).0 h.1),
  λ h. (omega arith, (fails_right f rs (suc p)).1 (subst (λ y. Holds (negation f) rs y) h.1 h.3)),
)
fails_right (release a b) rs p = (
  λ h. (h.0, h.1, h.2, (fails_right b rs h.0).0 h.3, λ i l m. (fails_right a rs i).0 (h.4 i l m)),
  λ h. (h.0, h.1, h.2, (fails_right b rs h.0).1 h.3, λ i l m. (fails_right a rs i).1 (h.4 i l m)),
)
fails_right (both f g) rs p = (
  λ h. elim h [ inl l ↦ inl ((fails_right f rs p).0 l) | inr l ↦ inr ((fails_right g rs p).0 l) ],
  λ h. elim h [ inl l ↦ inl ((fails_right f rs p).1 l) | inr l ↦ inr ((fails_right g rs p).1 l) ],
)
fails_right (either f g) rs p = (
  λ h. ((fails_right f rs p).0 h.0, (fails_right g rs p).0 h.1),
  λ h. ((fails_right f rs p).1 h.0, (fails_right g rs p).1 h.1),
)

-- what has no constants holds nowhere behind the last round
behind_last : (f : Cosafe) (rs : List Played) (x : ℕ) → Plain f → length rs ≤ x → Holds f rs x → ⊥
unfolding Holds Plain
behind_last top rs x c l h = c
behind_last bottom rs x c l h = c
behind_last (atom s want) rs x c l h = omega arith
behind_last (following f) rs x c l h = omega arith
behind_last (until f g) rs x c l h = omega arith
behind_last (conj f g) rs x c l h = behind_last f rs x c.0 l h.0
behind_last (disj f g) rs x c l h = elim h [ inl m ↦ behind_last f rs x c.0 l m | inr m ↦ behind_last g rs x c.1 l m ]

at_last : (f : Cosafe) (rs : List Played) (y : ℕ) → Plain f → y ≤ length rs → Holds f rs y → y < length rs
at_last f rs y c l h = ⊎_elim (λ m. m) (λ m. absurd (behind_last f rs y c m h)) (cases_lt y (length rs))

pub corner_right : (f : Cosafe) (rs : List Played) (x : ℕ) → Plain f → Holds f rs x ↔ HoldsInside f rs x
unfolding Holds HoldsInside Plain
corner_right top rs x c = absurd c
corner_right bottom rs x c = absurd c
corner_right (atom s want) rs x c = (λ h. h, λ h. h)
corner_right (following f) rs x c = (
  λ h. (h.0, h.1, at_last f rs h.0 c h.2 h.3, (corner_right f rs h.0 c).0 h.3),
  λ h. (h.0, h.1, omega arith, (corner_right f rs h.0 c).1 h.3),
)
corner_right (until f g) rs x c = (
  λ h. (h.0, h.1, h.2, (corner_right g rs h.0 c.1).0 h.3, λ i l m. (corner_right f rs i c.0).0 (h.4 i l m)),
  λ h. (h.0, h.1, h.2, (corner_right g rs h.0 c.1).1 h.3, λ i l m. (corner_right f rs i c.0).1 (h.4 i l m)),
)
corner_right (conj f g) rs x c = (
  λ h. ((corner_right f rs x c.0).0 h.0, (corner_right g rs x c.1).0 h.1),
  λ h. ((corner_right f rs x c.0).1 h.0, (corner_right g rs x c.1).1 h.1),
)
corner_right (disj f g) rs x c = (
  λ h. elim h [ inl l ↦ inl ((corner_right f rs x c.0).0 l) | inr l ↦ inr ((corner_right g rs x c.1).0 l) ],
  λ h. elim h [ inl l ↦ inl ((corner_right f rs x c.0).1 l) | inr l ↦ inr ((corner_right g rs x c.1).1 l) ],
)

pub fails_stays : (f : Rule) (rs more : List Played) (p : ℕ) → Fails f rs p → Fails f (rs ++ more) p
unfolding Fails
fails_stays always rs more p h = h
fails_stays never rs more p h = h
fails_stays (literal s want) rs more p h =
    let same : round (rs ++ more) p ≡ round rs p = get_or-append rs more (record { input = 0; output = 0 }) p h.0 in
    (omega (arith, h.0, length-append rs more), ap (λ r. agrees r s want) same ∙ h.1)
fails_stays (next f) rs more p h = (omega (arith, h.0, length-append rs more), fails_stays f rs more (suc p) h.1)
fails_stays (release a b) rs more p h =
    (h.0, h.1, omega (arith, h.2, length-append rs more), fails_stays b rs more h.0 h.3, λ i l m. fails_stays a rs more i (h.4 i l m))
fails_stays (both f g) rs more p h = ⊎_elim (λ k. inl (fails_stays f rs more p k)) (λ k. inr (fails_stays g rs more p k)) h
fails_stays (either f g) rs more p h = (fails_stays f rs more p h.0, fails_stays g rs more p h.1)
