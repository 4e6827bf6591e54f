-- Exploring a position at a time, and a round at a time.
use Rattle.std.proofs.Common.{◌≡◌, ℕ, zero, suc, ◌+◌, ◌-◌, ◌*◌, ◌^◌, ◌<◌, ◌≤◌, List, [], ◌∷◌, length, get_or, drop, Some, None, fold, Option, refl, ap, ◌∙◌, ap₂, arith, drop-cons}
use Rattle.std.proofs.lemmas.List.{drop_all, drop_more}
use Rattle.terms.specs.declared.refusal.Refusal.{Refusal}
use Rattle.arena.specs.Tally.{Played}
use Rattle.rules.specs.declared.part.Part.{Part}
use Rattle.rules.specs.Sets.{sets}
use Rattle.rules.specs.Progress.{list_after}
use Rattle.rules.specs.Explore.{Compiled, too_large, lost_start, wide_at, too_many, positions, met, move, rounds, turn, explore}
use Rattle.compile.specs.declared.position.Position.{Position}
use Rattle.compile.specs.Positions.{unused, turn_at, reason}
use Rattle.compile.specs.Charting.{known_in, Stored, left_from}
use Rattle.compile.proofs.StoreLaws.{known_count, known_at}
use Rattle.compile.proofs.RoundLaws.{rounds_count, round_at}

no_reason : (r : Refusal) → ◌≡◌ {A = Option Refusal} None (Some r) → ⊥
no_reason r e = let z : ◌≡◌ {A = ℕ} 0 1 = cc in omega arith

module _ (ps : List Part) where
  move_stuck : (p : ℕ) (s : List ℕ) (e : Compiled) (x : Played) (r : Refusal) → reason e ≡ Some r → move ps p s e x ≡ e
  move_stuck p s too_large x r h = refl
  move_stuck p s lost_start x r h = refl
  move_stuck p s (wide_at q) x r h = refl
  move_stuck p s too_many x r h = refl
  move_stuck p s (positions known) x r h = absurd (no_reason r h)

  -- once there is a reason, no round takes it back
  pub moves_stuck : (p : ℕ) (s : List ℕ) (rs : List Played) (e : Compiled) (r : Refusal) → reason e ≡ Some r → fold (move ps p s) e rs ≡ e
  moves_stuck p s [] e r h = refl
  moves_stuck p s (x ∷ rs) e r h =
      let on = move_stuck p s e x r h in
      ap (λ f. fold (move ps p s) f rs) on ∙ moves_stuck p s rs e r h

  -- one round more
  pub moves_step : (i o p t : ℕ) (s : List ℕ) (known : List (List ℕ)) → t < 2 ^ i * 2 ^ o
      → fold (move ps (suc p) s) (positions known) (drop t (rounds i o)) ≡ fold (move ps (suc p) s) (met (suc p) known (list_after ps (turn_at o t) (sets s))) (drop (t + 1) (rounds i o))
  moves_step i o p t s known lt =
      let rest = drop (t + 1) (rounds i o) in
      ap (fold (move ps (suc p) s) (positions known)) (drop_more (rounds i o) t (turn_at o t) (omega (arith, rounds_count i o)))
      ∙ ap (λ r. fold (move ps (suc p) s) (met (suc p) known (list_after ps r (sets s))) rest) (round_at i o t (turn_at o t) lt)

  -- no round is left
  pub moves_done : (i o p t : ℕ) (s : List ℕ) (e : Compiled) → 2 ^ i * 2 ^ o ≤ t → fold (move ps (suc p) s) e (drop t (rounds i o)) ≡ e
  moves_done i o p t s e ge = ap (fold (move ps (suc p) s) e) (drop_all t (rounds i o) (omega (arith, rounds_count i o)))

  -- and no position
  pub explore_stuck : (n : ℕ) (rs : List Played) (p : ℕ) (e : Compiled) (r : Refusal) → reason e ≡ Some r → explore n ps rs p e ≡ e
  unfolding explore
  explore_stuck zero rs p e r h = refl
  explore_stuck (suc n) rs p too_large r h = refl
  explore_stuck (suc n) rs p lost_start r h = refl
  explore_stuck (suc n) rs p (wide_at q) r h = refl
  explore_stuck (suc n) rs p too_many r h = refl
  explore_stuck (suc n) rs p (positions known) r h = absurd (no_reason r h)

  explore_next : (n : ℕ) (rs : List Played) (p : ℕ) (known : List (List ℕ)) → p < length known
      → explore (suc n) ps rs p (positions known) ≡ explore n ps rs (suc p) (fold (move ps (suc p) (get_or known p [])) (positions known) rs)
  unfolding explore
  explore_next n rs p known l = ap (turn (positions known) (λ s. explore n ps rs (suc p) (fold (move ps (suc p) s) (positions known) rs))) (drop-cons known p [] l)

  -- the next position is left by its rounds
  pub explore_more : (i o used p : ℕ) (store : List Position) → Stored used store → p < used
      → explore (256 - p) ps (rounds i o) p (positions (known_in used store)) ≡ explore (256 - (p + 1)) ps (rounds i o) (p + 1) (left_from i o ps used p store)
  explore_more i o used p store stored lt =
      let fits : used ≤ length store = omega (arith, stored.room, stored.long) in
      let known = known_in used store in
      let next : 256 - p ≡ suc (256 - (p + 1)) = omega (arith, stored.room) in
      let one : suc p ≡ p + 1 = omega arith in
      let is : get_or known p [] ≡ (get_or store p unused).list = known_at used store p fits lt in
      ap (λ n. explore n ps (rounds i o) p (positions known)) next
      ∙ explore_next (256 - (p + 1)) (rounds i o) p known (omega (arith, known_count used store fits))
      ∙ ap₂ (λ q s. explore (256 - (p + 1)) ps (rounds i o) q (fold (move ps (suc p) s) (positions known) (rounds i o))) one is

  -- no position is left
  pub explore_done : (n : ℕ) (rs : List Played) (p : ℕ) (known : List (List ℕ)) → length known ≤ p → explore n ps rs p (positions known) ≡ positions known
  unfolding explore
  explore_done zero rs p known l = refl
  explore_done (suc n) rs p known l = ap (turn (positions known) (λ s. explore n ps rs (suc p) (fold (move ps (suc p) s) (positions known) rs))) (drop_all p known l)
