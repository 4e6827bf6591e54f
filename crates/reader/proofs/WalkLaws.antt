-- What stands still, and what is still the beginning of a rule.
use Rattle.std.proofs.Common.{◌≡◌, ℕ, ◌≤◌, List, [], ◌∷◌, ◌++◌, length, Some, refl, ap, ◌∙◌, append_assoc, arith}
use Rattle.words.specs.Words.{Said, close', true', name'}
use Rattle.rules.specs.declared.part.Signal.{Signal}
use Rattle.reader.specs.Grammar.{Names}
use Rattle.reader.specs.Allowed.{State, due, named, done, Step, moves, refused, step, End, accepts, stops, run, start}
use Rattle.reader.specs.Faults.{Viable}
use Rattle.reader.proofs.PassLaws.{accepted}
use Rattle.reader.proofs.AgreeLaws.{not_both, from_accepts}

-- how many words are left at a stop
abbrev pub left : End → ℕ
left accepts = 0
left (stops k rest) = length rest

-- the words lead from one state to another
pub data Walks (known : Names) : State → List Said → State → Type 0 where
  here : {s : State} → Walks known s [] s
  by : {s s' s'' : State} {w : Said} {ws : List Said} → step known s w ≡ moves s' → Walks known s' ws s'' → Walks known s (w ∷ ws) s''

-- all of the words pass, or one is refused
pub data Goes (known : Names) (s : State) (ws : List Said) : Type 0 where
  passed : (s' : State) → Walks known s ws s' → Goes known s ws
  broken : (a : List Said) (v : Said) (b : List Said) (s' : State) (k : ℕ) → ws ≡ a ++ (v ∷ b) → Walks known s a s' → step known s' v ≡ refused k → Goes known s ws

module _ (known : Names) where
  by_step : (s : State) (w : Said) (ws : List Said) (e : Step) → step known s w ≡ e → ((s' : State) → Goes known s' ws) → Goes known s (w ∷ ws)
  by_step s w ws (moves s') h g = go (g s')
    where
      go : Goes known s' ws → Goes known s (w ∷ ws)
      go (passed s'' i) = passed s'' (by h i)
      go (broken a v b s'' k e i r) = broken (w ∷ a) v b s'' k (ap (λ z. w ∷ z) e) (by h i) r
  by_step s w ws (refused k) h g = broken [] w ws s k refl here h

  pub goes : (ws : List Said) (s : State) → Goes known s ws
  goes [] s = passed s here
  goes (w ∷ ws) s = by_step s w ws (step known s w) refl (goes ws)

  pub walks_run : {s s' : State} {ws : List Said} → Walks known s ws s' → (rest : List Said) → run known s (ws ++ rest) ≡ run known s' rest
  walks_run here rest = refl
  walks_run (by h i) rest = rw (h, run) (walks_run i rest)

  pub stops_at : (s : State) (w : Said) (rest : List Said) (k : ℕ) → step known s w ≡ refused k → run known s (w ∷ rest) ≡ stops k (w ∷ rest)
  stops_at s w rest k h = rw (h, run)

  pub walks_on : {s s' s'' : State} {ws : List Said} (w : Said) → Walks known s ws s' → step known s' w ≡ moves s'' → Walks known s (ws ++ (w ∷ [])) s''
  walks_on w here h = by h here
  walks_on w (by g i) h = by g (walks_on w i h)

  -- the brackets that are open can be closed
  closes : (os : List ℕ) (b : ℕ) → (ws : List Said) × (run known (done b os) ws ≡ accepts)
  closes [] b = ([], refl)
  closes (o ∷ os) b = let h = closes os o in (close' ∷ h.0, h.1)

  module _ (x : List ℕ) (g : Signal) (kn : known x ≡ Some g) where
    -- from each state the words can go on to a rule
    goes_well : (s : State) → (ws : List Said) × (run known s ws ≡ accepts)
    goes_well (due n b os) = let h = closes os b in (true' ∷ h.0, h.1)
    goes_well (named b os) = let h = closes os b in (name' x ∷ h.0, rw (kn, run) h.1)
    goes_well (done b os) = closes os b

    pub viable : {n : ℕ} {ws : List Said} {s : State} → Walks known (start n) ws s → Viable known n ws
    viable {n} {ws} {s} i = let h = goes_well s in let r = from_accepts known n (ws ++ h.0) (walks_run i h.0 ∙ h.1) in (h.0, r.0, r.1)

  pub not_viable : {n : ℕ} {ws : List Said} {s : State} (w : Said) {k : ℕ} → Walks known (start n) ws s → step known s w ≡ refused k → ¬ Viable known n (ws ++ (w ∷ []))
  not_viable {n} {ws} {s} w {k} i h v =
      not_both (accepted known v.2) (ap (run known (start n)) (append_assoc ws (w ∷ []) v.0) ∙ walks_run i (w ∷ v.0) ∙ stops_at s w v.0 k h)

  -- a walk, cut before a word
  pub cut : (a : List Said) (v : Said) (b : List Said) {s s'' : State} → Walks known s (a ++ (v ∷ b)) s'' → (p : State) × (q : State) × Walks known s a p × (step known p v ≡ moves q)
  cut [] v b {s} (by {s' = s'} h i) = (s, s', here, h)
  cut (w ∷ a) v b (by h i) = let c = cut a v b i in (c.0, c.1, by h c.2, c.3)

  -- what is left at a stop is no more than there was
  pub shorter : (ws : List Said) (s : State) → left (run known s ws) ≤ length ws
  shorter [] (due n b os) = omega arith
  shorter [] (named b os) = omega arith
  shorter [] (done b []) = omega arith
  shorter [] (done b (o ∷ os)) = omega arith
  shorter (w ∷ ws) s = go (step known s w) refl (shorter ws)
    where
      go : (e : Step) → step known s w ≡ e → ((s' : State) → left (run known s' ws) ≤ length ws) → left (run known s (w ∷ ws)) ≤ length (w ∷ ws)
      go (moves s') h i = rw (h, run) (omega (arith, i s'))
      go (refused k) h i = rw (h, run) (omega arith)
