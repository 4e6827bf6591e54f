-- Words derive a tree, or the machine stops.
use Rattle.std.proofs.Common.{◌≡◌, ℕ, zero, suc, ◌<◌, true, false, List, [], ◌∷◌, length, Some, None, Option, refl, ◌∙◌, arith}
use Rattle.words.specs.Words.{Said, X', G', R', U', F', and', or', not', open', close', true', false', name', strange'}
use Rattle.rules.specs.declared.part.Signal.{Signal}
use Rattle.rules.specs.Rule.{Rule, always, never, literal, next, release, both, either}
use Rattle.reader.specs.Grammar.{Names, rule, choice, join, unit, Derives, rule_choice, rule_release, choice_join, choice_or, join_unit, join_and, unit_true, unit_false, unit_name, unit_not, unit_next, unit_always, unit_group, Reads}
use Rattle.reader.specs.Allowed.{due, done, stops, run, start}
use Rattle.reader.proofs.PassLaws.{passes}

module _ (known : Names) where
  -- how reading a unit of at most n levels comes out
  data AUnit (n : ℕ) (ws : List Said) : Type 0 where
    got : (t : Rule) (rest : List Said) → Derives known unit n ws t rest → length rest < length ws → AUnit n ws
    bad : (k : ℕ) (rest : List Said) → ((b : ℕ) (os : List ℕ) → run known (due n b os) ws ≡ stops k rest) → AUnit n ws

  -- how reading a rule comes out: it ends at a bracket or at the end
  data ARule (n : ℕ) (ws : List Said) : Type 0 where
    closed : (t : Rule) (rest : List Said) → Derives known rule n ws t (close' ∷ rest) → length rest < length ws → ARule n ws
    ended : (t : Rule) → Derives known rule n ws t [] → ARule n ws
    bad : (k : ℕ) (rest : List Said) → ((os : List ℕ) → run known (due n n os) ws ≡ stops k rest) → ARule n ws

  -- how reading goes on behind an `R`
  data Behind (n : ℕ) (ms : List Said) : Type 0 where
    closed : (u : Rule) (rest : List Said) → ((ws : List Said) (t : Rule) → Derives known choice n ws t (R' ∷ ms) → Derives known rule n ws (release t u) (close' ∷ rest)) → length rest < length ms → Behind n ms
    ended : (u : Rule) → ((ws : List Said) (t : Rule) → Derives known choice n ws t (R' ∷ ms) → Derives known rule n ws (release t u) []) → Behind n ms
    bad : (k : ℕ) (rest : List Said) → ((os : List ℕ) → run known (done n os) (R' ∷ ms) ≡ stops k rest) → Behind n ms

  A_name : (n : ℕ) (x : List ℕ) (ws : List Said) → AUnit n (name' x ∷ ws)
  A_name n x ws = go (known x) refl
    where
      go : (s : Option Signal) → known x ≡ s → AUnit n (name' x ∷ ws)
      go (Some s) e = got (literal s true) ws (unit_name e) (omega arith)
      go None e = bad 5 (name' x ∷ ws) (λ b os. rw (e, run))

  A_not : (n : ℕ) (ws : List Said) → AUnit n (not' ∷ ws)
  A_not n [] = bad 3 [] (λ b os. refl)
  A_not n (name' x ∷ ws) = go (known x) refl
    where
      go : (s : Option Signal) → known x ≡ s → AUnit n (not' ∷ name' x ∷ ws)
      go (Some s) e = got (literal s false) ws (unit_not e) (omega arith)
      go None e = bad 5 (name' x ∷ ws) (λ b os. rw (e, run))
  A_not n (U' ∷ ws) = bad 7 (U' ∷ ws) (λ b os. refl)
  A_not n (F' ∷ ws) = bad 7 (F' ∷ ws) (λ b os. refl)
  A_not n (strange' c ∷ ws) = bad 2 (strange' c ∷ ws) (λ b os. refl)
  A_not n (w ∷ ws) = bad 3 (w ∷ ws) (λ b os. refl)

  -- a word that takes a level
  abbrev Deep : ℕ → Said → Type 0
  Deep n w = (ws : List Said) → AUnit n (w ∷ ws)

  -- a unit, given how `X`, `G` and `(` come out
  unit_of : (n : ℕ) → Deep n X' → Deep n G' → Deep n open' → (ws : List Said) → AUnit n ws
  unit_of n x g o [] = bad 3 [] (λ b os. refl)
  unit_of n x g o (true' ∷ ws) = got always ws unit_true (omega arith)
  unit_of n x g o (false' ∷ ws) = got never ws unit_false (omega arith)
  unit_of n x g o (name' y ∷ ws) = A_name n y ws
  unit_of n x g o (not' ∷ ws) = A_not n ws
  unit_of n x g o (X' ∷ ws) = x ws
  unit_of n x g o (G' ∷ ws) = g ws
  unit_of n x g o (open' ∷ ws) = o ws
  unit_of n x g o (U' ∷ ws) = bad 7 (U' ∷ ws) (λ b os. refl)
  unit_of n x g o (F' ∷ ws) = bad 7 (F' ∷ ws) (λ b os. refl)
  unit_of n x g o (strange' c ∷ ws) = bad 2 (strange' c ∷ ws) (λ b os. refl)
  unit_of n x g o (w ∷ ws) = bad 3 (w ∷ ws) (λ b os. refl)

  deep_next : (n : ℕ) → ((ws : List Said) → AUnit n ws) → Deep (suc n) X'
  deep_next n u ws = go (u ws)
    where
      go : AUnit n ws → AUnit (suc n) (X' ∷ ws)
      go (got t rest d l) = got (next t) rest (unit_next d) (omega arith)
      go (bad k rest h) = bad k rest h

  deep_always : (n : ℕ) → ((ws : List Said) → AUnit n ws) → Deep (suc n) G'
  deep_always n u ws = go (u ws)
    where
      go : AUnit n ws → AUnit (suc n) (G' ∷ ws)
      go (got t rest d l) = got (release never t) rest (unit_always d) (omega arith)
      go (bad k rest h) = bad k rest h

  deep_open : (n : ℕ) → ((ws : List Said) → ARule n ws) → Deep (suc n) open'
  deep_open n r ws = go (r ws)
    where
      go : ARule n ws → AUnit (suc n) (open' ∷ ws)
      go (closed t rest d l) = got t rest (unit_group d) (omega arith)
      go (ended t d) = bad 3 [] (λ b os. (passes known d).1 (b ∷ os))
      go (bad k rest h) = bad k rest (λ b os. h (b ∷ os))

  behind : (n : ℕ) → ((ws : List Said) → ARule n ws) → (ms : List Said) → Behind (suc n) ms
  behind n r ms = go (r ms)
    where
      go : ARule n ms → Behind (suc n) ms
      go (closed u rest d l) = closed u rest (λ ws t e. rule_release e d) l
      go (ended u d) = ended u (λ ws t e. rule_release e d)
      go (bad k rest h) = bad k rest h

  module _ (n : ℕ) (u : (ws : List Said) → AUnit n ws) (beh : (ms : List Said) → Behind n ms) (ws : List Said) where
    -- what the choice is once a join from js is complete
    abbrev Ahead : List Said → Type 0
    Ahead js = (t : Rule) (rest : List Said) → Derives known join n js t rest → (c : Rule) × Derives known choice n ws c rest

    -- from here the machine is where it came from the start of the rule
    wrong : (k : ℕ) (ms rest : List Said) {c : Rule} → Derives known choice n ws c ms → ((os : List ℕ) → run known (done n os) ms ≡ stops k rest) → ARule n ws
    wrong k ms rest d h = bad k rest (λ os. passes known d os ∙ h os)

    abbrev Loop : ℕ → Type 0
    Loop f = (js ms : List Said) (t : Rule) → length ms < f → length ms < length ws → Ahead js → Derives known join n js t ms → ARule n ws

    module _ (f : ℕ) (on : Loop f) (js ms : List Said) (t : Rule) (lt : length ms < f) (lw : length ms < length ws) (ah : Ahead js) where
      after_and : Derives known join n js t (and' ∷ ms) → AUnit n ms → ARule n ws
      after_and d (got v rest e l) = on js rest (both t v) (omega arith) (omega arith) ah (join_and d e)
      after_and d (bad k rest h) = wrong k (and' ∷ ms) rest (ah t (and' ∷ ms) d).1 (λ os. h n os)

      after_or : Derives known join n js t (or' ∷ ms) → AUnit n ms → ARule n ws
      after_or d (got v rest e l) = let c = ah t (or' ∷ ms) d in on ms rest v (omega arith) (omega arith) (λ x more j. (either c.0 x, choice_or c.1 j)) (join_unit e)
      after_or d (bad k rest h) = wrong k (or' ∷ ms) rest (ah t (or' ∷ ms) d).1 (λ os. h n os)

      after_release : Derives known join n js t (R' ∷ ms) → Behind n ms → ARule n ws
      after_release d (closed v rest h l) = let c = ah t (R' ∷ ms) d in closed (release c.0 v) rest (h ws c.0 c.1) (omega arith)
      after_release d (ended v h) = let c = ah t (R' ∷ ms) d in ended (release c.0 v) (h ws c.0 c.1)
      after_release d (bad k rest h) = wrong k (R' ∷ ms) rest (ah t (R' ∷ ms) d).1 h

    loop : (f : ℕ) → Loop f
    loop zero js ms t lt lw ah d = absurd (omega arith)
    loop (suc f) js [] t lt lw ah d = ended _ (rule_choice (ah t [] d).1)
    loop (suc f) js (close' ∷ ms) t lt lw ah d = closed _ ms (rule_choice (ah t (close' ∷ ms) d).1) (omega arith)
    loop (suc f) js (and' ∷ ms) t lt lw ah d = after_and f (loop f) js ms t (omega arith) (omega arith) ah d (u ms)
    loop (suc f) js (or' ∷ ms) t lt lw ah d = after_or f (loop f) js ms t (omega arith) (omega arith) ah d (u ms)
    loop (suc f) js (R' ∷ ms) t lt lw ah d = after_release f (loop f) js ms t (omega arith) (omega arith) ah d (beh ms)
    loop (suc f) js (U' ∷ ms) t lt lw ah d = wrong 7 _ (U' ∷ ms) (ah t _ d).1 (λ os. refl)
    loop (suc f) js (F' ∷ ms) t lt lw ah d = wrong 7 _ (F' ∷ ms) (ah t _ d).1 (λ os. refl)
    loop (suc f) js (strange' c ∷ ms) t lt lw ah d = wrong 2 _ (strange' c ∷ ms) (ah t _ d).1 (λ os. refl)
    loop (suc f) js (w ∷ ms) t lt lw ah d = wrong 3 _ (w ∷ ms) (ah t _ d).1 (λ os. refl)

    rule_of : ARule n ws
    rule_of = go (u ws)
      where
        go : AUnit n ws → ARule n ws
        go (got t rest d l) = loop (suc (length rest)) ws rest t (omega arith) l (λ t rest e. (t, choice_join e)) (join_unit d)
        go (bad k rest h) = bad k rest (λ os. h n os)

  abbrev Both : ℕ → Type 0
  Both n = ((ws : List Said) → AUnit n ws) × ((ws : List Said) → ARule n ws)

  reader : (n : ℕ) → Both n
  reader zero =
      let u : (ws : List Said) → AUnit 0 ws = unit_of 0 (λ ws. bad 8 (X' ∷ ws) (λ b os. refl)) (λ ws. bad 8 (G' ∷ ws) (λ b os. refl)) (λ ws. bad 8 (open' ∷ ws) (λ b os. refl)) in
      (u, rule_of 0 u (λ ms. bad 8 (R' ∷ ms) (λ os. refl)))
  reader (suc n) =
      let h : Both n = reader n in
      let u : (ws : List Said) → AUnit (suc n) ws = unit_of (suc n) (deep_next n h.0) (deep_always n h.0) (deep_open n h.1) in
      (u, rule_of (suc n) u (behind n h.1))

  -- the whole: a tree, or a stop
  pub data AText (n : ℕ) (ws : List Said) : Type 0 where
    reads : (t : Rule) → Reads known n ws t → AText n ws
    stopped : (k : ℕ) (rest : List Said) → run known (start n) ws ≡ stops k rest → AText n ws

  pub read : (n : ℕ) (ws : List Said) → AText n ws
  read n ws = go ((reader n).1 ws)
    where
      go : ARule n ws → AText n ws
      go (closed t rest d l) = stopped 3 (close' ∷ rest) ((passes known d).1 [])
      go (ended t d) = reads t d
      go (bad k rest h) = stopped k rest (h [])
