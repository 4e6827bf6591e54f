-- The words that the table refuses are those with a fault.
use Rattle.std.proofs.Common.{◌≡◌, ℕ, zero, suc, ◌+◌, ◌-◌, ◌≤◌, true, false, List, [], ◌∷◌, ◌++◌, length, None, sym, refl, ap, ◌∙◌, subst, append_assoc, append-nil, arith}
use Rattle.words.specs.Words.{Said, U', F', name', strange'}
use Rattle.rules.specs.declared.part.Signal.TheVariants.{Input}
use Rattle.rules.specs.Rule.{Rule}
use Rattle.reader.specs.Grammar.{Names, Sort, Derives, rule_choice, rule_release, choice_join, choice_or, join_unit, join_and, unit_true, unit_false, unit_name, unit_not, unit_next, unit_always, unit_group, Reads}
use Rattle.reader.specs.Allowed.{State, due, named, done, Step, moves, refused, step, End, accepts, stops, at_end, run, start}
use Rattle.reader.specs.Faults as faults
use Rattle.reader.specs.Faults.{free, Begins, foreign, Fault, Told, Clean, Answer, tree, refusal, Outcome, reads, word_refused, end_refused}
use Rattle.reader.proofs.ReadLaws as reader
use Rattle.reader.proofs.ReadLaws.{AText, read}
use Rattle.reader.proofs.TreeLaws.{tree_one}
use Rattle.reader.proofs.AllowedLaws as table
use Rattle.reader.proofs.AllowedLaws.{lift, strange_word, name_word, Why, why, stays, number}
use Rattle.reader.proofs.PassLaws.{accepted}
use Rattle.reader.proofs.AgreeLaws.{not_both, from_accepts}
use Rattle.reader.proofs.WalkLaws.{Walks, here, by, Goes, passed, broken, goes, walks_run, stops_at, walks_on, viable, not_viable, cut, left, shorter}

-- a level more allows no less
wider : {known : Names} {s : Sort} {n : ℕ} {ws : List Said} {t : Rule} {rest : List Said} → Derives known s n ws t rest → Derives known s (suc n) ws t rest
wider (rule_choice d) = rule_choice (wider d)
wider (rule_release d e) = rule_release (wider d) (wider e)
wider (choice_join d) = choice_join (wider d)
wider (choice_or d e) = choice_or (wider d) (wider e)
wider (join_unit d) = join_unit (wider d)
wider (join_and d e) = join_and (wider d) (wider e)
wider unit_true = unit_true
wider unit_false = unit_false
wider (unit_name h) = unit_name h
wider (unit_not h) = unit_not h
wider (unit_next d) = unit_next (wider d)
wider (unit_always d) = unit_always (wider d)
wider (unit_group d) = unit_group (wider d)

-- d levels more
abbrev up : ℕ → ℕ → ℕ
up zero n = n
up (suc d) n = suc (up d n)

up_sum : (d n : ℕ) → up d n ≡ d + n
up_sum zero n = omega arith
up_sum (suc d) n = omega (arith, up_sum d n)

up_swap : (d n : ℕ) → up d n ≡ up n d
up_swap d n = omega (arith, up_sum d n, up_sum n d)

wider_by : (d n : ℕ) (ws : List Said) → Begins n ws → Begins (up d n) ws
wider_by zero n ws v = v
wider_by (suc d) n ws v = let h = wider_by d n ws v in (h.0, h.1, wider h.2)

abbrev lifts : ℕ → State → State
lifts zero s = s
lifts (suc d) s = lift (lifts d s)

halts : {e : Step} {s : State} {k : ℕ} → e ≡ moves s → e ≡ refused k → ⊥
halts h i = cc

abbrev up_step : Step → Step
up_step (moves x) = moves (lift x)
up_step (refused k) = refused k

-- a move is one with every name known, and with a level more
moved : (known : Names) (s : State) (w : Said) (q : State) → step known s w ≡ moves q → (step free s w ≡ moves q) × (step free (lift s) w ≡ moves (lift q))
moved known s w q h = go (why known s w) h
  where
    go : {v : Said} {e : Step} → Why known s v e → e ≡ moves q → (step free s v ≡ moves q) × (step free (lift s) v ≡ moves (lift q))
    go (table.fine {q = p} a b) h = (a ∙ h, b ∙ ap up_step h)
    go y h = cc

free_walk : {known : Names} {s q : State} {ws : List Said} → Walks known s ws q → Walks free s ws q
free_walk here = here
free_walk {known} (by {s = s} {s' = p} {w = w} h i) = by (moved known s w p h).0 (free_walk i)

lift_walk : {s q : State} {ws : List Said} → Walks free s ws q → Walks free (lift s) ws (lift q)
lift_walk here = here
lift_walk (by {s = s} {s' = p} {w = w} h i) = by (moved free s w p h).1 (lift_walk i)

lifts_walk : (d n : ℕ) {q : State} {ws : List Said} → Walks free (start n) ws q → Walks free (start (up d n)) ws (lifts d q)
lifts_walk zero n i = i
lifts_walk (suc d) n i = lift_walk (lifts_walk d n i)

lifts_stay : (d : ℕ) (s : State) (w : Said) → step free s w ≡ refused 3 → step free (lifts d s) w ≡ refused 3
lifts_stay zero s w h = h
lifts_stay (suc d) s w h = stays (lifts d s) w (lifts_stay d s w h)

begins : {n : ℕ} {ws : List Said} {s : State} → Walks free (start n) ws s → Begins n ws
begins i = viable free [] (Input 0) refl i

module _ (known : Names) where
  strange_stops : (s : State) (c : ℕ) → step known s (strange' c) ≡ refused 2
  strange_stops (due n b os) c = refl
  strange_stops (named b os) c = refl
  strange_stops (done b os) c = refl

  until_stops : (s : State) → step known s U' ≡ refused 7
  until_stops (due n b os) = refl
  until_stops (named b os) = refl
  until_stops (done b os) = refl

  finally_stops : (s : State) → step known s F' ≡ refused 7
  finally_stops (due n b os) = refl
  finally_stops (named b os) = refl
  finally_stops (done b os) = refl

  unknown_stops : (s : State) (x : List ℕ) → known x ≡ None → (k : ℕ) × (step known s (name' x) ≡ refused k)
  unknown_stops (due n b os) x e = (5, rw e)
  unknown_stops (named b os) x e = (5, rw e)
  unknown_stops (done b os) x e = (3, refl)

module _ (known : Names) (n : ℕ) (ws : List Said) where
  low2 : {w : Said} {j : ℕ} → Fault known n ws w j → 2 ≤ j
  low2 faults.strange = omega arith
  low2 f = omega arith

  low3 : {w : Said} {j : ℕ} → Fault known n ws w j → strange_word w ≡ false → 3 ≤ j
  low3 faults.strange h = cc
  low3 f h = omega arith

  low5 : {x : List ℕ} {j : ℕ} → Fault known n ws (name' x) j → Begins n (ws ++ (name' x ∷ [])) → 5 ≤ j
  low5 (faults.misplaced a b) h = absurd (b n h)
  low5 f h = omega arith

  low7 : {w : Said} {j : ℕ} → Fault known n ws w j → foreign w ≡ true → strange_word w ≡ false → name_word w ≡ false → 7 ≤ j
  low7 faults.strange h i l = cc
  low7 (faults.misplaced a b) h i l = cc
  low7 (faults.unknown a) h i l = cc
  low7 f h i l = omega arith

  low8 : {w : Said} {j : ℕ} → Fault known n ws w j → foreign w ≡ false → strange_word w ≡ false → name_word w ≡ false → Begins (suc n) (ws ++ (w ∷ [])) → 8 ≤ j
  low8 (faults.misplaced a b) h i l v = absurd (b (suc n) v)
  low8 (faults.deep a) h i l v = omega arith
  low8 f h i l v = cc

  module _ (s : State) (i : Walks known (start n) ws s) where
    on : (w : Said) (q : State) → step free s w ≡ moves q → Begins n (ws ++ (w ∷ []))
    on w q e = begins (walks_on free w (free_walk i) e)

    -- a word that is allowed has no fault
    pub faultless : {w : Said} {k : ℕ} (q : State) → Fault known n ws w k → step known s w ≡ moves q → ⊥
    faultless q (faults.strange {c = c}) h = halts h (strange_stops known s c)
    faultless q (faults.misplaced {w = w} a b) h = b n (on w q (moved known s w q h).0)
    faultless q (faults.unknown {x = x} e) h = halts h (unknown_stops known s x e).1
    faultless q faults.until h = halts h (until_stops known s)
    faultless q faults.finally h = halts h (finally_stops known s)
    faultless q (faults.deep {w = w} b) h = b (on w q (moved known s w q h).0)

    nowhere : (w : Said) → step free s w ≡ refused 3 → (m : ℕ) → ¬ Begins m (ws ++ (w ∷ []))
    nowhere w h m v = not_viable free w (lifts_walk m n (free_walk i)) (lifts_stay m s w h) (subst (λ z. Begins z (ws ++ (w ∷ []))) (up_swap n m) (wider_by n m (ws ++ (w ∷ [])) v))

    told_by : {w : Said} {e : Step} {k : ℕ} → Why known s w e → e ≡ refused k → Told known n ws w (number e)
    told_by (table.fine a b) h = cc
    told_by table.strange h = (faults.strange, λ j f. low2 f)
    told_by (table.misplaced {w = w} a b c d) h = (faults.misplaced a (nowhere w c), λ j f. low3 f b)
    told_by (table.unknown {x = x} q a b) h = (faults.unknown a, λ j f. low5 f (on (name' x) q b))
    told_by table.until h = (faults.until, λ j f. low7 f refl refl refl)
    told_by table.finally h = (faults.finally, λ j f. low7 f refl refl refl)
    told_by (table.deep {w = w} q a b c d e) h = (faults.deep (not_viable free w (free_walk i) d), λ j f. low8 f a b c (begins (walks_on free w (lift_walk (free_walk i)) e)))

    -- a word that is refused has the number as its lowest fault
    pub told : (w : Said) (k : ℕ) → step known s w ≡ refused k → Told known n ws w k
    told w k h = subst (Told known n ws w) (ap number h) (told_by (why known s w) h)

-- words that pass have no fault
pub clean : (known : Names) (n : ℕ) (ws : List Said) (s : State) → Walks known (start n) ws s → Clean known n ws
clean known n ws s i a v b e k f = let c = cut known a v b (subst (λ z. Walks known (start n) z s) e i) in faultless known n a c.0 c.2 c.1 f c.3

-- words with no fault pass
pub passes_all : (known : Names) (n : ℕ) (ws : List Said) → Clean known n ws → (s : State) × Walks known (start n) ws s
passes_all known n ws h = go (goes known ws (start n))
  where
    go : Goes known (start n) ws → (s : State) × Walks known (start n) ws s
    go (passed s i) = (s, i)
    go (broken a v b s k e i r) = absurd (h a v b e k (told known n a s i v k r).0)

abbrev pub told_number : End → ℕ
told_number accepts = 0
told_number (stops k rest) = k

len : (a b : List Said) → length (a ++ b) ≡ length a + length b
len [] b = omega arith
len (x ∷ a) b = omega (arith, len a b)

module _ (known : Names) (n : ℕ) (ws a : List Said) (v : Said) (b : List Said) (s : State) (k : ℕ) (e : ws ≡ a ++ (v ∷ b)) (i : Walks known (start n) a s) (r : step known s v ≡ refused k) where
  early : (rest : List Said) → run known (start n) (ws ++ rest) ≡ stops k (v ∷ (b ++ rest))
  early rest = ap (λ z. run known (start n) (z ++ rest)) e ∙ ap (run known (start n)) (append_assoc a (v ∷ b) rest) ∙ walks_run known i (v ∷ (b ++ rest)) ∙ stops_at known s v (b ++ rest) k r

  stop_here : run known (start n) ws ≡ stops k (v ∷ b)
  stop_here = ap (run known (start n)) e ∙ walks_run known i (v ∷ b) ∙ stops_at known s v b k r

module _ (known : Names) (n : ℕ) where
  module _ (ws : List Said) (w : Said) (rest : List Said) (k : ℕ) where
    pub word_wrong_to : run known (start n) (ws ++ (w ∷ rest)) ≡ stops k (w ∷ rest) → Clean known n ws × Told known n ws w k
    word_wrong_to h = go (goes known ws (start n))
      where
        at_word : (s : State) → Walks known (start n) ws s → (e : Step) → step known s w ≡ e → Clean known n ws × Told known n ws w k
        at_word s i (moves q) r =
            let same : left (run known q rest) ≡ length (w ∷ rest) = ap left (sym (walks_run known i (w ∷ rest) ∙ walks_run known {s = s} {s' = q} {ws = w ∷ []} (by r here) rest) ∙ h) in
            absurd (omega (arith, same, shorter known rest q))
        at_word s i (refused j) r =
            let same : j ≡ k = ap told_number (sym (walks_run known i (w ∷ rest) ∙ stops_at known s w rest j r) ∙ h) in
            (clean known n ws s i, subst (Told known n ws w) same (told known n ws s i w j r))

        go : Goes known (start n) ws → Clean known n ws × Told known n ws w k
        go (passed s i) = at_word s i (step known s w) refl
        go (broken a v b s j e i r) =
            let same : length (v ∷ (b ++ (w ∷ rest))) ≡ length (w ∷ rest) = ap left (sym (early known n ws a v b s j e i r (w ∷ rest)) ∙ h) in
            absurd (omega (arith, same, len b (w ∷ rest)))

    pub word_wrong_from : Clean known n ws × Told known n ws w k → run known (start n) (ws ++ (w ∷ rest)) ≡ stops k (w ∷ rest)
    word_wrong_from h = let p = passes_all known n ws h.0 in walks_run known p.1 (w ∷ rest) ∙ at_word p.0 p.1 (step known p.0 w) refl
      where
        at_word : (s : State) → Walks known (start n) ws s → (e : Step) → step known s w ≡ e → run known s (w ∷ rest) ≡ stops k (w ∷ rest)
        at_word s i (moves q) r = absurd (faultless known n ws s i q h.1.0 r)
        at_word s i (refused j) r =
            let t = told known n ws s i w j r in
            let one : j ≤ k = t.1 k h.1.0 in
            let two : k ≤ j = h.1.1 j t.0 in
            let same : j ≡ k = omega arith in
            stops_at known s w rest j r ∙ ap (λ z. stops z (w ∷ rest)) same

  module _ (ws : List Said) where
    -- what the end says behind words that pass
    at_last : (s : State) → Walks known (start n) ws s → run known (start n) ws ≡ at_end s
    at_last s i = ap (run known (start n)) (sym (append-nil ws)) ∙ walks_run known i []

    pub end_wrong_to : run known (start n) ws ≡ stops 3 [] → Clean known n ws × ((t : Rule) → ¬ Reads known n ws t)
    end_wrong_to h = (go (goes known ws (start n)), λ t d. not_both (accepted known d) h)
      where
        go : Goes known (start n) ws → Clean known n ws
        go (passed s i) = clean known n ws s i
        go (broken a v b s k e i r) = let same : length (v ∷ b) ≡ 0 = ap left (sym (stop_here known n ws a v b s k e i r) ∙ h) in absurd (omega arith)

    -- the end is refused with 3, or accepted
    last : (s : State) → (at_end s ≡ accepts → ⊥) → at_end s ≡ stops 3 []
    last (due m b os) h = refl
    last (named b os) h = refl
    last (done b []) h = absurd (h refl)
    last (done b (o ∷ os)) h = refl

    pub end_wrong_from : Clean known n ws × ((t : Rule) → ¬ Reads known n ws t) → run known (start n) ws ≡ stops 3 []
    end_wrong_from h =
        let p = passes_all known n ws h.0 in
        at_last p.0 p.1 ∙ last p.0 (λ e. let r = from_accepts known n ws (at_last p.0 p.1 ∙ e) in h.1 r.0 r.1)

    -- an outcome by what the machine comes to
    pub data Settled (a : Answer) : Type 0 where
      well : (t : Rule) → Reads known n ws t → tree t ≡ a → Settled a
      ill : (k : ℕ) (rest : List Said) → run known (start n) ws ≡ stops k rest → refusal k (length ws - length rest) ≡ a → Settled a

    pub settled : {a : Answer} → Outcome known n ws a → Settled a
    settled (reads {t = t} d) = well t d refl
    settled (word_refused pre w rest {k = k} e c t) =
        let h : length ws - length (w ∷ rest) ≡ length pre = omega (arith, ap length e, len pre (w ∷ rest)) in
        ill k (w ∷ rest) (ap (run known (start n)) e ∙ word_wrong_from pre w rest k (c, t)) (ap (refusal k) h)
    settled (end_refused c h) =
        let l : length ws - 0 ≡ length ws = omega arith in
        ill 3 [] (end_wrong_from (c, h)) (ap (refusal 3) l)

    agree_on : {a b : Answer} → Settled a → Settled b → a ≡ b
    agree_on (well t d e) (well u f g) = sym e ∙ ap tree (tree_one known n ws t u d f) ∙ g
    agree_on (well t d e) (ill k rest h g) = absurd (not_both (accepted known d) h)
    agree_on (ill k rest h g) (well t d e) = absurd (not_both (accepted known d) h)
    agree_on (ill k rest h g) (ill j more i e) = sym g ∙ ap answer (sym h ∙ i) ∙ e
      where
        answer : End → Answer
        answer accepts = refusal 0 0
        answer (stops k rest) = refusal k (length ws - length rest)

    pub outcome : (a : Answer) × Outcome known n ws a
    outcome = go (goes known ws (start n))
      where
        at_the_end : (s : State) → Walks known (start n) ws s → AText known n ws → (a : Answer) × Outcome known n ws a
        at_the_end s i (reader.reads t d) = (tree t, reads d)
        at_the_end s i (reader.stopped k rest h) = (refusal 3 (length ws), end_refused (clean known n ws s i) (λ t d. not_both (accepted known d) h))

        go : Goes known (start n) ws → (a : Answer) × Outcome known n ws a
        go (passed s i) = at_the_end s i (read known n ws)
        go (broken a v b s k e i r) = (refusal k (length a), word_refused a v b e (clean known n a s i) (told known n a s i v k r))

    pub outcome_one : (a : Answer) × Outcome known n ws a × ((b : Answer) → Outcome known n ws b → a ≡ b)
    outcome_one = let o = outcome in (o.0, o.1, λ b h. agree_on (settled o.1) (settled h))
