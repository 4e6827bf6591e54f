-- The game that a well-formed image draws is what its chains say.
use Rattle.std.proofs.Common.{◌≡◌, ℕ, zero, suc, ◌+◌, ◌-◌, ◌≤◌, true, false, cond, leb, List, [], ◌∷◌, ◌++◌, length, ◌≢◌, ◌⊎◌, sym, refl, ap, ap₂, ◌∙◌, subst, inl, inr, arith}
use Rattle.std.proofs.lemmas.List.{length-append}
use Rattle.std.proofs.lemmas.Bool.Decides.{nat_tests}
use Rattle.std.proofs.lemmas.Bool.{cases_lt, cases_eq, le-leb, cond-true, cond-false, cond_both}
use Rattle.terms.specs.declared.shape.Shape.{Shape}
use Rattle.arena.specs.Arena.{Arena, Place, Sound, beyond}
use Rattle.arena.specs.Diagram.{shape_of, head_at, next_at, input_of, output_of, destination_of, Record, Headed, Path, Chain, In, Distinct, Unrepeated, WellFormed, Draws, sought, drawable, told, drawn}
use Rattle.terms.specs.Bytes.{word}
use Rattle.arena.proofs.RangeLaws.{range_within}
use Rattle.arena.proofs.DiagramLaws.{told_all}
use Rattle.arena.proofs.ChainLaws.{in_parts, distinct_left, distinct_right, at_most, path_part, path_records, chain_once, chains_part}

-- ---- what is sought along a chain

module _ (h : Shape) (bs : List ℕ) (x y : ℕ) where
  -- the record r is for x and y
  abbrev pub For : ℕ → Type 0
  For r = (input_of h bs r ≡ x) × (output_of h bs r ≡ y)

  -- an index that is 0, or that names no record, finds nothing
  pub sought_none : (n k : ℕ) → (Record h (word bs k) → ⊥) → sought h bs n k x y ≡ 0
  unfolding sought
  sought_none zero k no_record = refl
  sought_none (suc n) k no_record = grind (arith, nat_tests)

  -- a record for another move is passed
  pub sought_past : (n k : ℕ) → Record h (word bs k) → (For (word bs k) → ⊥) → sought h bs (suc n) k x y ≡ sought h bs n (next_at h (word bs k)) x y
  unfolding sought
  sought_past n k i other = grind (arith, nat_tests)

  -- a record for the move is found
  pub sought_here : (n k : ℕ) → Record h (word bs k) → For (word bs k) → sought h bs (suc n) k x y ≡ cond (leb (destination_of h bs (word bs k)) h.size) (destination_of h bs (word bs k)) 0
  unfolding sought
  sought_here n k i this = grind (arith, nat_tests)

  -- a path of records for other moves is passed
  passes : (rs : List ℕ) (m n k j : ℕ) → m ≡ length rs + n → Path h bs k rs j → ((r : ℕ) → In r rs → For r → ⊥) → sought h bs m k x y ≡ sought h bs n j x y
  passes [] m n k j e p f = let s : m ≡ n = omega arith in cc
  passes (r ∷ rs) zero n k j e p f = absurd (omega arith)
  passes (r ∷ rs) (suc m) n k j e p f =
      sought_past m k (subst (Record h) (sym p.0) p.1) (λ w. f (word bs k) (inl p.0) w)
      ∙ ap (λ q. sought h bs m (next_at h q) x y) p.0
      ∙ passes rs m n (next_at h r) j (omega arith) p.2 (λ q i. f q (inr i))

  -- no record of the chain is for the move
  sought_nowhere : (rs : List ℕ) (m k j : ℕ) → length rs ≤ m → Path h bs k rs j → word bs j ≡ 0 → ((r : ℕ) → In r rs → For r → ⊥) → sought h bs m k x y ≡ 0
  sought_nowhere rs m k j l p z f = passes rs m (m - length rs) k j (omega arith) p f ∙ sought_none (m - length rs) j (λ i. omega (arith, i.0))

-- a record of a chain that repeats no move is found
sought_found : (h : Shape) (bs rs : List ℕ) (r m k j : ℕ) → length rs ≤ m → Path h bs k rs j → In r rs → Unrepeated h bs rs → destination_of h bs r ≤ h.size → sought h bs m k (input_of h bs r) (output_of h bs r) ≡ destination_of h bs r
sought_found h bs rs r m k j l p i fresh low =
    let s = in_parts rs r i in
    let long = ap length s.2 ∙ length-append s.0 (r ∷ s.1) in
    let q = path_part h bs s.0 (r ∷ s.1) k j (subst (λ xs. Path h bs k xs j) s.2 p) in
    let e : word bs q.0 ≡ r = q.2.0 in
    let n = m - length s.0 - 1 in
    passes h bs _ _ s.0 m (suc n) k q.0 (omega arith) q.1 (λ t g w. fresh s.0 r s.1 s.2 (t, g, w.0, w.1))
    ∙ sought_here h bs _ _ n q.0 (subst (Record h) (sym e) q.2.1) (ap (input_of h bs) e, ap (output_of h bs) e)
    ∙ rw e (cond-true _ _ _ (le-leb (destination_of h bs r) h.size low))

-- ---- the drawn game

-- a right header can be a game's
right_drawable : (bs : List ℕ) → Headed bs → (shape_of bs).size ≤ 255 → drawable (shape_of bs) ≡ true
unfolding drawable
right_drawable bs d small =
    let inputs = (d.right 0).inputs refl in
    let outputs = (d.right 1).outputs refl in
    let start = (d.right 3).start refl in
    grind (arith, nat_tests)

-- a chain of a well-formed image has no more records than there are
chain_short : (bs : List ℕ) → WellFormed bs → (p : ℕ) (rs : List ℕ) → 1 ≤ p → p ≤ (shape_of bs).size → Chain (shape_of bs) bs p rs → length rs ≤ (shape_of bs).records
chain_short bs w p rs l g c =
    let h = shape_of bs in
    let e : suc (p - 1) ≡ p = omega arith in
    let s = chains_part h bs h.size w.records w.linked.chains (p - 1) (omega arith) in
    let t : s.1 ≡ rs = chain_once h bs p s.1 rs (subst (λ n. Chain h bs n s.1) e s.4) c in
    let d = distinct_left s.1 s.2 (distinct_right s.0 (s.1 ++ s.2) (subst Distinct s.5 w.linked.apart)) in
    at_most rs h.records (subst Distinct t d) (path_records h bs rs (head_at p) c.0 c.1)

-- the drawn arena of a well-formed image is the game that it draws
pub drawn_draws : (bs : List ℕ) → WellFormed bs → (shape_of bs).size ≤ 255 → Draws bs (drawn (shape_of bs) bs)
drawn_draws bs w small =
    let h = shape_of bs in
    let f = w.linked.fielded in
    let d = right_drawable bs f.measured.headed small in
    let size = told_all h h.size d in
    let inputs = told_all h h.inputs d in
    let outputs = told_all h h.outputs d in
    record {
      size = size;
      inputs = inputs;
      outputs = outputs;
      start = told_all h h.start d;
      move = λ p rs r at c i.
          let within : p ≤ h.size = omega (arith, at.1) in
          let is = path_records h bs rs (head_at p) c.0 c.1 r i in
          let low-in = (f.right _).input r is refl in
          let low-out = (f.right _).output r is refl in
          let low = ((f.right _).destination r is refl).1 in
          let found = sought_found h bs rs r h.records (head_at p) c.0 (chain_short bs w p rs at.0 within c) c.1 i (w.unrepeated p rs at.0 within c) low in
          let b : beyond (told h h.size) (told h h.inputs) (told h h.outputs) p (input_of h bs r) (output_of h bs r) ≡ false = rw (size, inputs, outputs) (range_within _ _ _ p _ _ at.0 within low-in low-out) in
          cond-false _ _ _ b ∙ found;
      no_move = λ p rs x y at c n.
          let within : p ≤ h.size = omega (arith, at.1) in
          let none = sought_nowhere h bs x y rs h.records (head_at p) c.0 (chain_short bs w p rs at.0 within c) c.1 c.2 (λ r i v. n r i v.0 v.1) in
          cond_both _ _ _ (λ q. q ≡ 0) (λ _. refl) (λ _. none);
    }

-- ---- one game is drawn

module _ (h : Shape) (bs : List ℕ) (x y : ℕ) where
  -- the record is not for x and y
  abbrev Else : ℕ → Type 0
  Else r = input_of h bs r ≡ x → output_of h bs r ≢ y

  -- one of these records is for x and y, or none is
  for_move : (rs : List ℕ) → ((r : ℕ) × In r rs × For h bs x y r) ⊎ ((r : ℕ) → In r rs → Else r)
  for_move [] = inr (λ r i. absurd i)
  for_move (q ∷ rs) = go (cases_eq (input_of h bs q) x) (cases_eq (output_of h bs q) y) (for_move rs)
    where
      later : ((r : ℕ) × In r rs × For h bs x y r) ⊎ ((r : ℕ) → In r rs → Else r) → Else q → ((r : ℕ) × In r (q ∷ rs) × For h bs x y r) ⊎ ((r : ℕ) → In r (q ∷ rs) → Else r)
      later (inl f) n = inl (f.0, inr f.1, f.2)
      later (inr f) n = inr (λ r i. elim i [ inl same ↦ subst Else (sym same) n | inr j ↦ f r j ])

      go : (input_of h bs q ≡ x) ⊎ (input_of h bs q ≢ x) → (output_of h bs q ≡ y) ⊎ (output_of h bs q ≢ y)
          → ((r : ℕ) × In r rs × For h bs x y r) ⊎ ((r : ℕ) → In r rs → Else r)
          → ((r : ℕ) × In r (q ∷ rs) × For h bs x y r) ⊎ ((r : ℕ) → In r (q ∷ rs) → Else r)
      go (inl e) (inl o) f = inl (q, inl refl, (e, o))
      go (inl e) (inr n) f = later f (λ _. n)
      go (inr n) o f = later f (λ e. absurd (n e))

-- each position of a well-formed image has a chain
chain_at : (bs : List ℕ) → WellFormed bs → (p : ℕ) → 1 ≤ p → p ≤ (shape_of bs).size → (rs : List ℕ) × Chain (shape_of bs) bs p rs
chain_at bs w p l g =
    let h = shape_of bs in
    let e : suc (p - 1) ≡ p = omega arith in
    let s = chains_part h bs h.size w.records w.linked.chains (p - 1) (omega arith) in
    (s.1, subst (λ n. Chain h bs n s.1) e s.4)

module _ (bs : List ℕ) (w : WellFormed bs) (a b : Arena) (s : Sound a) (t : Sound b) (d : Draws bs a) (e : Draws bs b) where
  chain_moves : (p : ℕ) (rs : List ℕ) (x y : ℕ) → Place a p → Place b p → Chain (shape_of bs) bs p rs → a.move p x y ≡ b.move p x y
  chain_moves p rs x y i j c = elim (for_move (shape_of bs) bs x y rs) [
    | inl f ↦ (
        let same : (g : ℕ → ℕ → ℕ) → g (input_of (shape_of bs) bs f.0) (output_of (shape_of bs) bs f.0) ≡ g x y = λ g. ap₂ g f.2.0 f.2.1 in
        sym (same (λ u v. a.move p u v)) ∙ d.move p rs f.0 i c f.1 ∙ sym (e.move p rs f.0 j c f.1) ∙ same (λ u v. b.move p u v))
    | inr f ↦ d.no_move p rs x y i c f ∙ sym (e.no_move p rs x y j c f)
  ]

  moves_once : (p x y : ℕ) → a.move p x y ≡ b.move p x y
  moves_once zero x y = s.walks.from_lost x y ∙ sym (t.walks.from_lost x y)
  moves_once (suc p) x y = elim (cases_lt (shape_of bs).size (suc p)) [
    | inl g ↦ s.sized.past_size _ x y (omega (arith, d.size)) ∙ sym (t.sized.past_size _ x y (omega (arith, e.size)))
    | inr l ↦ (
        let c = chain_at bs w (suc p) (omega arith) l in
        chain_moves (suc p) c.0 x y (omega arith, omega (arith, d.size)) (omega arith, omega (arith, e.size)) c.1)
  ]

  -- a well-formed image draws one game
  pub draws_once : a ≡ b
  draws_once = λ i. record {
    size = (d.size ∙ sym e.size) i;
    inputs = (d.inputs ∙ sym e.inputs) i;
    outputs = (d.outputs ∙ sym e.outputs) i;
    start = (d.start ∙ sym e.start) i;
    move = λ p x y. moves_once p x y i;
  }
