-- Steps of reading a diagram: what each turn of a loop adds, and what the ends of the loops say of the image.
use Rattle.std.proofs.Common.{◌≡◌, ℕ, zero, suc, ◌+◌, ◌-◌, ◌*◌, ◌^◌, ◌<◌, ◌≤◌, Bool, true, false, List, [], ◌∷◌, ◌++◌, length, get_or, set, replicate, is_ok, IsErrAnd, Ok, Err, Result, sym, refl, ap, ◌∙◌, subst, inl, inr, arith, pow_mono, MatchResult}
use Rattle.std.proofs.lemmas.List.{append_assoc, get_or-set_same, get_or-set_other}
use Rattle.std.proofs.lemmas.Bool.Decides.{nat_tests}
use Rattle.std.proofs.lemmas.Bool.{cases_lt, cases_eq, cases_Bool, true≢false, le-leb, cond-true}
use Rattle.terms.specs.declared.shape.Shape.{Shape}
use Rattle.terms.specs.declared.refusal.Refusal.{Refusal}
use Rattle.terms.specs.declared.refusal.Refusal.TheVariants.{DiagramField}
use Rattle.arena.specs.Arena.{Arena, Sound}
use Rattle.arena.specs.Diagram.{shape_of, head_at, record_at, next_at, input_of, output_of, Record, RecordRight, Fielded, Path, Chain, Chains, Distinct, Linked, Unrepeated, WellFormed, First, IndexWrong, Unreached, Repeated, Refused, Draws, sought, drawable}
use Rattle.terms.specs.Bytes.{byte, word}
use Rattle.arena.proofs.ChainLaws.{in_left, in_right, in_either, distinct_push, path_push, chain_once, chains_part, unrepeated_none, unrepeated_push}
use Rattle.arena.proofs.DrawnLaws.{sought_here, sought_past}
use Rattle.arena.proofs.OutcomeLaws.{one_refusal, well_formed_not_refused}
use Rattle.game.specs.Reading.{RefusesFirst, RightBelow, Marks, Followed, ChainWhole, ChainBroken, ChainsWhole, ChainsBroken, MoveNumber, MovesMarked, Met, ChainRepeats, ChainsFresh, ChainsRepeat}

-- ---- fields

-- where the fields before the record r are right, and those that begin in its first n bytes, all before the byte n are
pub right_part : (h : Shape) (bs : List ℕ) (r k n : ℕ) → Record h r → k ≡ record_at h r → n ≤ 8 → RightBelow h bs (record_at h r) → (0 < n → byte bs k < 2 ^ h.inputs) × (1 < n → byte bs (k + 1) < 2 ^ h.outputs) × (2 < n → (1 ≤ byte bs (k + 2)) × (byte bs (k + 2) ≤ h.size)) × (3 < n → byte bs (k + 3) ≡ 0) × (6 < n → word bs (k + 6) ≡ 0) → RightBelow h bs (k + n)
right_part h bs r k n is at most below f j l = elim (cases_lt j (record_at h r)) [
  | inl b ↦ below j b
  | inr b ↦ record {
    input = λ q i e. let s : j ≡ k = omega arith in rw s (f.0 (omega arith));
    output = λ q i e. let s : j ≡ k + 1 = omega arith in rw s (f.1 (omega arith));
    destination = λ q i e. let s : j ≡ k + 2 = omega arith in rw s (f.2 (omega arith));
    gap = λ q i e. let s : j ≡ k + 3 = omega arith in rw s (f.3 (omega arith));
    tail = λ q i e. let s : j ≡ k + 6 = omega arith in rw s (f.4 (omega arith));
  }
]

-- behind the last record every place is right
pub right_all : (h : Shape) (bs : List ℕ) (r : ℕ) → h.records < r → RightBelow h bs (record_at h r) → (j : ℕ) → RecordRight h bs j
right_all h bs r past below j = elim (cases_lt j (record_at h r)) [
  | inl b ↦ below j b
  | inr b ↦ record {
    input = λ q i e. absurd (omega arith);
    output = λ q i e. absurd (omega arith);
    destination = λ q i e. absurd (omega arith);
    gap = λ q i e. absurd (omega arith);
    tail = λ q i e. absurd (omega arith);
  }
]

-- a call that passes on the refusal of a field that is wrong, behind which all are right, refuses the first wrong one
pub passed_first : {T : Type 0} {h : Shape} {bs : List ℕ} {k : ℕ} (r : Result T Refusal) (d : Refusal) (P : T → Type 0) → RightBelow h bs k → IsErrAnd r (λ f. f ≡ d) → d ≡ DiagramField k → (RecordRight h bs k → ⊥) → MatchResult r P (RefusesFirst (λ j. RecordRight h bs j → ⊥))
passed_first (Ok x) d P below is e wrong = absurd is
passed_first {k = k} (Err g) d P below is e wrong = (k, is ∙ e, (wrong, λ j l not. not (below j l)))

-- ---- marks of records

-- nothing is marked at first
pub unmarked : (n i : ℕ) → get_or (replicate n false) i false ≡ false
unmarked zero i = refl
unmarked (suc n) zero = refl
unmarked (suc n) (suc i) = unmarked n i

-- one more record is marked
pub marks_more : (h : Shape) (marks : List Bool) (qs : List ℕ) (r : ℕ) → Marks h marks qs → Record h r → r < length marks → Marks h (set marks r true) (qs ++ r ∷ [])
marks_more h marks qs r m i l = record {
  listed = λ q g. elim (cases_eq q r) [
    | inl e ↦ (subst (Record h) (sym e) i, rw e (get_or-set_same marks r true false l))
    | inr ne ↦ elim (in_either qs (r ∷ []) q g) [
      | inl g ↦ ((m.listed q g).0, get_or-set_other marks r q true false ne ∙ (m.listed q g).1)
      | inr (inl e) ↦ absurd (ne e)
      | inr (inr z) ↦ absurd z
    ]
  ];
  marked = λ q g t. elim (cases_eq q r) [
    | inl e ↦ in_right qs (r ∷ []) q (inl e)
    | inr ne ↦ in_left qs (r ∷ []) q (m.marked q g (sym (get_or-set_other marks r q true false ne) ∙ t))
  ];
}

module _ (h : Shape) (bs : List ℕ) (p : ℕ) (qs : List ℕ) where
  -- one more record is followed
  pub followed_more : (marks : List Bool) (k r j : ℕ) → Followed h bs p qs k marks → r ≡ word bs k → Record h r → r < length marks → get_or marks r false ≡ false → j ≡ next_at h r → Followed h bs p qs j (set marks r true)
  followed_more marks k r j f w i l u e =
      let more = append_assoc qs f.along (r ∷ []) in
      record {
        along = f.along ++ r ∷ [];
        path = rw e (path_push h bs f.along r (head_at p) k f.path (sym w) i);
        apart = subst Distinct more (distinct_push (qs ++ f.along) r f.apart (λ g. true≢false (sym (f.seen.listed r g).1 ∙ u)));
        seen = subst (Marks h (set marks r true)) more (marks_more h marks (qs ++ f.along) r f.seen i l);
      }

-- ---- whole chains

-- no chain is followed, and nothing is marked
pub chains_none : (h : Shape) (bs : List ℕ) (marks : List Bool) → ((r : ℕ) → get_or marks r false ≡ false) → ChainsWhole h bs 0 marks
chains_none h bs marks f = record {
  records = [];
  chains = refl;
  apart = tt;
  seen = record { listed = λ r i. absurd i; marked = λ r i t. absurd (true≢false (sym t ∙ f r)) };
}

-- one more chain is whole
pub chains_more : (h : Shape) (bs : List ℕ) (p k : ℕ) (marks new : List Bool) → 1 ≤ p → k ≡ p → ChainsWhole h bs (p - 1) marks → ((qs : List ℕ) → Distinct qs → Marks h marks qs → ChainWhole h bs p qs new) → ChainsWhole h bs k new
chains_more h bs p k marks new l same c more =
    let d = more c.records c.apart c.seen in
    let e : suc (p - 1) ≡ k = omega arith in
    record {
      records = c.records ++ d.records;
      chains = subst (λ n. Chains h bs n (c.records ++ d.records)) e (c.records, d.records, c.chains, subst (λ n. Chain h bs n d.records) (omega arith) d.chain, refl);
      apart = d.apart;
      seen = d.seen;
    }

-- an index of one more chain is wrong
pub chains_broken : (h : Shape) (bs : List ℕ) (p k : ℕ) (marks : List Bool) → 1 ≤ p → p ≤ h.size → (c : ChainsWhole h bs (p - 1) marks) → ChainBroken h bs p c.records k → ChainsBroken h bs k
chains_broken h bs p k marks l g c d =
    let e : suc (p - 1) ≡ p = omega arith in
    record { position = p - 1; more = omega arith; before = c.records; chains = c.chains; broken = subst (λ n. ChainBroken h bs n c.records k) (sym e) d }

-- ---- what whole and broken chains say of the image

module _ (h : Shape) (bs : List ℕ) (fielded : Fielded bs) (same : h ≡ shape_of bs) where
  -- an index is wrong
  pub broken_refused : (k : ℕ) → ChainsBroken h bs k → IndexWrong bs k
  broken_refused k b =
      let c = subst (λ s. ChainsBroken s bs k) same b in
      record { fielded = fielded; position = c.position; more = c.more; before = c.before; along = c.broken.along; chains = c.chains; path = c.broken.path; apart = c.broken.apart; wrong = c.broken.wrong }

  -- a record is missed
  pub missed_refused : (marks : List Bool) (r k : ℕ) → ChainsWhole h bs h.size marks → First (λ q. Record h q × (get_or marks q false ≡ false)) r → k ≡ record_at h r → Unreached bs k
  missed_refused marks r k w f e =
      let c = subst (λ s. ChainsWhole s bs s.size marks) same w in
      let g = subst (λ s. First (λ q. Record s q × (get_or marks q false ≡ false)) r) same f in
      record {
        fielded = fielded;
        records = c.records;
        chains = c.chains;
        apart = c.apart;
        missed = r;
        first = (
          (g.0.0, λ i. true≢false (sym (c.seen.listed r i).1 ∙ g.0.1)),
          λ j l i. g.1 j l (i.0, elim (cases_Bool (get_or marks j false)) [ inl t ↦ absurd (i.1 (c.seen.marked j i.0 t)) | inr u ↦ u ]),
        );
        at = e ∙ ap (λ s. record_at s r) same;
      }

  -- each position has a chain, where every record is in one
  pub linked_chain : (p : ℕ) → 1 ≤ p → p ≤ h.size → (rs : List ℕ) × Linked bs rs → (ts : List ℕ) × Chain h bs p ts
  linked_chain p l g w =
      let e : suc (p - 1) ≡ p = omega arith in
      let c = subst (λ s. Chains s bs s.size w.0) (sym same) w.1.chains in
      let s = chains_part h bs h.size w.0 c (p - 1) (omega arith) in
      (s.1, subst (λ n. Chain h bs n s.1) e s.4)

  -- a record repeats a move
  pub repeat_refused : (r k : ℕ) → (rs : List ℕ) × Linked bs rs → ChainsRepeat h bs r → k ≡ record_at h r → Repeated bs k
  repeat_refused r k w f e =
      let c = subst (λ s. ChainsRepeat s bs r) same f in
      record {
        records = w.0;
        linked = w.1;
        position = c.position;
        more = c.more;
        before = c.before;
        along = c.repeats.along;
        again = r;
        path = c.repeats.path;
        fresh = c.repeats.fresh;
        repeats = c.repeats.repeats;
        at = e ∙ ap (λ s. record_at s r) same;
      }

  -- no record does
  pub fresh_well_formed : (rs : List ℕ) × Linked bs rs → ChainsFresh h bs h.size → WellFormed bs
  fresh_well_formed w f = record { records = w.0; linked = w.1; unrepeated = subst (λ s. ChainsFresh s bs s.size) same f }

-- ---- fresh chains

-- one more chain repeats no move
pub fresh_more : (h : Shape) (bs : List ℕ) (p k : ℕ) → k ≡ p → ChainsFresh h bs (p - 1) → ((rs : List ℕ) → Chain h bs p rs → Unrepeated h bs rs) → ChainsFresh h bs k
fresh_more h bs p k same f g q rs l i c = elim (cases_eq q p) [
  | inl e ↦ g rs (subst (λ n. Chain h bs n rs) e c)
  | inr ne ↦ f q rs l (omega arith) c
]

-- a record of one more chain does
pub fresh_repeat : (h : Shape) (bs : List ℕ) (p r : ℕ) → 1 ≤ p → p ≤ h.size → ChainsFresh h bs (p - 1) → ChainRepeats h bs p r → ChainsRepeat h bs r
fresh_repeat h bs p r l g f c =
    let e : suc (p - 1) ≡ p = omega arith in
    record { position = p - 1; more = omega arith; before = f; repeats = subst (λ n. ChainRepeats h bs n r) (sym e) c }

-- ---- moves

-- a record of a right image leads to a position
pub destination_low : (h : Shape) (bs : List ℕ) (r j : ℕ) → Fielded bs → h ≡ shape_of bs → Record h r → j ≡ record_at h r → byte bs (j + 2) ≤ h.size
destination_low h bs r j f e i at =
    let low = ((f.right _).destination r (subst (λ s. Record s r) e i) refl).1 in
    rw (at, e) low

-- a record of a right image is for an input and an output below 16
pub move_low : (h : Shape) (bs : List ℕ) (r : ℕ) → Fielded bs → h ≡ shape_of bs → Record h r → (input_of h bs r < 16) × (output_of h bs r < 16)
move_low h bs r f e i =
    let g = shape_of bs in
    let is = subst (λ s. Record s r) e i in
    let few_in : 2 ^ g.inputs ≤ 2 ^ 4 = pow_mono ((f.measured.headed.right 0).inputs refl) in
    let few_out : 2 ^ g.outputs ≤ 2 ^ 4 = pow_mono ((f.measured.headed.right 1).outputs refl) in
    let low-in = (f.right _).input r is refl in
    let low-out = (f.right _).output r is refl in
    subst (λ s. (input_of s bs r < 16) × (output_of s bs r < 16)) (sym e) (omega arith, omega arith)

-- so its two bytes make the number of its move
pub move_number : (h : Shape) (bs : List ℕ) (r j x y : ℕ) → Fielded bs → h ≡ shape_of bs → Record h r → j ≡ record_at h r → x ≡ byte bs j → y ≡ byte bs (j + 1) → MoveNumber h bs r (16 * x + y)
move_number h bs r j x y f same i at a b =
    let low = move_low h bs r f same i in
    record { input = low.0; output = low.1; is = rw (a, b, at) refl }

-- one more move is marked
pub moves_more : (h : Shape) (bs : List ℕ) (marks : List Bool) (qs : List ℕ) (r n : ℕ) → MovesMarked h bs marks qs → MoveNumber h bs r n → n < length marks → MovesMarked h bs (set marks n true) (qs ++ r ∷ [])
moves_more h bs marks qs r n m a l = record {
  listed = λ q g. elim (cases_eq (16 * input_of h bs q + output_of h bs q) n) [
    | inl s ↦ rw s (get_or-set_same marks n true false l)
    | inr ne ↦ elim (in_either qs (r ∷ []) q g) [
      | inl i ↦ get_or-set_other marks n _ true false ne ∙ m.listed q i
      | inr (inl s) ↦ absurd (ne (ap (λ t. 16 * input_of h bs t + output_of h bs t) s ∙ sym a.is))
      | inr (inr z) ↦ absurd z
    ]
  ];
  marked = λ x y i o t. elim (cases_eq (16 * x + y) n) [
    | inl s ↦ (r, in_right qs (r ∷ []) r (inl refl), omega arith, omega arith)
    | inr ne ↦ (
        let q = m.marked x y i o (sym (get_or-set_other marks n (16 * x + y) true false ne) ∙ t) in
        (q.0, in_left qs (r ∷ []) q.0 q.1, q.2, q.3))
  ];
}

module _ (h : Shape) (bs : List ℕ) (p : ℕ) where
  -- nothing of the chain is met yet
  pub met_none : (marks : List Bool) (k : ℕ) → ((n : ℕ) → get_or marks n false ≡ false) → k ≡ head_at p → (rs : List ℕ) × Chain h bs p rs → Met h bs p k marks
  met_none marks k f e c = record {
    along = [];
    path = sym e;
    seen = record { listed = λ q i. absurd i; marked = λ x y i o t. absurd (true≢false (sym t ∙ f _)) };
    fresh = unrepeated_none h bs;
    rest = c.0;
    last = c.1.0;
    ahead = subst (λ j. Path h bs j c.0 c.1.0) (sym e) c.1.1;
    ends = c.1.2;
  }

  -- behind an index that names a record the chain goes on
  met_next : (marks : List Bool) (k : ℕ) (m : Met h bs p k marks) → Record h (word bs k) → (ts : List ℕ) × Path h bs (next_at h (word bs k)) ts m.last
  met_next marks k m i = go m.rest m.ahead
    where
      go : (rest : List ℕ) → Path h bs k rest m.last → (ts : List ℕ) × Path h bs (next_at h (word bs k)) ts m.last
      go [] z = absurd (omega (arith, ap (word bs) z, m.ends, i.0))
      go (q ∷ rest) c = (rest, subst (λ v. Path h bs (next_at h v) rest m.last) (sym c.0) c.2)

  -- and it ends at one that names none
  met_ends : (marks : List Bool) (k : ℕ) (m : Met h bs p k marks) → (Record h (word bs k) → ⊥) → word bs k ≡ 0
  met_ends marks k m n = go m.rest m.ahead
    where
      go : (rest : List ℕ) → Path h bs k rest m.last → word bs k ≡ 0
      go [] z = ap (word bs) z ∙ m.ends
      go (q ∷ rest) c = absurd (n (subst (Record h) (sym c.0) c.1))

  -- the record repeats a move
  pub met_again : (marks : List Bool) (k n : ℕ) → Met h bs p k marks → Record h (word bs k) → MoveNumber h bs (word bs k) n → get_or marks n false ≡ true → ChainRepeats h bs p (word bs k)
  met_again marks k n m i a t = record {
    along = m.along;
    path = path_push h bs m.along (word bs k) (head_at p) k m.path refl i;
    fresh = m.fresh;
    repeats = m.seen.marked _ _ a.input a.output (rw a.is at t);
  }

  -- one more record is met
  pub met_more : (marks : List Bool) (k n j : ℕ) → Met h bs p k marks → Record h (word bs k) → MoveNumber h bs (word bs k) n → n < length marks → get_or marks n false ≡ false → j ≡ next_at h (word bs k) → Met h bs p j (set marks n true)
  met_more marks k n j m i a g u at =
      let next = met_next marks k m i in
      record {
        along = m.along ++ word bs k ∷ [];
        path = rw at (path_push h bs m.along (word bs k) (head_at p) k m.path refl i);
        seen = moves_more h bs marks m.along (word bs k) n m.seen a g;
        fresh = unrepeated_push h bs m.along (word bs k) m.fresh (λ again.
            let same : 16 * input_of h bs again.0 + output_of h bs again.0 ≡ n = omega (arith, again.2, again.3, a.is) in
            true≢false (sym (m.seen.listed again.0 again.1) ∙ ap (λ v. get_or marks v false) same ∙ u));
        rest = next.0;
        last = m.last;
        ahead = rw at next.1;
        ends = m.ends;
      }

  -- the chain ends
  pub met_whole : (marks : List Bool) (k : ℕ) → Met h bs p k marks → (Record h (word bs k) → ⊥) → (rs : List ℕ) → Chain h bs p rs → Unrepeated h bs rs
  met_whole marks k m n rs c = subst (Unrepeated h bs) (chain_once h bs p m.along rs (k, m.path, met_ends marks k m n) c) m.fresh

-- ---- the drawn game

-- the numbers of a right header are a game's
pub right_drawable : (bs : List ℕ) → Fielded bs → (shape_of bs).size ≤ 255 → drawable (shape_of bs) ≡ true
unfolding drawable
right_drawable bs f small =
    let right = f.measured.headed.right in
    let inputs = (right 0).inputs refl in
    let outputs = (right 1).outputs refl in
    let start = (right 3).start refl in
    grind (arith, nat_tests)

-- ---- the search for a move

-- the search from k finds v, and the record that the index at k names stands at the place j
module _ (h : Shape) (bs : List ℕ) (k : ℕ) {x y m j v : ℕ} (left : 1 ≤ m) (is : Record h (word bs k)) (at : j ≡ record_at h (word bs k)) (found : sought h bs m k x y ≡ v) where
  -- it is for the move, and leads to a position
  pub seek_here : byte bs j ≡ x → byte bs (j + 1) ≡ y → byte bs (j + 2) ≤ h.size → byte bs (j + 2) ≡ v
  seek_here a b low =
      let s : m ≡ suc (m - 1) = omega arith in
      sym (rw (s, at) (sought_here h bs x y (m - 1) k is (rw at at a, rw at at b) ∙ cond-true _ _ _ (le-leb _ _ (rw at at low)))) ∙ found

  -- it is for another
  pub seek_past : {n : ℕ} → n ≡ m - 1 → ((byte bs j ≡ x) × (byte bs (j + 1) ≡ y) → ⊥) → sought h bs n (j + 4) x y ≡ v
  seek_past {n} e other =
      let s : m ≡ suc n = omega arith in
      sym (rw (s, at) (sought_past h bs x y n k is (rw at at other))) ∙ found

-- ---- the outcome

-- a call that passes the refusal d on refuses the image
pub passed_on : {T : Type 0} (bs : List ℕ) (d : Refusal) (r : Result T Refusal) (P : T → Type 0) → IsErrAnd r (λ f. f ≡ d) → Refused bs d → MatchResult r P (λ f. Refused bs f)
passed_on bs d (Ok x) P is w = absurd is
passed_on bs d (Err f) P is w = subst (Refused bs) (sym is) w

-- a call that passes the refusal d on has the one outcome of the image
pub passed : {T : Type 0} (bs : List ℕ) (d : Refusal) (r : Result T Refusal) (P : T → Type 0) (Q : Arena → T → Type 0) → IsErrAnd r (λ f. f ≡ d) → Refused bs d → record { outcome : MatchResult r P (λ f. Refused bs f); only : (a : Arena) → Sound a → Draws bs a → MatchResult r (Q a) (λ f. Refused bs f); served : WellFormed bs → is_ok r ≡ true; refused : (e : Refusal) → Refused bs e → MatchResult r (λ _. ⊥) (λ f. f ≡ e) }
passed bs d (Ok x) P Q is w = absurd is
passed bs d (Err f) P Q is w = record {
  only = λ a s v. subst (Refused bs) (sym is) w;
  outcome = subst (Refused bs) (sym is) w;
  served = λ v. absurd (well_formed_not_refused bs d v w);
  refused = λ e v. is ∙ one_refusal bs d e w v;
}
