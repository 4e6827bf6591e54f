-- Reading an image has one outcome: a well-formed image is not refused, and no image is refused in two ways.
use Rattle.std.proofs.Common.{◌≡◌, ℕ, suc, ◌<◌, ◌⊎◌, List, [], ◌∷◌, ◌++◌, sym, refl, ap, ◌∙◌, subst, inl, inr, arith}
use Rattle.std.proofs.lemmas.List.{append_assoc}
use Rattle.std.proofs.lemmas.Bool.{cases_order}
use Rattle.terms.specs.declared.shape.Shape.{Shape}
use Rattle.terms.specs.declared.refusal.Refusal.{Refusal}
use Rattle.terms.specs.declared.refusal.Refusal.TheVariants.{DiagramField, DiagramChain, DiagramRepeat}
use Rattle.arena.specs.Diagram.{shape_of, head_at, record_at, next_at, Record, RecordRight, HeaderRight, Fielded, Path, Chain, Chains, In, Distinct, Linked, Repeats, Unrepeated, WellFormed, First, FieldWrong, IndexWrong, Unreached, Repeated, Refused}
use Rattle.terms.specs.Bytes.{word}
use Rattle.arena.proofs.ChainLaws.{distinct_left, distinct_apart, in_either, path_part, path_records, fork, chain_begins, chains_once, chains_part, chains_records}

-- a kind has one first number
pub first_once : (P : ℕ → Type 0) (k j : ℕ) → First P k → First P j → k ≡ j
first_once P k j f g = elim (cases_order k j) [
  | inl e ↦ e
  | inr (inl l) ↦ absurd (g.1 k l f.0)
  | inr (inr l) ↦ absurd (f.1 j l g.0)
]

-- ---- fields

-- where a field is wrong they are not all right
field_not_right : (bs : List ℕ) (k : ℕ) → FieldWrong bs k → Fielded bs → ⊥
field_not_right bs k (FieldWrong.cut s e) f = omega (arith, f.measured.headed.whole)
field_not_right bs k (FieldWrong.header s n) f = n.0 (f.measured.headed.right k)
field_not_right bs k (FieldWrong.misfit d n e) f = n f.measured.long
field_not_right bs k (FieldWrong.field m n) f = n.0 (f.right k)

-- one field is the first that is wrong
field_once : (bs : List ℕ) (k j : ℕ) → FieldWrong bs k → FieldWrong bs j → k ≡ j
field_once bs k j (FieldWrong.cut s e) (FieldWrong.cut t f) = e ∙ sym f
field_once bs k j (FieldWrong.cut s e) (FieldWrong.header t n) = absurd (omega arith)
field_once bs k j (FieldWrong.cut s e) (FieldWrong.misfit d n f) = absurd (omega (arith, d.whole))
field_once bs k j (FieldWrong.cut s e) (FieldWrong.field m n) = absurd (omega (arith, m.headed.whole))
field_once bs k j (FieldWrong.header s n) (FieldWrong.cut t f) = absurd (omega arith)
field_once bs k j (FieldWrong.header s n) (FieldWrong.header t m) = first_once (λ i. HeaderRight bs i → ⊥) k j n m
field_once bs k j (FieldWrong.header s n) (FieldWrong.misfit d m f) = absurd (n.0 (d.right k))
field_once bs k j (FieldWrong.header s n) (FieldWrong.field m f) = absurd (n.0 (m.headed.right k))
field_once bs k j (FieldWrong.misfit d n e) (FieldWrong.cut t f) = absurd (omega (arith, d.whole))
field_once bs k j (FieldWrong.misfit d n e) (FieldWrong.header t m) = absurd (m.0 (d.right j))
field_once bs k j (FieldWrong.misfit d n e) (FieldWrong.misfit c m f) = e ∙ sym f
field_once bs k j (FieldWrong.misfit d n e) (FieldWrong.field m f) = absurd (n m.long)
field_once bs k j (FieldWrong.field m n) (FieldWrong.cut t f) = absurd (omega (arith, m.headed.whole))
field_once bs k j (FieldWrong.field m n) (FieldWrong.header t f) = absurd (f.0 (m.headed.right j))
field_once bs k j (FieldWrong.field m n) (FieldWrong.misfit d f e) = absurd (f m.long)
field_once bs k j (FieldWrong.field m n) (FieldWrong.field l f) = first_once (λ i. RecordRight (shape_of bs) bs i → ⊥) k j n f

-- ---- indices

module _ (h : Shape) (bs : List ℕ) where
  -- the index at k names no record, or one of qs
  abbrev Wrong : ℕ → List ℕ → Type 0
  Wrong k qs = (h.records < word bs k) ⊎ In (word bs k) qs

  -- no path of other records goes on behind a wrong index
  blocked : (qs us : List ℕ) (k j : ℕ) → Wrong k qs → Path h bs k us j → Distinct (qs ++ us) → k ≡ j
  blocked qs [] k j w p d = p
  blocked qs (u ∷ us) k j (inl l) p d = absurd (omega (arith, p.0, p.1.1))
  blocked qs (u ∷ us) k j (inr i) p d = absurd (distinct_apart qs (u ∷ us) u d (subst (λ x. In x qs) p.0 i) (inl refl))

  -- a wrong index ends no chain
  wrong_not_end : (qs : List ℕ) (k : ℕ) → Wrong k qs → ((r : ℕ) → In r qs → Record h r) → word bs k ≡ 0 → ⊥
  wrong_not_end qs k (inl l) f z = omega arith
  wrong_not_end qs k (inr i) f z = omega (arith, (f (word bs k) i).0)

  -- behind the same records, two wrong indices are one
  wrong_once : (qs os ts : List ℕ) (k j : ℕ) → Wrong k (qs ++ os) → Distinct (qs ++ ts) → (us : List ℕ) × (ts ≡ os ++ us) × Path h bs k us j → k ≡ j
  wrong_once qs os ts k j w d u = blocked (qs ++ os) u.0 k j w u.2 (rw append_assoc (subst (λ xs. Distinct (qs ++ xs)) u.1 d))

-- whole chains pass no wrong index
index_not_whole : (bs : List ℕ) (k n : ℕ) (rs : List ℕ) (w : IndexWrong bs k) → Chains (shape_of bs) bs n rs → Distinct rs → w.position < n → ⊥
index_not_whole bs k n rs w c d l =
    let h = shape_of bs in
    let s = chains_part h bs n rs c w.position l in
    let same : s.0 ≡ w.before = chains_once h bs w.position s.0 w.before s.3 w.chains in
    let b = chain_begins h bs (suc w.position) w.along s.1 k w.path s.4 in
    let whole : rs ≡ (w.before ++ s.1) ++ s.2 = s.5 ∙ ap (λ xs. xs ++ (s.1 ++ s.2)) same ∙ sym (append_assoc w.before s.1 s.2) in
    let apart : Distinct (w.before ++ s.1) = distinct_left (w.before ++ s.1) s.2 (subst Distinct whole d) in
    let end : k ≡ s.4.0 = wrong_once h bs w.before w.along s.1 k s.4.0 w.wrong apart b in
    wrong_not_end h bs (w.before ++ w.along) k w.wrong
    (λ r i. elim (in_either w.before w.along r i) [
      | inl a ↦ chains_records h bs w.position w.before w.chains r a
      | inr a ↦ path_records h bs w.along (head_at (suc w.position)) k w.path r a
    ])
    (ap (word bs) end ∙ s.4.2)

-- one index is the first that is wrong
index_once : (bs : List ℕ) (k j : ℕ) → IndexWrong bs k → IndexWrong bs j → k ≡ j
index_once bs k j w v =
    let h = shape_of bs in
    elim (cases_order w.position v.position) [
      | inl e ↦ (
          let same : w.before ≡ v.before = chains_once h bs v.position w.before v.before (subst (λ p. Chains h bs p w.before) e w.chains) v.chains in
          elim (fork h bs w.along v.along (head_at (suc v.position)) k j (subst (λ p. Path h bs (head_at (suc p)) w.along k) e w.path) v.path) [
            | inl u ↦ wrong_once h bs w.before w.along v.along k j w.wrong (subst (λ xs. Distinct (xs ++ v.along)) (sym same) v.apart) u
            | inr u ↦ sym (wrong_once h bs v.before v.along w.along j k v.wrong (subst (λ xs. Distinct (xs ++ w.along)) same w.apart) u)
          ])
      | inr (inl l) ↦ absurd (index_not_whole bs k v.position v.before w v.chains (distinct_left v.before v.along v.apart) l)
      | inr (inr l) ↦ absurd (index_not_whole bs j w.position w.before v w.chains (distinct_left w.before w.along w.apart) l)
    ]

-- one record is the lowest that is not reached
unreached_once : (bs : List ℕ) (k j : ℕ) → Unreached bs k → Unreached bs j → k ≡ j
unreached_once bs k j u v =
    let h = shape_of bs in
    let same = chains_once h bs h.size u.records v.records u.chains v.chains in
    let first = subst (λ rs. First (λ r. Record h r × (In r rs → ⊥)) u.missed) same u.first in
    u.at ∙ ap (record_at h) (first_once (λ r. Record h r × (In r v.records → ⊥)) u.missed v.missed first v.first) ∙ sym v.at

chain_once : (bs : List ℕ) (k j : ℕ) → IndexWrong bs k ⊎ Unreached bs k → IndexWrong bs j ⊎ Unreached bs j → k ≡ j
chain_once bs k j (inl w) (inl v) = index_once bs k j w v
chain_once bs k j (inl w) (inr v) = absurd (index_not_whole bs k (shape_of bs).size v.records w v.chains v.apart w.more)
chain_once bs k j (inr w) (inl v) = absurd (index_not_whole bs j (shape_of bs).size w.records v w.chains w.apart v.more)
chain_once bs k j (inr w) (inr v) = unreached_once bs k j w v

-- where every record is in one chain no index is wrong, and none is missed
linked_not_wrong : (bs rs : List ℕ) (k : ℕ) → Linked bs rs → IndexWrong bs k ⊎ Unreached bs k → ⊥
linked_not_wrong bs rs k l (inl w) = index_not_whole bs k (shape_of bs).size rs w l.chains l.apart w.more
linked_not_wrong bs rs k l (inr u) =
    u.first.0.1 (subst (In u.missed) (chains_once (shape_of bs) bs (shape_of bs).size rs u.records l.chains u.chains) (l.reached u.missed u.first.0.0))

-- ---- repeats

-- a chain without repeats has none along it
repeated_not_fresh : (bs : List ℕ) (k : ℕ) (w : Repeated bs k) → ((rs : List ℕ) → Chain (shape_of bs) bs (suc w.position) rs → Unrepeated (shape_of bs) bs rs) → ⊥
repeated_not_fresh bs k w f =
    let h = shape_of bs in
    let s = chains_part h bs h.size w.records w.linked.chains w.position w.more in
    let b = chain_begins h bs (suc w.position) (w.along ++ w.again ∷ []) s.1 _ w.path s.4 in
    f s.1 s.4 w.along w.again b.0 (b.1 ∙ simp append_assoc) w.repeats

-- behind the same chains, two first repeats are one
again_once : (h : Shape) (bs os ts : List ℕ) (q r j l : ℕ) → word bs j ≡ q → word bs l ≡ r → Repeats h bs q os → Unrepeated h bs ts → (us : List ℕ) × (ts ≡ os ++ us) × Path h bs j us l → q ≡ r
again_once h bs os ts q r j l a b p f u = go u.0 u.1 u.2
  where
    go : (us : List ℕ) → ts ≡ os ++ us → Path h bs j us l → q ≡ r
    go [] e s = sym a ∙ ap (word bs) s ∙ b
    go (t ∷ us) e s = absurd (f os q us (e ∙ ap (λ x. os ++ x ∷ us) (sym s.0 ∙ a)) p)

-- one record is the first that repeats a move
repeated_once : (bs : List ℕ) (k j : ℕ) → Repeated bs k → Repeated bs j → k ≡ j
repeated_once bs k j w v =
    let h = shape_of bs in
    elim (cases_order w.position v.position) [
      | inl e ↦ (
          let a = path_part h bs w.along (w.again ∷ []) (head_at (suc v.position)) _ (subst (λ p. Path h bs (head_at (suc p)) (w.along ++ w.again ∷ []) (next_at h w.again)) e w.path) in
          let b = path_part h bs v.along (v.again ∷ []) (head_at (suc v.position)) _ v.path in
          let same : w.again ≡ v.again = elim (fork h bs w.along v.along _ a.0 b.0 a.1 b.1) [
            | inl u ↦ again_once h bs w.along v.along w.again v.again a.0 b.0 a.2.0 b.2.0 w.repeats v.fresh u
            | inr u ↦ sym (again_once h bs v.along w.along v.again w.again b.0 a.0 b.2.0 a.2.0 v.repeats w.fresh u)
          ] in
          w.at ∙ ap (record_at h) same ∙ sym v.at)
      | inr (inl l) ↦ absurd (repeated_not_fresh bs k w (λ rs. v.before (suc w.position) rs (omega arith) l))
      | inr (inr l) ↦ absurd (repeated_not_fresh bs j v (λ rs. w.before (suc v.position) rs (omega arith) l))
    ]

-- ---- outcomes

-- the three ways to be refused
abbrev Why : List ℕ → Refusal → Type 0
Why bs e =
    ((k : ℕ) × (e ≡ DiagramField k) × FieldWrong bs k)
    ⊎ (((k : ℕ) × (e ≡ DiagramChain k) × (IndexWrong bs k ⊎ Unreached bs k))
    ⊎ ((k : ℕ) × (e ≡ DiagramRepeat k) × Repeated bs k))

why : (bs : List ℕ) (e : Refusal) → Refused bs e → Why bs e
why bs e (Refused.field k s w) = inl (k, s, w)
why bs e (Refused.index k s w) = inr (inl (k, s, inl w))
why bs e (Refused.unreached k s w) = inr (inl (k, s, inr w))
why bs e (Refused.repeated k s w) = inr (inr (k, s, w))

-- a refusal for a chain comes behind right fields
chain_fielded : (bs : List ℕ) (k : ℕ) → IndexWrong bs k ⊎ Unreached bs k → Fielded bs
chain_fielded bs k (inl w) = w.fielded
chain_fielded bs k (inr u) = u.fielded

-- no image is refused in two ways
pub one_refusal : (bs : List ℕ) (e f : Refusal) → Refused bs e → Refused bs f → e ≡ f
one_refusal bs e f a b = elim (why bs e a) [
  | inl w ↦ elim (why bs f b) [
    | inl v ↦ w.1 ∙ ap DiagramField (field_once bs w.0 v.0 w.2 v.2) ∙ sym v.1
    | inr (inl v) ↦ absurd (field_not_right bs w.0 w.2 (chain_fielded bs v.0 v.2))
    | inr (inr v) ↦ absurd (field_not_right bs w.0 w.2 v.2.linked.fielded)
  ]
  | inr (inl w) ↦ elim (why bs f b) [
    | inl v ↦ absurd (field_not_right bs v.0 v.2 (chain_fielded bs w.0 w.2))
    | inr (inl v) ↦ w.1 ∙ ap DiagramChain (chain_once bs w.0 v.0 w.2 v.2) ∙ sym v.1
    | inr (inr v) ↦ absurd (linked_not_wrong bs v.2.records w.0 v.2.linked w.2)
  ]
  | inr (inr w) ↦ elim (why bs f b) [
    | inl v ↦ absurd (field_not_right bs v.0 v.2 w.2.linked.fielded)
    | inr (inl v) ↦ absurd (linked_not_wrong bs w.2.records v.0 w.2.linked v.2)
    | inr (inr v) ↦ w.1 ∙ ap DiagramRepeat (repeated_once bs w.0 v.0 w.2 v.2) ∙ sym v.1
  ]
]

-- a well-formed image is not refused
pub well_formed_not_refused : (bs : List ℕ) (e : Refusal) → WellFormed bs → Refused bs e → ⊥
well_formed_not_refused bs e w a = elim (why bs e a) [
  | inl v ↦ field_not_right bs v.0 v.2 w.linked.fielded
  | inr (inl v) ↦ linked_not_wrong bs w.records v.0 w.linked v.2
  | inr (inr v) ↦ repeated_not_fresh bs v.0 v.2 (λ rs. w.unrepeated (suc v.2.position) rs (omega arith) v.2.more)
]
