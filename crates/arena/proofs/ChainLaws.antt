-- Laws of lists of distinct numbers, and of paths and chains of records.
use Rattle.std.proofs.Common.{◌≡◌, ℕ, zero, suc, ◌+◌, ◌<◌, ◌≤◌, Bool, true, false, cond, not, ◌≢◌, ◌⊎◌, List, [], ◌∷◌, ◌++◌, length, get_or, set, replicate, count_by, sym, refl, ap, ◌∙◌, subst, ap₂, inl, inr, ⊎_elim, arith}
use Rattle.std.proofs.lemmas.List.{append-nil, append_assoc, length-append, length-set, length-replicate, get_or-replicate, get_or-set_other}
use Rattle.std.proofs.lemmas.List.Sums.{sum_by-set, count_by-le-length}
use Rattle.std.proofs.lemmas.Bool.{cases_eq}
use Rattle.terms.specs.declared.shape.Shape.{Shape}
use Rattle.arena.specs.Diagram.{head_at, next_at, Record, Path, Chain, Chains, In, Distinct, Repeats, Unrepeated}
use Rattle.terms.specs.Bytes.{word}

-- ---- one of a list

-- one of the first part, or of the second, is one of both
pub in_left : (qs ts : List ℕ) (r : ℕ) → In r qs → In r (qs ++ ts)
in_left [] ts r i = absurd i
in_left (q ∷ qs) ts r (inl e) = inl e
in_left (q ∷ qs) ts r (inr i) = inr (in_left qs ts r i)

pub in_right : (qs ts : List ℕ) (r : ℕ) → In r ts → In r (qs ++ ts)
in_right [] ts r i = i
in_right (q ∷ qs) ts r i = inr (in_right qs ts r i)

-- one of both is one of the first part or of the second
pub in_either : (qs ts : List ℕ) (r : ℕ) → In r (qs ++ ts) → In r qs ⊎ In r ts
in_either [] ts r i = inr i
in_either (q ∷ qs) ts r (inl e) = inl (inl e)
in_either (q ∷ qs) ts r (inr i) = ⊎_elim (λ l. inl (inr l)) inr (in_either qs ts r i)

-- one of a list stands between what is before and what is behind
pub in_parts : (rs : List ℕ) (r : ℕ) → In r rs → (qs : List ℕ) × (ts : List ℕ) × (rs ≡ qs ++ r ∷ ts)
in_parts [] r i = absurd i
in_parts (q ∷ rs) r (inl e) = ([], rs, ap (λ x. x ∷ rs) (sym e))
in_parts (q ∷ rs) r (inr i) = let p = in_parts rs r i in (q ∷ p.0, p.1, ap (λ ts. q ∷ ts) p.2)

-- ---- distinct numbers

-- the first part of distinct numbers is distinct
pub distinct_left : (qs ts : List ℕ) → Distinct (qs ++ ts) → Distinct qs
distinct_left [] ts d = tt
distinct_left (q ∷ qs) ts d = ((λ i. d.0 (in_left qs ts q i)), distinct_left qs ts d.1)

-- the second part too
pub distinct_right : (qs ts : List ℕ) → Distinct (qs ++ ts) → Distinct ts
distinct_right [] ts d = d
distinct_right (q ∷ qs) ts d = distinct_right qs ts d.1

-- two parts of distinct numbers share none
pub distinct_apart : (qs ts : List ℕ) (r : ℕ) → Distinct (qs ++ ts) → In r qs → In r ts → ⊥
distinct_apart [] ts r d i j = i
distinct_apart (q ∷ qs) ts r d (inl e) j = d.0 (in_right qs ts q (subst (λ x. In x ts) e j))
distinct_apart (q ∷ qs) ts r d (inr i) j = distinct_apart qs ts r d.1 i j

-- one more number, that is none of them, leaves them distinct
pub distinct_push : (qs : List ℕ) (r : ℕ) → Distinct qs → (In r qs → ⊥) → Distinct (qs ++ r ∷ [])
distinct_push [] r d n = ((λ i. i), tt)
distinct_push (q ∷ qs) r d n = (
  (λ i. elim (in_either qs (r ∷ []) q i) [ inl j ↦ d.0 j | inr (inl e) ↦ n (inl (sym e)) | inr (inr z) ↦ z ]),
  distinct_push qs r d.1 (λ i. n (inr i)),
)

-- a mark that is set leaves one unmarked less
pub unmarked_falls : (marks : List Bool) (i : ℕ) → i < length marks → get_or marks i false ≡ false → count_by not (set marks i true) + 1 ≡ count_by not marks
unmarked_falls marks i l e =
    let s = sum_by-set (λ x. cond (not x) 1 0) marks i true false l in omega (arith, rw e at s)

-- distinct numbers that are not marked are no more than there are unmarked
room : (rs : List ℕ) (marks : List Bool) → Distinct rs → ((r : ℕ) → In r rs → (r < length marks) × (get_or marks r false ≡ false)) → length rs ≤ count_by not marks
room [] marks d f = omega arith
room (r ∷ rs) marks d f =
    let g = f r (inl refl) in
    let fall = unmarked_falls marks r g.0 g.1 in
    let more : length rs ≤ count_by not (set marks r true) = room rs (set marks r true) d.1 (λ q i.
    let ne : q ≢ r = λ e. d.0 (subst (λ x. In x rs) e i) in
    (simp length-set (f q (inr i)).0, get_or-set_other marks r q true false ne ∙ (f q (inr i)).1)) in
    omega arith

free : (n r : ℕ) → 1 ≤ r → r ≤ n → get_or (true ∷ replicate n false) r false ≡ false
free n zero l h = absurd (omega arith)
free n (suc r) l h = get_or-replicate n r false false (omega arith)

-- distinct numbers from 1 to n are at most n
pub at_most : (rs : List ℕ) (n : ℕ) → Distinct rs → ((r : ℕ) → In r rs → (1 ≤ r) × (r ≤ n)) → length rs ≤ n
at_most rs n d f =
    let long = length-replicate n false in
    let less : length rs ≤ count_by not (true ∷ replicate n false) = room rs (true ∷ replicate n false) d (λ r i. (omega (arith, f r i), free n r (f r i).0 (f r i).1)) in
    omega (arith, count_by-le-length not (replicate n false))

-- a list with one more at the end, in two parts around q: q is that one, or stands before it
push_parts : (qs os ts : List ℕ) (r q : ℕ) → qs ++ r ∷ [] ≡ os ++ q ∷ ts → ((qs ≡ os) × (r ≡ q)) ⊎ ((us : List ℕ) × (qs ≡ os ++ q ∷ us))
push_parts [] [] ts r q e = inl (refl, cc)
push_parts [] (o ∷ os) ts r q e = absurd (omega (arith, simp length-append at (ap length e)))
push_parts (a ∷ qs) [] ts r q e = let s : a ≡ q = cc in inr (qs, ap (λ x. x ∷ qs) s)
push_parts (a ∷ qs) (o ∷ os) ts r q e =
    let s : a ≡ o = cc in
    let t : qs ++ r ∷ [] ≡ os ++ q ∷ ts = cc in
    elim (push_parts qs os ts r q t) [ inl p ↦ inl (ap₂ (λ x xs. x ∷ xs) s p.0, p.1) | inr p ↦ inr (p.0, ap₂ (λ x xs. x ∷ xs) s p.1) ]

-- ---- records for moves of their own

-- no record repeats none
pub unrepeated_none : (h : Shape) (bs : List ℕ) → Unrepeated h bs []
unrepeated_none h bs [] r ts e p = p.1
unrepeated_none h bs (q ∷ qs) r ts e p = omega (arith, simp length-append at (ap length e))

-- one more record, that repeats none of them
pub unrepeated_push : (h : Shape) (bs qs : List ℕ) (r : ℕ) → Unrepeated h bs qs → (Repeats h bs r qs → ⊥) → Unrepeated h bs (qs ++ r ∷ [])
unrepeated_push h bs qs r f n os q ts e p = elim (push_parts qs os ts r q e) [
  | inl s ↦ n (rw (s.0, s.1) p)
  | inr s ↦ f os q s.0 s.1 p
]

-- ---- paths

module _ (h : Shape) (bs : List ℕ) where
  -- a path goes on where another ends
  pub path_join : (rs ts : List ℕ) (k j l : ℕ) → Path h bs k rs j → Path h bs j ts l → Path h bs k (rs ++ ts) l
  path_join [] ts k j l p q = subst (λ x. Path h bs x ts l) (sym p) q
  path_join (r ∷ rs) ts k j l p q = (p.0, p.1, path_join rs ts (next_at h r) j l p.2 q)

  -- one record more
  pub path_push : (rs : List ℕ) (r k j : ℕ) → Path h bs k rs j → word bs j ≡ r → Record h r → Path h bs k (rs ++ r ∷ []) (next_at h r)
  path_push rs r k j p e i = path_join rs (r ∷ []) k j (next_at h r) p (e, i, refl)

  -- a path of two parts passes a place between
  pub path_part : (rs ts : List ℕ) (k l : ℕ) → Path h bs k (rs ++ ts) l → (j : ℕ) × Path h bs k rs j × Path h bs j ts l
  path_part [] ts k l p = (k, refl, p)
  path_part (r ∷ rs) ts k l p = let q = path_part rs ts (next_at h r) l p.2 in (q.0, (p.0, p.1, q.1), q.2)

  -- what a path reaches are records
  pub path_records : (rs : List ℕ) (k j : ℕ) → Path h bs k rs j → (r : ℕ) → In r rs → Record h r
  path_records [] k j p r i = absurd i
  path_records (q ∷ rs) k j p r (inl e) = subst (Record h) (sym e) p.1
  path_records (q ∷ rs) k j p r (inr i) = path_records rs (next_at h q) j p.2 r i

  -- of two paths from one place, one is the beginning of the other
  pub fork : (rs ts : List ℕ) (k j l : ℕ) → Path h bs k rs j → Path h bs k ts l → ((us : List ℕ) × (ts ≡ rs ++ us) × Path h bs j us l) ⊎ ((us : List ℕ) × (rs ≡ ts ++ us) × Path h bs l us j)
  fork [] ts k j l p q = inl (ts, refl, subst (λ x. Path h bs x ts l) p q)
  fork (r ∷ rs) [] k j l p q = inr (r ∷ rs, refl, subst (λ x. Path h bs x (r ∷ rs) j) q p)
  fork (r ∷ rs) (t ∷ ts) k j l p q =
      let e : t ≡ r = sym q.0 ∙ p.0 in
      elim (fork rs ts (next_at h r) j l p.2 (subst (λ x. Path h bs (next_at h x) ts l) e q.2)) [
        | inl u ↦ inl (u.0, rw e (ap (λ xs. r ∷ xs) u.1), u.2)
        | inr u ↦ inr (u.0, rw e (ap (λ xs. r ∷ xs) u.1), u.2)
      ]

  -- an index that is 0 leads nowhere
  pub path_ends : (us : List ℕ) (j l : ℕ) → word bs j ≡ 0 → Path h bs j us l → us ≡ []
  path_ends [] j l z p = refl
  path_ends (u ∷ us) j l z p = absurd (omega (arith, p.0, p.1.0))

  -- a path from a head is the beginning of the chain
  pub chain_begins : (p : ℕ) (rs ts : List ℕ) (j : ℕ) → Path h bs (head_at p) rs j → (c : Chain h bs p ts) → (us : List ℕ) × (ts ≡ rs ++ us) × Path h bs j us c.0
  chain_begins p rs ts j q c = elim (fork rs ts (head_at p) j c.0 q c.1) [
    | inl u ↦ u
    | inr u ↦ (
        let none : u.0 ≡ [] = path_ends u.0 c.0 j c.2 u.2 in
        let same : rs ≡ ts = u.1 ∙ ap (λ xs. ts ++ xs) none ∙ append-nil ts in
        let at : c.0 ≡ j = subst (λ xs. Path h bs c.0 xs j) none u.2 in
        ([], sym same ∙ sym (append-nil rs), sym at))
  ]

  -- a position has one chain
  pub chain_once : (p : ℕ) (rs ts : List ℕ) → Chain h bs p rs → Chain h bs p ts → rs ≡ ts
  chain_once p rs ts c d =
      let b = chain_begins p rs ts c.0 c.1 d in
      let none = path_ends b.0 c.0 d.0 c.2 b.2 in
      sym (b.1 ∙ ap (λ xs. rs ++ xs) none ∙ append-nil rs)

  -- and the first positions have one list of chains
  pub chains_once : (p : ℕ) (rs ts : List ℕ) → Chains h bs p rs → Chains h bs p ts → rs ≡ ts
  chains_once zero rs ts c d = c ∙ sym d
  chains_once (suc p) rs ts c d =
      let e = chains_once p c.0 d.0 c.2 d.2 in
      let f = chain_once (suc p) c.1 d.1 c.3 d.3 in
      cc

  -- the chain of a position is among the chains of the positions, behind those before it
  pub chains_part : (n : ℕ) (rs : List ℕ) → Chains h bs n rs → (p : ℕ) → p < n → (qs : List ℕ) × (ts : List ℕ) × (us : List ℕ) × Chains h bs p qs × Chain h bs (suc p) ts × (rs ≡ qs ++ (ts ++ us))
  chains_part zero rs c p l = absurd (omega arith)
  chains_part (suc n) rs c p l = elim (cases_eq p n) [
    | inl e ↦ (c.0, c.1, [], subst (λ m. Chains h bs m c.0) (sym e) c.2, subst (λ m. Chain h bs (suc m) c.1) (sym e) c.3, c.4 ∙ ap (λ xs. c.0 ++ xs) (sym (append-nil c.1)))
    | inr ne ↦ (
        let s = chains_part n c.0 c.2 p (omega arith) in
        (s.0, s.1, s.2 ++ c.1, s.3, s.4, c.4 ∙ ap (λ xs. xs ++ c.1) s.5 ∙ simp append_assoc))
  ]

  -- what the chains of positions reach are records
  pub chains_records : (n : ℕ) (rs : List ℕ) → Chains h bs n rs → (r : ℕ) → In r rs → Record h r
  chains_records zero rs c r i = absurd (subst (In r) c i)
  chains_records (suc n) rs c r i = elim (in_either c.0 c.1 r (subst (In r) c.4 i)) [
    | inl l ↦ chains_records n c.0 c.2 r l
    | inr l ↦ path_records c.1 (head_at (suc n)) c.3.0 c.3.1 r l
  ]
