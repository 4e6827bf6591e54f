-- A list after rounds is empty exactly when its rule fails.
use Rattle.std.specs.Prelude.{◌≡◌, ℕ, zero, suc, ◌+◌, ◌<◌, true, false, ◌⊎◌, ◌↔◌, List, [], ◌∷◌, length, drop, fold}
use Rattle.std.proofs.Math.Path.{refl, subst}
use Rattle.std.proofs.Common.{sym, ap, ◌∙◌, inl, ⊎_elim}
use Rattle.std.proofs.Math.Logic.{inr}
use native.Mathlib.Omega.{arith}
use Rattle.std.proofs.Math.Seq.{drop-cons}
use Rattle.std.proofs.lemmas.Bool.{cond_both, cases_eq, both_ways}
use Rattle.arena.specs.Tally.{Played}
use Rattle.rules.specs.declared.part.Part.{Part}
use Rattle.rules.specs.declared.part.Part.TheVariants.{True, False, Literal, Next, Release, Both, Either}
use Rattle.rules.specs.Rule.{Rule, literal, next, release, round, agrees, Fails}
use Rattle.rules.specs.Sets.{Sets, too_wide, sets, join_or, join_and, members}
use Rattle.rules.specs.Parts.{part, Falls, is_duty, duty_number, duty_part, WellFormed, rule_from, rule_in, rule_of}
use Rattle.rules.specs.Progress.{of_true, of_false, own, list_from, list_in, list_of, after_from, after_in, part_after, set_after, list_after, list_after_all}
use Rattle.rules.proofs.BitLaws.{Any, members_any}
use Rattle.rules.proofs.SetLaws.{Bad, AllBad, Says, says_iff, or_says, and_says, true_says, false_says, own_says}
use Rattle.rules.proofs.PartLaws.{rule_stays, duty_found, duty_below, duty_or_none}

-- a release, one round at a time
release_to : (a b : Rule) (rs : List Played) (p : ℕ) → Fails (release a b) rs p → Fails b rs p ⊎ (Fails a rs p × Fails (release a b) rs (suc p))
unfolding Fails
release_to a b rs p h =
    ⊎_elim
    (λ e. inl (subst (λ j. Fails b rs j) e h.3))
    (λ no. inr (h.4 p (omega arith) (omega arith), (h.0, omega arith, h.2, h.3, λ i l m. h.4 i (omega arith) m)))
    (cases_eq h.0 p)

release_from : (a b : Rule) (rs : List Played) (p : ℕ) → p < length rs → Fails b rs p ⊎ (Fails a rs p × Fails (release a b) rs (suc p)) → Fails (release a b) rs p
unfolding Fails
release_from a b rs p s h = elim h [
  | inl q ↦ (p, omega arith, s, q, λ i l m. absurd (omega arith))
  | inr q ↦ (q.1.0, omega arith, q.1.2, q.1.3, λ i l m. ⊎_elim (λ e. subst (λ j. Fails a rs j) (sym e) q.0) (λ no. q.1.4 i (omega arith) m) (cases_eq i p))
]

-- no duty fails behind the last round
none_behind : (h : ℕ → Rule) (x : Part) (rs : List Played) → (is_duty x ≡ true) ⊎ (x ≡ True) → Fails (rule_from h x) rs (length rs) → ⊥
unfolding Fails
none_behind h True rs d f = f
none_behind h False rs d f = elim d [ inl e ↦ cc | inr e ↦ cc ]
none_behind h (Literal s want) rs d f = omega arith
none_behind h (Next a) rs d f = omega arith
none_behind h (Release a b) rs d f = omega arith
none_behind h (Both a b) rs d f = elim d [ inl e ↦ cc | inr e ↦ cc ]
none_behind h (Either a b) rs d f = elim d [ inl e ↦ cc | inr e ↦ cc ]

module _ (ps : List Part) (wf : WellFormed ps) (rs : List Played) where
  -- duty d fails at place p
  abbrev Lapses : ℕ → ℕ → Type 0
  Lapses p d = Fails (rule_of ps (duty_part ps d)) rs p

  duty_says : (p k : ℕ) → is_duty (part ps k) ≡ true → (f : Rule) → rule_of ps k ≡ f → Says (Lapses p) (own (duty_number ps k)) (Fails f rs p)
  duty_says p k e f r =
      let at : rule_of ps (duty_part ps (duty_number ps k)) ≡ f = ap (rule_of ps) (duty_found ps k e) ∙ r in
      subst (λ g. Says (Lapses p) (own (duty_number ps k)) (Fails g rs p)) at (own_says (Lapses p) (duty_number ps k) (omega (arith, duty_below ps k e, wf.duties)))

  list_step : (f : ℕ → Sets) (h : ℕ → Rule) (p k : ℕ) (x : Part) → part ps k ≡ x → Falls k x → rule_of ps k ≡ rule_from h x
      → ((a : ℕ) → a < k → Says (Lapses p) (f a) (Fails (h a) rs p))
      → Says (Lapses p) (list_from f (duty_number ps k) x) (Fails (rule_from h x) rs p)
  unfolding Fails
  list_step f h p k True e l r s = true_says (Lapses p)
  list_step f h p k False e l r s = false_says (Lapses p)
  list_step f h p k (Literal g want) e l r s = duty_says p k (ap is_duty e) (literal g want) r
  list_step f h p k (Next a) e l r s = duty_says p k (ap is_duty e) (next (h a)) r
  list_step f h p k (Release a b) e l r s = duty_says p k (ap is_duty e) (release (h a) (h b)) r
  list_step f h p k (Both a b) e l r s = and_says (Fails (h a) rs p) (Fails (h b) rs p) (Lapses p) (f a) (f b) (s a l.0) (s b l.1)
  list_step f h p k (Either a b) e l r s = or_says (Fails (h a) rs p) (Fails (h b) rs p) (Lapses p) (f a) (f b) (s a l.0) (s b l.1)

  -- the list of a part fails where the part does
  list_says : (n m p k : ℕ) → k < n → k < m → Says (Lapses p) (list_in n ps k) (Fails (rule_in m ps k) rs p)
  unfolding list_in rule_in
  list_says zero m p k l r = absurd (omega arith)
  list_says (suc n) zero p k l r = absurd (omega arith)
  list_says (suc n) (suc m) p k l r =
      list_step (list_in n ps) (rule_in m ps) p k (part ps k) refl (wf.falls k) (rule_stays ps wf.falls (suc k) (suc m) k (omega arith) r) (λ a s. list_says n m p a (omega arith) (omega arith))

  after_step : (f g : ℕ → Sets) (h : ℕ → Rule) (p k : ℕ) → p < length rs → (x : Part) → part ps k ≡ x → Falls k x → rule_of ps k ≡ rule_from h x
      → ((a : ℕ) → a < k → Says (Lapses (suc p)) (f a) (Fails (h a) rs (suc p)))
      → ((a : ℕ) → a < k → Says (Lapses (suc p)) (g a) (Fails (h a) rs p))
      → Says (Lapses (suc p)) (after_from f g (round rs p) (duty_number ps k) x) (Fails (rule_from h x) rs p)
  unfolding Fails
  after_step f g h p k q True e l r s t = true_says (Lapses (suc p))
  after_step f g h p k q False e l r s t = false_says (Lapses (suc p))
  after_step f g h p k q (Literal sg want) e l r s t =
      cond_both (agrees (round rs p) sg want) of_true of_false (λ z. Says (Lapses (suc p)) z ((p < length rs) × (agrees (round rs p) sg want ≡ false)))
      (λ y. says_iff (Lapses (suc p)) of_true (λ c. absurd c, λ c. both_ways _ c.1 y) (true_says (Lapses (suc p))))
      (λ y. says_iff (Lapses (suc p)) of_false (λ c. (q, y), λ c. tt) (false_says (Lapses (suc p))))
  after_step f g h p k q (Next a) e l r s t = says_iff (Lapses (suc p)) (f a) (λ c. (q, c), λ c. c.1) (s a l)
  after_step f g h p k q (Release a b) e l r s t =
      let whole = duty_says (suc p) k (ap is_duty e) (release (h a) (h b)) r in
      let later = or_says (Fails (h a) rs p) (Fails (release (h a) (h b)) rs (suc p)) (Lapses (suc p)) (g a) (own (duty_number ps k)) (t a l.0) whole in
      let now = and_says (Fails (h b) rs p) (Fails (h a) rs p × Fails (release (h a) (h b)) rs (suc p)) (Lapses (suc p)) (g b) (join_or (g a) (own (duty_number ps k))) (t b l.1) later in
      says_iff (Lapses (suc p)) (join_and (g b) (join_or (g a) (own (duty_number ps k)))) (release_from (h a) (h b) rs p q, release_to (h a) (h b) rs p) now
  after_step f g h p k q (Both a b) e l r s t = and_says (Fails (h a) rs p) (Fails (h b) rs p) (Lapses (suc p)) (g a) (g b) (t a l.0) (t b l.1)
  after_step f g h p k q (Either a b) e l r s t = or_says (Fails (h a) rs p) (Fails (h b) rs p) (Lapses (suc p)) (g a) (g b) (t a l.0) (t b l.1)

  -- a part after round p fails at p + 1 where the part fails at p
  after_says : (n m p k : ℕ) → p < length rs → k < n → k < m → Says (Lapses (suc p)) (after_in n ps (round rs p) k) (Fails (rule_in m ps k) rs p)
  unfolding after_in rule_in
  after_says zero m p k q l r = absurd (omega arith)
  after_says (suc n) zero p k q l r = absurd (omega arith)
  after_says (suc n) (suc m) p k q l r =
      after_step (list_in n ps) (after_in n ps (round rs p)) (rule_in m ps) p k q (part ps k) refl (wf.falls k)
      (rule_stays ps wf.falls (suc k) (suc m) k (omega arith) r)
      (λ a s. list_says n m (suc p) a (omega arith) (omega arith))
      (λ a s. after_says n m p a q (omega arith) (omega arith))

  and_all : (p : ℕ) → p < length rs → (ds : List ℕ) (s : Sets) (A : Type 0) → Says (Lapses (suc p)) s A
      → Says (Lapses (suc p)) (fold (λ all d. join_and all (part_after ps (round rs p) (duty_part ps d))) s ds) (A ⊎ Any (Lapses p) ds)
  and_all p q [] s A h = says_iff (Lapses (suc p)) s (inl, ⊎_elim (λ a. a) (λ c. absurd c)) h
  and_all p q (d ∷ ds) s A h =
      let k = duty_part ps d in
      let one = and_says A (Lapses p d) (Lapses (suc p)) s (part_after ps (round rs p) k) h (after_says (suc k) (suc k) p k q (omega arith) (omega arith)) in
      says_iff (Lapses (suc p)) (fold (λ all d. join_and all (part_after ps (round rs p) (duty_part ps d))) (join_and s (part_after ps (round rs p) k)) ds)
      (⊎_elim (⊎_elim inl (λ c. inr (inl c))) (λ c. inr (inr c)), ⊎_elim (λ c. inl (inl c)) (⊎_elim (λ c. inl (inr c)) inr))
      (and_all p q ds (join_and s (part_after ps (round rs p) k)) (A ⊎ Lapses p d) one)

  set_says : (p : ℕ) → p < length rs → (x : ℕ) → Says (Lapses (suc p)) (set_after ps (round rs p) x) (Bad (Lapses p) x)
  unfolding set_after
  set_says p q x =
      says_iff (Lapses (suc p)) (fold (λ all d. join_and all (part_after ps (round rs p) (duty_part ps d))) of_true (members x))
      (⊎_elim (λ c. absurd c) (members_any (Lapses p) x).0, λ c. inr ((members_any (Lapses p) x).1 c))
      (and_all p q (members x) of_true ⊥ (true_says (Lapses (suc p))))

  or_all : (p : ℕ) → p < length rs → (xs : List ℕ) (s : Sets) (A : Type 0) → Says (Lapses (suc p)) s A
      → Says (Lapses (suc p)) (fold (λ any x. join_or any (set_after ps (round rs p) x)) s xs) (A × AllBad (Lapses p) xs)
  or_all p q [] s A h = says_iff (Lapses (suc p)) s (λ a. (a, tt), λ c. c.0) h
  or_all p q (x ∷ xs) s A h =
      let one = or_says A (Bad (Lapses p) x) (Lapses (suc p)) s (set_after ps (round rs p) x) h (set_says p q x) in
      says_iff (Lapses (suc p)) (fold (λ any y. join_or any (set_after ps (round rs p) y)) (join_or s (set_after ps (round rs p) x)) xs)
      (λ c. (c.0.0, (c.0.1, c.1)), λ c. ((c.0, c.1.0), c.1.1))
      (or_all p q xs (join_or s (set_after ps (round rs p) x)) (A × Bad (Lapses p) x) one)

  -- a list after round p fails at p + 1 where the list fails at p
  list_after_says : (p : ℕ) → p < length rs → (s : Sets) (A : Type 0) → Says (Lapses p) s A → Says (Lapses (suc p)) (list_after ps (round rs p) s) A
  unfolding list_after
  list_after_says p q too_wide A h = tt
  list_after_says p q (sets xs) A h =
      says_iff (Lapses (suc p)) (fold (λ any x. join_or any (set_after ps (round rs p) x)) of_false xs)
      (λ c. h.0 c.1, λ a. (tt, h.1 a))
      (or_all p q xs of_false (Unit {0}) (false_says (Lapses (suc p))))

  all_after_says : (rest : List Played) (p : ℕ) → drop p rs ≡ rest → p + length rest ≡ length rs → (s : Sets) (A : Type 0) → Says (Lapses p) s A
      → Says (Lapses (length rs)) (list_after_all ps rest s) A
  unfolding list_after_all
  all_after_says [] p e l s A h = let at : p ≡ length rs = omega arith in subst (λ j. Says (Lapses j) s A) at h
  all_after_says (r ∷ rest) p e l s A h =
      let q : p < length rs = omega arith in
      let c = drop-cons rs p (record { input = 0; output = 0 }) q in
      let at : round rs p ≡ r = cc in
      let more : drop (suc p) rs ≡ rest = cc in
      all_after_says rest (suc p) more (omega arith) (list_after ps r s) A (subst (λ y. Says (Lapses (suc p)) (list_after ps y s) A) at (list_after_says p q s A h))

  -- with no rounds left only the empty list fails
  end_says : (xs : List ℕ) → AllBad (Lapses (length rs)) xs ↔ xs ≡ []
  unfolding rule_in
  end_says [] = (λ h. refl, λ h. tt)
  end_says (x ∷ xs) = (
    λ h. absurd (none_behind _ (part ps (duty_part ps h.0.0)) rs (duty_or_none ps h.0.0) h.0.3),
    λ e. cc,
  )

  lost_when : (k : ℕ) (xs : List ℕ) → list_after_all ps rs (list_of ps k) ≡ sets xs → (xs ≡ []) ↔ Fails (rule_of ps k) rs 0
  lost_when k xs e =
      let says = all_after_says rs 0 refl (omega arith) (list_of ps k) (Fails (rule_of ps k) rs 0) (list_says (suc k) (suc k) 0 k (omega arith) (omega arith)) in
      let here : Says (Lapses (length rs)) (sets xs) (Fails (rule_of ps k) rs 0) = subst (λ s. Says (Lapses (length rs)) s (Fails (rule_of ps k) rs 0)) e says in
      let ends = end_says xs in
      (λ z. here.0 (ends.1 z), λ f. ends.0 (here.1 f))

pub lost_right : (ps : List Part) → WellFormed ps → (k : ℕ) (rs : List Played) (xs : List ℕ) → list_after_all ps rs (list_of ps k) ≡ sets xs → (xs ≡ []) ↔ Fails (rule_of ps k) rs 0
lost_right ps wf k rs xs e = lost_when ps wf rs k xs e
