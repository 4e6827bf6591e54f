-- The list of a part and a part after a round, from the sides' own.
use Rattle.std.proofs.Common.{◌≡◌, ℕ, zero, suc, ◌<◌, List, refl, ap₂, arith}
use Rattle.arena.specs.Tally.{Played}
use Rattle.rules.specs.declared.part.Part.{Part}
use Rattle.rules.specs.declared.part.Part.TheVariants.{Next, Release, Both, Either}
use Rattle.rules.specs.Sets.{Sets, join_or, join_and}
use Rattle.rules.specs.Parts.{part, Falls, duty_number}
use Rattle.rules.specs.Progress.{own, list_from, list_in, list_of, after_from, after_in, part_after}

list_same : (f g : ℕ → Sets) (d k : ℕ) (x : Part) → Falls k x → ((a : ℕ) → a < k → f a ≡ g a) → list_from f d x ≡ list_from g d x
list_same f g d k (Both a b) l h = ap₂ join_and (h a l.0) (h b l.1)
list_same f g d k (Either a b) l h = ap₂ join_or (h a l.0) (h b l.1)
list_same f g d k x l h = refl

after_same : (f g u v : ℕ → Sets) (r : Played) (d k : ℕ) (x : Part) → Falls k x → ((a : ℕ) → a < k → f a ≡ g a) → ((a : ℕ) → a < k → u a ≡ v a) → after_from f u r d x ≡ after_from g v r d x
after_same f g u v r d k (Next a) l h i = h a l
after_same f g u v r d k (Release a b) l h i = ap₂ (λ x y. join_and y (join_or x (own d))) (i a l.0) (i b l.1)
after_same f g u v r d k (Both a b) l h i = ap₂ join_and (i a l.0) (i b l.1)
after_same f g u v r d k (Either a b) l h i = ap₂ join_or (i a l.0) (i b l.1)
after_same f g u v r d k x l h i = refl

module _ (ps : List Part) (falls : (k : ℕ) → Falls k (part ps k)) where
  list_stays : (n m k : ℕ) → k < n → k < m → list_in n ps k ≡ list_in m ps k
  unfolding list_in
  list_stays zero m k l r = absurd (omega arith)
  list_stays (suc n) zero k l r = absurd (omega arith)
  list_stays (suc n) (suc m) k l r = list_same (list_in n ps) (list_in m ps) (duty_number ps k) k (part ps k) (falls k) (λ a s. list_stays n m a (omega arith) (omega arith))

  after_stays : (r : Played) (n m k : ℕ) → k < n → k < m → after_in n ps r k ≡ after_in m ps r k
  unfolding after_in
  after_stays r zero m k l q = absurd (omega arith)
  after_stays r (suc n) zero k l q = absurd (omega arith)
  after_stays r (suc n) (suc m) k l q =
      after_same (list_in n ps) (list_in m ps) (after_in n ps r) (after_in m ps r) r (duty_number ps k) k (part ps k) (falls k)
      (λ a s. list_stays n m a (omega arith) (omega arith)) (λ a s. after_stays r n m a (omega arith) (omega arith))

  pub list_step : (k : ℕ) → list_of ps k ≡ list_from (list_of ps) (duty_number ps k) (part ps k)
  unfolding list_in
  list_step k = list_same (list_in k ps) (list_of ps) (duty_number ps k) k (part ps k) (falls k) (λ a s. list_stays k (suc a) a s (omega arith))

  pub after_step : (r : Played) (k : ℕ) → part_after ps r k ≡ after_from (list_of ps) (part_after ps r) r (duty_number ps k) (part ps k)
  unfolding after_in
  after_step r k =
      after_same (list_in k ps) (list_of ps) (after_in k ps r) (part_after ps r) r (duty_number ps k) k (part ps k) (falls k)
      (λ a s. list_stays k (suc a) a s (omega arith)) (λ a s. after_stays r k (suc a) a s (omega arith))
