-- A run that differs from each of the four words is a name.
use Rattle.std.proofs.Common.{◌≡◌, ℕ, false, List, [], ◌∷◌, length, get_or, ap, arith}
use Rattle.std.proofs.lemmas.Bool.{false≢true}
use Rattle.std.proofs.lemmas.Bool.Decides.{same_from_decides}
use Rattle.terms.specs.Lists.{same_list}
use Rattle.terms.proofs.ListLaws.{same_list_decides}
use Rattle.words.proofs.reader.spelled_word.Goals as goal

differs : (r w : List ℕ) → (length r ≡ length w → ((k : ℕ) → get_or r k 0 ≡ get_or w k 0) → ⊥) → same_list r w ≡ false
differs r w clash = same_from_decides _ _ (same_list_decides r w) (λ h. absurd (false≢true h), λ e. absurd (clash (ap length e) (λ k. ap (λ l. get_or l k 0) e)))

pub returns-in_default : goal.returns-in_default
returns-in_default c =
    let r = c.args.run.now in
    rw (
      differs r (105 ∷ 110 ∷ []) (λ n b. grind arith),
      differs r (111 ∷ 117 ∷ 116 ∷ []) (λ n b. grind arith),
      differs r (116 ∷ 114 ∷ 117 ∷ 101 ∷ []) (λ n b. grind arith),
      differs r (102 ∷ 97 ∷ 108 ∷ 115 ∷ 101 ∷ []) (λ n b. grind arith),
    )
