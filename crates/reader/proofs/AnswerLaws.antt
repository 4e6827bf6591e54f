-- What words come to, computed.
use Rattle.std.proofs.Common.{◌≡◌, ℕ, ◌-◌, List, length, sym, ap, ◌∙◌, subst}
use Rattle.words.specs.Words.{Said}
use Rattle.rules.specs.Rule.{Rule}
use Rattle.reader.specs.Grammar.{Names}
use Rattle.reader.specs.Allowed as allowed
use Rattle.reader.specs.Allowed.{End, accepts, run, start}
use Rattle.reader.specs.Faults.{Answer, tree, refusal, Outcome}
use Rattle.reader.proofs.TreeLaws as trees
use Rattle.reader.proofs.TreeLaws.{due, same, top, goes_all, tree_is}
use Rattle.reader.proofs.PassLaws.{accepted}
use Rattle.reader.proofs.FaultLaws.{Settled, well, ill, settled, outcome}

-- the tree, by the words alone
abbrev pub tree_of : Names → List Said → Rule
tree_of known ws = trees.tree known (goes_all known (due same same same top) ws)

abbrev pub by_run : Names → List Said → End → Answer
by_run known ws accepts = tree (tree_of known ws)
by_run known ws (allowed.stops k rest) = refusal k (length ws - length rest)

-- what words come to
abbrev pub answer : Names → ℕ → List Said → Answer
answer known n ws = by_run known ws (run known (start n) ws)

module _ (known : Names) (n : ℕ) (ws : List Said) where
  is_answer : {a : Answer} → Settled known n ws a → a ≡ answer known n ws
  is_answer (well t d e) = sym e ∙ ap tree (tree_is known d) ∙ ap (by_run known ws) (sym (accepted known d))
  is_answer (ill k rest h e) = sym e ∙ ap (by_run known ws) (sym h)

  pub answers : Outcome known n ws (answer known n ws)
  answers = let o = outcome known n ws in subst (Outcome known n ws) (is_answer (settled known n ws o.1)) o.1
