-- The grammar and the machine agree.
use Rattle.std.proofs.Common.{◌≡◌, ℕ, ◌↔◌, List}
use Rattle.words.specs.Words.{Said}
use Rattle.rules.specs.Rule.{Rule}
use Rattle.reader.specs.Grammar.{Names, Reads}
use Rattle.reader.specs.Allowed.{End, accepts, stops, run, start}
use Rattle.reader.proofs.PassLaws.{accepted}
use Rattle.reader.proofs.ReadLaws.{AText, reads, stopped, read}

pub not_both : {e : End} {k : ℕ} {rest : List Said} → e ≡ accepts → e ≡ stops k rest → ⊥
not_both h k = cc

module _ (known : Names) (n : ℕ) where
  pub from_accepts : (ws : List Said) → run known (start n) ws ≡ accepts → (t : Rule) × Reads known n ws t
  from_accepts ws h = go (read known n ws)
    where
      go : AText known n ws → (t : Rule) × Reads known n ws t
      go (reads t d) = (t, d)
      go (stopped k rest e) = absurd (not_both h e)

  pub agree : (ws : List Said) → ((t : Rule) × Reads known n ws t) ↔ (run known (start n) ws ≡ accepts)
  agree ws = (λ td. accepted known td.1, from_accepts ws)
