use Rattle.std.proofs.Common.{Ok, ap, arith}
use Rattle.run.proofs.run.Run.start.Goals as goal

pub returns : goal.returns
returns g c =
    let w = c.in_ok-accept.ensures in
    record {
      none = λ z. absurd (omega (arith, w.book.sized));
      other = λ _ n. absurd (n (w.values, w.book));
      made = λ _. ap (λ p. Ok (record { position = p })) c.start.ensures;
    }
