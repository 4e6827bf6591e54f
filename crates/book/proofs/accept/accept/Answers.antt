use Rattle.std.proofs.Common.{refl, arith}
use Rattle.std.proofs.lemmas.Bool.Decides.{not_from_Decides}
use Rattle.arena.proofs.ControlLaws.{values_proper}
use Rattle.arena.proofs.BookLaws.{one_book}
use Rattle.book.specs.Accepting.{other}
use Rattle.book.proofs.ToldLaws.{agrees_right}
use Rattle.book.proofs.accept.accept.Goals as goal

pub returns-then-not-agrees : goal.returns-then-not-agrees
returns-then-not-agrees g c =
    let w = agrees_right _ (g.G.Game.sound c.args.g.now) c.args.book.now in
    other refl (omega arith) (λ h. not_from_Decides _ c.agrees.ensures c.if-not-agrees.true (w.1 h))

pub returns : goal.returns
returns g c =
    let sound = g.G.Game.sound c.args.g.now in
    let b = (agrees_right _ sound c.args.book.now).0 (c.agrees.ensures.0 c.if-not-agrees.false) in
    record {
      values = b.0;
      book = b.1;
      only = λ others h. one_book _ others c.args.book.now h b;
      proper = values_proper sound b.0;
    }
