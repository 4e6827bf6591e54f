use Rattle.std.proofs.Common.{rules, ◌≡◌, ◌++◌, length, take, drop, refl, sym, subst, arith}
use Rattle.std.proofs.lemmas.List.{take_at, drop_at}
use Rattle.arena.specs.Book.{Book}
use Rattle.arena.proofs.SettleLaws.{in_time}
use Rattle.arena.proofs.ControlLaws.{held_right, values_proper}
use Rattle.arena.proofs.ValueLaws.{values}
use Rattle.arena.proofs.BookLaws.{one_book}
use Rattle.book.specs.Solving.{short}
use Rattle.book.proofs.solve.solve.Goals as goal

pub returns-then-book-len-clause-solves : goal.returns-then-book-len-clause-solves
returns-then-book-len-clause-solves g c = record { cause = short refl (omega arith) (in_time _ (g.G.Game.sound c.args.g.now)) (omega arith); same = refl }

pub returns-clause-solves : goal.returns-clause-solves
returns-clause-solves g c =
    let a = g.G.Game.meaning c.args.g.now in
    let sound = g.G.Game.sound c.args.g.now in
    let bytes = c.write_book.new.book in
    let len = c.book_length-len.result in
    let rest = drop len c.args.book.now in
    let same : c.in_ok-solution.solution.game.now.game.now ≡ c.args.g.now = search rules in
    let b : Book a (values a) bytes = subst (λ h. Book (g.G.Game.meaning h) (values (g.G.Game.meaning h)) bytes) same (c.write_book.ensures (values _)) in
    let long : length bytes ≡ len = omega (arith, b.long) in
    let whole : Book a (values a) (take len (bytes ++ rest)) = subst (Book a (values a)) (sym (take_at bytes rest len long)) b in
    record {
      long = c.book_length-len.ensures;
      values = values a;
      book = whole;
      only = λ others h. one_book a others _ h (values a, whole);
      proper = values_proper sound (values a);
      held = held_right a sound;
      rest = drop_at bytes rest len long;
    }

-- no game needs a 257th sweep
pub returns-then-size-eq0-clause-in_time : goal.returns-then-size-eq0-clause-in_time
returns-then-size-eq0-clause-in_time g c = in_time _ (g.G.Game.sound c.args.g.now)

pub returns-in_err-solution-clause-in_time : goal.returns-in_err-solution-clause-in_time
returns-in_err-solution-clause-in_time g c = in_time _ (g.G.Game.sound c.args.g.now)

pub returns-then-book-len-clause-in_time : goal.returns-then-book-len-clause-in_time
returns-then-book-len-clause-in_time g c = in_time _ (g.G.Game.sound c.args.g.now)

pub returns-clause-in_time : goal.returns-clause-in_time
returns-clause-in_time g c = in_time _ (g.G.Game.sound c.args.g.now)
