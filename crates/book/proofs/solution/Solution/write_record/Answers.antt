use Rattle.std.proofs.Common.{◌≡◌, subst, sym}
use Rattle.arena.specs.Book.{AnswerBytes, front}
use Rattle.book.proofs.WriteLaws.{entry_from}
use Rattle.book.proofs.solution.Solution.write_record.Goals as goal

pub returns : goal.returns
returns g c v =
    let a = g.G.Game.meaning c.args.self.now.game.now in
    let e : c.copy_from_slice.new.self ≡ front (v.count c.args.p) (v.spoiling c.args.p) = cc (c.copy_from_slice.ensures.after, c.count.ensures v, c.spoiling.ensures v) in
    entry_from c.args.p c.args.entry.now c.copy_from_slice.new.self c.copy_from_slice-2.new.self c.requires.long e
    (subst (AnswerBytes a v c.args.p) (sym c.copy_from_slice-2.ensures.after) (c.answers.ensures v))
