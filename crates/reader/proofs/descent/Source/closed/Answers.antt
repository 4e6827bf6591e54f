use Rattle.std.proofs.Common.{ap}
use Rattle.words.specs.Words.{says as told}
use Rattle.reader.proofs.DescentLaws.{bracket, no_bracket}
use Rattle.reader.proofs.descent.Source.closed.Goals as goal

pub returns-in-Close : goal.returns-in-Close
returns-in-Close c =
    bracket c.args.self.now c.args.inner c.word_at-t.ensures.peek c.word_at-t.ensures.moves (ap told c.in-Close.is)

pub returns-in_default : goal.returns-in_default
returns-in_default c =
    no_bracket c.args.self.now c.args.inner c.word_at-t.ensures.peek c.word_at-t.ensures.moves c.refuse.ensures c.in_default.not-Close
