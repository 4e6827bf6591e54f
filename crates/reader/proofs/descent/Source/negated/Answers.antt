use Rattle.std.proofs.Common.{ap}
use Rattle.words.specs.Words.{says as told}
use Rattle.reader.proofs.DescentLaws.{named_comes, unnamed}
use Rattle.reader.proofs.descent.Source.negated.Goals as goal

pub returns-in-Name : goal.returns-in-Name
returns-in-Name c =
    named_comes c.args.self.now c.word_at-t.ensures.peek c.word_at-t.ensures.moves _ _ (ap told c.in-Name.is) c.literal.result c.literal.ensures

pub returns-in_default : goal.returns-in_default
returns-in_default c =
    unnamed c.args.self.now c.word_at-t.ensures.peek c.word_at-t.ensures.moves c.refuse.ensures c.in_default.not-Name
