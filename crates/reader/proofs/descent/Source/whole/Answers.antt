use Rattle.std.proofs.Common.{[]}
use Rattle.reader.specs.Steps.{names_of}
use Rattle.reader.proofs.PassLaws.{passes}
use Rattle.reader.proofs.DescentLaws.{stops_later, no_end}
use Rattle.reader.proofs.descent.Source.whole.Goals as goal

pub returns-in_default : goal.returns-in_default
returns-in_default c =
    let src = c.args.self.now in
    let h = c.in_ok-found.ensures in
    let y = passes (names_of src) h.0.derives in
    stops_later h.0.passed (y.1 []) (no_end src c.in_ok-found.found c.word_at-t.ensures.peek c.word_at-t.ensures.moves c.refuse.ensures c.in_default.not-End h.1 y.0)
