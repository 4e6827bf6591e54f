use Rattle.reader.specs.Steps.{text_of}
use Rattle.reader.proofs.ScanLaws as scan
use Rattle.reader.proofs.descent.Source.word_at.Goals as goal

pub returns-clause-peek : goal.returns-clause-peek
returns-clause-peek c = scan.word_at (text_of c.args.self.now) c.args.at c.next_word.result c.next_word.ensures.comes c.next_word.ensures.past
