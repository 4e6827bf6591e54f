use Rattle.words.proofs.WordLaws.{words_one, words_all}
use Rattle.reader.proofs.TreeLaws.{tree_one}
use Rattle.reader.proofs.AgreeLaws as agrees
use Rattle.reader.proofs.FaultLaws as faults
use Rattle.reader.proofs.TextLaws.{text_one}
use Rattle.reader.proofs.reader_stands.Goals as goal

pub returns : goal.returns
returns c = record {
  words_right = record { some = words_all; one = λ p text v w. words_one };
  rule_one = tree_one;
  agree = agrees.agree;
  word_wrong = λ known n ws w rest k. (faults.word_wrong_to known n ws w rest k, faults.word_wrong_from known n ws w rest k);
  end_wrong = λ known n ws. (faults.end_wrong_to known n ws, faults.end_wrong_from known n ws);
  outcome_one = faults.outcome_one;
  text_one = text_one;
}
