-- A text has one list of words, the computed one.
use Rattle.words.proofs.WordLaws.{words_all, words_one}
use Rattle.words.proofs.reader.words_stand.Goals as goal

pub returns : goal.returns
returns c = λ bs. (words_all bs, λ ws w. words_one w (words_all bs))
