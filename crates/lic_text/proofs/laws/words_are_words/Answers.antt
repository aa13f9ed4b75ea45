use Rattle.lic_text.proofs.WordsOf.{words_are_words}
use Rattle.lic_text.proofs.laws.words_are_words.Goals as goal

pub returns : goal.returns
returns c = words_are_words
