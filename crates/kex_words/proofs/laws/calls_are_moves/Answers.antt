use Rattle.kex_words.proofs.Rules.{calls}
use Rattle.kex_words.proofs.laws.calls_are_moves.Goals as goal

pub returns : goal.returns
returns c = λ p q m. calls p q m
