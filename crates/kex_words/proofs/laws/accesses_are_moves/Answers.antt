use Rattle.kex_words.proofs.Rules.{moves}
use Rattle.kex_words.proofs.laws.accesses_are_moves.Goals as goal

pub returns : goal.returns
returns c = λ s id v d r i. moves s id v r d i
