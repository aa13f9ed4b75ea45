use Rattle.kex_core.proofs.Accesses.{firsts_bound}
use Rattle.kex_core.proofs.laws.accesses_are_bounded.Goals as goal

pub returns : goal.returns
returns c = λ net ps p valid h l. firsts_bound net valid p l ps h
