use Rattle.kex_core.proofs.Runs.{kept_opening, kept_move, safe_of}
use Rattle.kex_core.proofs.laws.moves_keep_the_invariant.Goals as goal

pub returns-clause-opening : goal.returns-clause-opening
returns-clause-opening c = λ net. kept_opening net

pub returns-clause-moves : goal.returns-clause-moves
returns-clause-moves c = λ net w p valid l kept. kept_move net valid w kept p l

pub returns-clause-safe : goal.returns-clause-safe
returns-clause-safe c = λ net w valid kept. safe_of net valid w kept
