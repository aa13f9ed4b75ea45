use Rattle.kex_gate.proofs.Rules.{sole_owner, pass_apart, pass_away, slow_met}
use Rattle.kex_gate.proofs.laws.gates_let_few_through.Goals as goal

pub returns-clause-few : goal.returns-clause-few
returns-clause-few c = λ t s r. r.inside

pub returns-clause-sole : goal.returns-clause-sole
returns-clause-sole c = λ t s i r l. sole_owner t s r i l

pub returns-clause-apart : goal.returns-clause-apart
returns-clause-apart c = λ t s i j k v w r a b e f. pass_apart t s r i j k v w a b e f

pub returns-clause-away : goal.returns-clause-away
returns-clause-away c = λ t s i k v r a e. (pass_away t s r i k v a e).1

pub returns-clause-crowded : goal.returns-clause-crowded
returns-clause-crowded c = λ t s i v r a e. slow_met t s r i v a e
