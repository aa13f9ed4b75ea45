use Rattle.kex_net.proofs.GateNets.{gated_valid, gated_stages}
use Rattle.kex_net.proofs.GateHeights.{gate_depth, other_depth}
use Rattle.kex_net.proofs.laws.gates_are_short.Goals as goal

pub returns-clause-valid : goal.returns-clause-valid
returns-clause-valid c = λ n k s two some room small g. gated_valid n k two some room small s g

pub returns-clause-stages : goal.returns-clause-stages
returns-clause-stages c = λ n k s two some room small g. gated_stages n k two some room small s g

pub returns-clause-of_gate : goal.returns-clause-of_gate
returns-clause-of_gate c = λ n k s p two some room small g a b. gate_depth n k two some room small s g p a b

pub returns-clause-others : goal.returns-clause-others
returns-clause-others c = λ n k s p two some room small g l. other_depth n k two some room small s g p l
