use Rattle.std.proofs.Common.{ℕ, ◌*◌, ◌≤◌, min, subst, arith}
use Rattle.kex_core.specs.Shapes.{plan}
use Rattle.kex_core.specs.Worlds.{run, opening}
use Rattle.kex_core.proofs.Accesses.{firsts_bound}
use Rattle.kex_net.specs.Limits.{limit}
use Rattle.kex_net.proofs.TreeNets.{tree_valid, tree_stages}
use Rattle.kex_net.proofs.Heights.{tree_depth, limit_most}
use Rattle.kex_net.proofs.laws.trees_are_short.Goals as goal

pub returns-clause-valid : goal.returns-clause-valid
returns-clause-valid c = λ n k s two small some t. tree_valid n k two small some s t

pub returns-clause-stages : goal.returns-clause-stages
returns-clause-stages c = λ n k s two small some t. tree_stages n k two small some s t

pub returns-clause-paths : goal.returns-clause-paths
returns-clause-paths c = λ n k s p two small some t l. tree_depth n k two small some s t p l

pub returns-clause-accesses : goal.returns-clause-accesses
returns-clause-accesses c = λ n k s ps p two small some t h l.
    let v = tree_valid n k two small some s t in let g = t.parties in
    let f = firsts_bound (plan s) v.valid p (omega arith) ps h in
    let b = limit_most (plan s) p (t.levels * min k n) ((run (plan s) ps (opening (plan s))).place p) (tree_depth n k two small some s t p l) in
    let e = subst (λ (m : ℕ). limit (t.levels * min k n) s.width ((run (plan s) ps (opening (plan s))).place p) ≤ limit (t.levels * min k n) m ((run (plan s) ps (opening (plan s))).place p)) t.width (omega arith) in omega arith
