use Rattle.std.proofs.Common.{◌≡◌, ◌≢◌, ⊎_elim, inl, inr}
use Rattle.kex_core.proofs.Sums.{same_or}
use Rattle.kex_core.proofs.Moves.{path_start, path_next, before_is}
use Rattle.kex_core.proofs.laws.paths_follow_next.Goals as goal

pub returns-clause-begins : goal.returns-clause-begins
returns-clause-begins c = λ net p valid l. path_start net valid p l

pub returns-clause-goes_on : goal.returns-clause-goes_on
returns-clause-goes_on c = λ net p j valid l s o. path_next net valid p l j s o

pub returns-clause-nothing_else : goal.returns-clause-nothing_else
returns-clause-nothing_else c = λ net p j valid l s o. ⊎_elim (λ (e : net.start p ≡ j). inl e)
    (λ (d : net.start p ≢ j). let r = before_is net valid p l j s o d in inr (r.2, r.1, r.0)) (same_or (net.start p) j)
