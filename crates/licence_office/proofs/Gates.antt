-- Desks whose seats stand behind a fast gate.
use Rattle.std.proofs.Common.{◌≡◌, ℕ, ◌+◌, ◌*◌, ◌<◌, ◌≤◌, true, false, List, map, min, is_some, IsSome, None, Result, Ok, Err, IfOk, sym, ap, subst, ◌∙◌}
use Rattle.std.proofs.lemmas.Bool.{and_parts, ltb-true, leb-true}
use Rattle.desk_seats.specs.Views.{parties_at, parties_of}
use Rattle.feature_desk.specs.Sitters.{DeskView}
use Rattle.feature_lines.specs.declared.pool.Pool.{Pool}
use Rattle.kex_core.specs.Shapes.{Sheet}
use Rattle.kex_net.specs.Gates.{IsGated}
use Rattle.kex_net.specs.Trees.{IsTree}
use Rattle.options_machine.specs.Rules.{Rules}
use Rattle.options_machine.specs.State.{in_force, opening}
use Rattle.options_text.specs.Options.{OptionsFile}
use Rattle.policy.specs.Pools.{rules_of}
use Rattle.licence_office.specs.Offices.{IsDeskFor, has_gate}

-- where a gate stands, it has what it asks for
pub gate_room : (n count : ℕ) → has_gate n count ≡ true → (2 * min count n < n) × (n + min count n ≤ 256)
gate_room n count gate =
    let parts = and_parts _ _ gate in
    (ltb-true (2 * min count n) n parts.0, leb-true (n + min count n) 256 parts.1)

-- a desk behind a gate is one of its pool
pub gated_desk : {X E : Type 0} (desk : X → DeskView) (sets : List OptionsFile) (rules : List Rules) (pool : Pool) (n : ℕ) (made : Result X E)
    → rules ≡ map (rules_of pool) sets → (in_force rules opening).count ≡ pool.count → has_gate n pool.count ≡ true
    → IfOk made (λ x. IsSome (desk x).seats.gate × (parties_of (desk x).seats ≡ n) × ((desk x).seats.net.width ≡ min (in_force rules opening).count n))
    → IfOk made (λ x. IsGated n (in_force rules opening).count (desk x).seats.net)
    → IfOk made (λ x. ((desk x).lock.id.parties ≡ n) × ((desk x).lock.law.parties ≡ n) × ((desk x).lock.law.sets ≡ rules))
    → IfOk made (λ x. IsDeskFor sets n pool (desk x))
gated_desk desk sets rules pool n (Ok x) is count gate seats net law = record {
  rules = law.2 ∙ is;
  parties = law.0;
  seated = seats.1;
  gate_is = seats.0 ∙ sym gate;
  seats_are = seats.2 ∙ ap (λ (c : ℕ). min c n) count;
  gated_net = λ has. subst (λ (c : ℕ). IsGated n c (desk x).seats.net) count net;
  tree_net = λ none. absurd (let never : true ≡ false = sym gate ∙ none in cc);
}
gated_desk desk sets rules pool n (Err e) is count gate seats net law = tt

-- a desk over the tree is one of its pool, where no gate can stand
pub tree_desk : {X E : Type 0} (desk : X → DeskView) (sets : List OptionsFile) (rules : List Rules) (pool : Pool) (n : ℕ) (net : Sheet) (made : Result X E)
    → rules ≡ map (rules_of pool) sets → has_gate n pool.count ≡ false → IsTree n pool.count net
    → IfOk made (λ x. (desk x).seats.net ≡ net) → IfOk made (λ x. (desk x).seats.gate ≡ None)
    → IfOk made (λ x. ((desk x).lock.id.parties ≡ net.parties) × ((desk x).lock.law.parties ≡ net.parties) × ((desk x).lock.law.sets ≡ rules))
    → IfOk made (λ x. IsDeskFor sets n pool (desk x))
tree_desk desk sets rules pool n net (Ok x) is none tree same gate law = record {
  rules = law.2 ∙ is;
  parties = law.0 ∙ tree.parties;
  seated = (λ i. parties_at (gate i) (same i)) ∙ tree.parties;
  gate_is = ap is_some gate ∙ sym none;
  seats_are = ap (λ (s : Sheet). s.width) same ∙ tree.width;
  gated_net = λ has. absurd (let never : true ≡ false = sym has ∙ none in cc);
  tree_net = λ no. subst (IsTree n pool.count) (sym same) tree;
}
tree_desk desk sets rules pool n net (Err e) is none tree same gate law = tt
