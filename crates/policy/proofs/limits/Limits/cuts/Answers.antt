use Rattle.std.proofs.Common.{◌≡◌, ◌++◌, [], ◌∷◌, List, sym, ap, ◌∙◌}
use Rattle.options_machine.specs.declared.limits.Cut.{Cut}
use Rattle.options_machine.specs.Rules.{cut_at}
use Rattle.policy.proofs.Finds.{filter_map_found, filter_map_passed}
use Rattle.policy.proofs.limits.Limits.cuts.Goals as goal
use Rattle.policy.proofs.limits.Limits.cuts.Goals.{in-Some+in_ok-push, in_default}

pub loop-i-preserved : goal.loop-i-preserved
loop-i-preserved c =
    elim c.match-cut_at.branch [
      | in-Some+in_ok-push w ↦
          let items : c.match-cut_at.cuts.items ≡ c.loop-i.cuts.items ++ w.in-Some.cut ∷ [] = rw w.cuts-is w.in_ok-push.ensures.items in
          rw items (filter_map_found cut_at c.loop-i.cuts.items c.args.self.now c.loop-i.i c.at.result w.in-Some.cut c.at.ensures (sym w.in-Some.ensures) ∙ c.loop-i.invariant)
      | in_default w ↦
          rw w.cuts-is
          (ap (λ (cs : List Cut). c.loop-i.cuts.items ++ cs) (filter_map_passed cut_at c.args.self.now c.loop-i.i c.at.result c.at.ensures (sym w.in_default.ensures)) ∙ c.loop-i.invariant)
    ]
