use Rattle.std.proofs.Common.{◌≡◌, ◌++◌, [], ◌∷◌, ◌<◌, ℕ, List, length, ap, ◌∙◌}
use Rattle.std.proofs.lemmas.List.Elements.{All-push}
use Rattle.lic_types.specs.declared.client.RuleLine.{RuleLine}
use Rattle.options_machine.specs.declared.limits.Limit.{Limit}
use Rattle.options_machine.specs.Rules.{max_of}
use Rattle.policy.specs.Limits.{limits_at}
use Rattle.policy.specs.declared.limits.PlacedLimit.{PlacedLimit}
use Rattle.policy.proofs.Placings.{limits_more, limits_passed}
use Rattle.policy.proofs.limits.Limits.maxes.Goals as goal
use Rattle.policy.proofs.limits.Limits.maxes.Goals.{in-Some+in_ok-push, in_default}

pub loop-place-preserved : goal.loop-place-preserved
loop-place-preserved c =
    let lines : List RuleLine = c.as_slice-lines.result.now in
    let place : ℕ = c.loop-place.place in
    elim c.match-max_of.branch [
      | in-Some+in_ok-push w ↦
          let added : PlacedLimit = record { place = place; number = w.in-Some.number } in
          let items : c.match-max_of.limits.items ≡ c.loop-place.limits.items ++ added ∷ [] = rw w.limits-is w.in_ok-push.ensures.items in
          record {
            found =
                rw items
                (limits_more (max_of c.args.feature.now) lines c.loop-place.limits.items place w.in-Some.number c.index-lines-place.result c.loop-place-test.true c.index-lines-place.is w.in-Some.ensures
                ∙ c.loop-place.invariant.found);
            there = rw items (All-push (λ (m : PlacedLimit). m.place < length lines) c.loop-place.limits.items added c.loop-place.invariant.there c.loop-place-test.true);
          }
      | in_default w ↦
          record {
            found =
                rw w.limits-is
                (ap (λ (ms : List Limit). limits_at lines c.loop-place.limits.items ++ ms) (limits_passed (max_of c.args.feature.now) lines place c.index-lines-place.result c.loop-place-test.true c.index-lines-place.is w.in_default.ensures)
                ∙ c.loop-place.invariant.found);
            there = rw w.limits-is c.loop-place.invariant.there;
          }
    ]
