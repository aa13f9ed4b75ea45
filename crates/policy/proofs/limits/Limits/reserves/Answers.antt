use Rattle.std.proofs.Common.{◌≡◌, ◌++◌, [], ◌∷◌, ◌-◌, min, ◌<◌, ℕ, List, length, ap, ◌∙◌, refl}
use Rattle.std.proofs.lemmas.List.Elements.{All-push}
use Rattle.lic_types.specs.declared.client.RuleLine.{RuleLine}
use Rattle.options_machine.specs.declared.limits.Limit.{Limit}
use Rattle.options_machine.specs.Rules.{cut_limits, left_of, reserve_of}
use Rattle.policy.specs.Limits.{limits_at}
use Rattle.policy.specs.declared.limits.PlacedLimit.{PlacedLimit}
use Rattle.policy.proofs.Placings.{cut_more, left_more, limits_passed}
use Rattle.policy.proofs.limits.Limits.reserves.Goals as goal
use Rattle.policy.proofs.limits.Limits.reserves.Goals.{in-Some+in_ok-push, in_default}

pub loop-place-preserved : goal.loop-place-preserved
loop-place-preserved c =
    let lines : List RuleLine = c.as_slice-lines.result.now in
    let place : ℕ = c.loop-place.place in
    let left : ℕ = c.loop-place.left in
    elim c.match-reserve_of.branch [
      | in-Some+in_ok-push w ↦
          let asked : ℕ = w.in-Some.asked in
          let added : PlacedLimit = record { place = place; number = min asked left } in
          let items : c.match-reserve_of.limits.items ≡ c.loop-place.limits.items ++ added ∷ [] = rw (w.limits-is, w.in_ok-push.ensures.items, w.min-number.ensures) refl in
          let less : c.match-reserve_of.left ≡ left - asked = w.left-is ∙ w.saturating_sub-left.ensures in
          record {
            cut =
                rw (items, less)
                (cut_more (reserve_of c.args.feature.now) lines c.loop-place.limits.items place asked left c.index-lines-place.result c.loop-place-test.true c.index-lines-place.is w.in-Some.ensures
                ∙ c.loop-place.invariant.cut);
            left =
                rw less
                (left_more (reserve_of c.args.feature.now) lines place asked left c.index-lines-place.result c.loop-place-test.true c.index-lines-place.is w.in-Some.ensures
                ∙ c.loop-place.invariant.left);
            there = rw items (All-push (λ (m : PlacedLimit). m.place < length lines) c.loop-place.limits.items added c.loop-place.invariant.there c.loop-place-test.true);
          }
      | in_default w ↦
          let rest = limits_passed (reserve_of c.args.feature.now) lines place c.index-lines-place.result c.loop-place-test.true c.index-lines-place.is w.in_default.ensures in
          record {
            cut =
                rw (w.limits-is, w.left-is)
                (ap (λ (ms : List Limit). limits_at lines c.loop-place.limits.items ++ cut_limits left ms) rest ∙ c.loop-place.invariant.cut);
            left = rw w.left-is (ap (left_of left) rest ∙ c.loop-place.invariant.left);
            there = rw w.limits-is c.loop-place.invariant.there;
          }
    ]
