use Rattle.std.proofs.Common.{◌++◌, ◌<◌, ℕ, List, Bool, length, sym, ap, ◌∙◌}
use Rattle.std.proofs.lemmas.List.Elements.{All-push}
use Rattle.lic_types.specs.declared.client.RuleLine.{RuleLine}
use Rattle.policy.specs.Barring.{bars}
use Rattle.policy.specs.Places.{lines_at}
use Rattle.policy.proofs.Placings.{chosen_more, passed_over}
use Rattle.policy.proofs.chosen.places_of.Goals as goal
use Rattle.policy.proofs.chosen.places_of.Goals.{then-bars+in_ok-push, else-bars}

pub loop-place-preserved : goal.loop-place-preserved
loop-place-preserved c =
    let lines : List RuleLine = c.args.lines.now in
    let p : RuleLine → Bool = bars c.args.barring c.args.feature.now in
    let place : ℕ = c.loop-place.place in
    elim c.if-bars.branch [
      | then-bars+in_ok-push w ↦
          let items = ap (λ (v : _). v.items) w.places-is ∙ w.in_ok-push.ensures.items in
          record {
            found =
                rw items (chosen_more p lines c.loop-place.places.items place c.index-lines-place.result c.loop-place-test.true c.index-lines-place.is (sym c.bars.ensures ∙ w.if-bars.true) ∙ c.loop-place.invariant.found);
            there = rw items (All-push (λ (n : ℕ). n < length lines) c.loop-place.places.items place c.loop-place.invariant.there c.loop-place-test.true);
          }
      | else-bars w ↦
          record {
            found =
                rw w.places-is
                (ap (λ (xs : List RuleLine). lines_at lines c.loop-place.places.items ++ xs) (passed_over p lines place c.index-lines-place.result c.loop-place-test.true c.index-lines-place.is (sym c.bars.ensures ∙ w.if-bars.false)) ∙ c.loop-place.invariant.found);
            there = rw w.places-is c.loop-place.invariant.there;
          }
    ]
