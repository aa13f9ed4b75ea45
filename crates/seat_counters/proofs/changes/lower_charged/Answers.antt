use Rattle.std.proofs.Common.{◌≡◌, ◌<◌, ◌-◌, ℕ, Bool, cond, List, Some, length, get_or, slice_get, ap, ◌∙◌, arith}
use Rattle.seat_counters.specs.Counts.{is_charged}
use Rattle.seat_counters.proofs.Loops.{later_drop, lowered}
use Rattle.seat_counters.proofs.changes.lower_charged.Goals as goal

pub loop-i-preserved : goal.loop-i-preserved
loop-i-preserved c =
    let counts : List ℕ = c.loop-i.counts in
    let i : ℕ = c.loop-i.i in
    let within : i < length counts = omega (arith, c.loop-i-test.true) in
    let here : slice_get c.args.limits.now i ≡ Some c.at.result = c.at.ensures in
    let value : c.less_if.result ≡ get_or counts i 0 - cond (is_charged c.args.charge.now c.at.result) 1 0 = c.less_if.ensures ∙ ap (λ (b : Bool). get_or counts i 0 - cond b 1 0) c.is_charged.ensures in
    record {
      whole = lowered (is_charged c.args.charge.now) c.args.limits.now counts i c.at.result c.less_if.result within here value ∙ c.loop-i.invariant.whole;
      later = later_drop counts c.args.counts.now i c.less_if.result c.loop-i.invariant.later;
    }
