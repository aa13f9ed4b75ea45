use Rattle.std.proofs.Common.{◌≡◌, ◌<◌, ◌+◌, ℕ, Bool, cond, List, Some, length, get_or, slice_get, ap, sym, ◌∙◌, arith}
use Rattle.options_machine.specs.declared.limits.Limit.{Limit}
use Rattle.seat_counters.specs.Counts.{speaks_of}
use Rattle.seat_counters.proofs.Loops.{at_drop, later_drop, raised}
use Rattle.seat_counters.proofs.changes.raise_matched.Goals as goal

pub more_if-requires : goal.more_if-requires
more_if-requires c =
    let same : get_or c.loop-i.counts c.loop-i.i 0 ≡ get_or c.args.counts.now c.loop-i.i 0 = at_drop c.loop-i.counts c.args.counts.now c.loop-i.i 0 c.loop-i.invariant.later in
    let within : c.loop-i.i < length c.args.counts.now = omega (arith, c.loop-i-test.true) in
    omega (arith, same, c.requires.small c.loop-i.i 0 within)

pub loop-i-preserved : goal.loop-i-preserved
loop-i-preserved c =
    let counts : List ℕ = c.loop-i.counts in
    let i : ℕ = c.loop-i.i in
    let within : i < length counts = omega (arith, c.loop-i-test.true) in
    let here : slice_get c.args.rules.now.maxes i ≡ Some c.at.result = ap (λ (ms : List Limit). slice_get ms c.loop-i.i) (sym c.maxes-limits.ensures) ∙ c.at.ensures in
    let value : c.more_if.result ≡ get_or counts i 0 + cond (speaks_of c.args.rules.now c.args.client.now c.at.result) 1 0 = c.more_if.ensures ∙ ap (λ (b : Bool). get_or counts i 0 + cond b 1 0) c.speaks_of.ensures in
    record {
      whole = raised (speaks_of c.args.rules.now c.args.client.now) c.args.rules.now.maxes counts i c.at.result c.more_if.result within here value ∙ c.loop-i.invariant.whole;
      later = later_drop counts c.args.counts.now i c.more_if.result c.loop-i.invariant.later;
    }
