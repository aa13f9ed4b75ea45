use Rattle.std.proofs.Common.{◌∙◌, ◌<◌, ◌++◌, [], ◌∷◌, ℕ, List, length, ap, sym, subst}
use Rattle.seat_counters.proofs.Loops.{zeros_more}
use Rattle.seat_counters.proofs.changes.clear_for.Goals as goal

pub loop-i-preserved : goal.loop-i-preserved
loop-i-preserved c =
    let within : c.loop-i._i < length c.args.limits.now = subst (λ (n : ℕ). c.loop-i._i < n) c.len-i-end.ensures c.loop-i-test.true in
    record {
      counts = c.push_reserved.ensures.items ∙ ap (λ (ns : List ℕ). ns ++ 0 ∷ []) c.loop-i.invariant.counts ∙ sym (zeros_more c.args.limits.now c.loop-i._i within);
      room = c.push_reserved.ensures.capacity ∙ c.loop-i.invariant.room;
    }
