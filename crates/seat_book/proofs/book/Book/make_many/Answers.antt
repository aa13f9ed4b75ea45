use Rattle.std.proofs.Common.{◌≡◌, ap, rules, subst, sym, min, length, true, ◌<◌}
use Rattle.lic_types.specs.declared.limits.TheConstants.{LINGER_LIMIT}
use Rattle.options_machine.specs.Rules.{Rules}
use Rattle.options_machine.specs.State.{set_at}
use Rattle.policy.proofs.Books.{set_is}
use Rattle.seat_counters.specs.Counts.{CounterList, HasRoomFor, no_counts}
use Rattle.seat_book.specs.declared.parts.Parts.{Parts}
use Rattle.seat_book.proofs.Books.{counted_none, room_cleared}
use Rattle.seat_book.proofs.book.Book.make_many.Goals as goal

pub invariant_of-result : goal.invariant_of-result
invariant_of-result c =
    let within : 0 < length c.args.sets.items = search rules in
    let first : c.index-first.result.now ≡ set_at c.args.sets.items 0 = set_is c.args.sets.items 0 c.index-first.result.now within c.index-first.ensures in
    let p : Parts = record { seats = c.in_ok-seats.seats; table = c.in_ok-table.table; queue = c.in_ok-queue.queue; counters = c.clear.new.self; moment = 0; set = 0; is_served = true } in
    record {
      rules = search rules;
      set = search rules;
      parties = search rules;
      kept = search rules;
      bounded = search rules;
      unheard = search rules;
      counted = counted_none (set_at c.args.sets.items 0) c.index-first.result.now p (search rules) (search rules) first (ap (λ (k : CounterList). k.counts) c.clear.ensures);
      served = search rules;
      room = record {
        table = subst (λ (r : Rules). c.in_ok-table.table.room ≡ min LINGER_LIMIT r.count) first (search rules);
        queue = search rules;
        lines = λ k less. subst (λ (x : CounterList). HasRoomFor (set_at c.args.sets.items k) x) (sym c.clear.ensures)
            (room_cleared c.args.sets.items c.as_slice.result.now k c.in_ok-counters.counters (no_counts c.index-first.result.now) c.as_slice.ensures.value c.in_ok-counters.ensures.room less);
      };
    }
