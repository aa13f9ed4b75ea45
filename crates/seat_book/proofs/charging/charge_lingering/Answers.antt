use Rattle.std.proofs.Common.{◌≡◌, ◌+◌, ◌<◌, List, Option, Some, length, ap, sym, subst, ◌∙◌, arith}
use Rattle.std.specs.Prelude.{IfSome, slice_get, slice_set}
use Rattle.options_machine.specs.declared.reply.Charge.{Charge}
use Rattle.options_machine.specs.declared.rows.Holder.{Holder}
use Rattle.options_machine.specs.declared.rows.Lingerer.{Lingerer}
use Rattle.options_machine.specs.Rules.{Rules}
use Rattle.options_machine.specs.State.{State}
use Rattle.linger_table.specs.Table.{LingeringList}
use Rattle.seat_counters.specs.Counts.{CounterList, counts_with}
use Rattle.seat_book.specs.Charges.{AreAnewUpTo}
use Rattle.seat_book.specs.declared.parts.Parts.{Parts}
use Rattle.seat_book.proofs.Anew.{linger_next, linger_small}
use Rattle.seat_book.proofs.charging.charge_lingering.Goals as goal

pub raise-requires-clause-small : goal.raise-requires-clause-small
raise-requires-clause-small c =
    let long : length c.compact.new.self.entries ≡ length c.args.parts.now.table.entries = ap (λ (x : LingeringList). length x.entries) c.compact.ensures in
    let more : c.loop-at.at < length c.loop-at.parts.table.entries = omega (arith, c.loop-at-test.true, c.len-at-end.ensures.len, long, c.loop-at.invariant.anew.length_stays) in
    linger_small c.args.rules.now c.loop-at.at c.args.parts.now.seats.holders c.args.parts.now.table.entries c.loop-at.parts.table.entries c.loop-at.parts.counters.counts c.loop-at.invariant.anew more c.requires.few

pub loop-at-preserved : goal.loop-at-preserved
loop-at-preserved c =
    let r : Rules = c.args.rules.now in
    let p : Parts = c.loop-at.parts in
    let hs : List Holder = c.args.parts.now.seats.holders in
    let old : List Lingerer = c.args.parts.now.table.entries in
    let l : Lingerer = c.in-Some.entry in
    let charge : Charge = c.next_charge-charge.result in
    let here : slice_get p.table.entries c.loop-at.at ≡ Some l = sym c.in-Some.ensures in
    let charged : c.set_charge.new.self ≡ record p.table { entries = slice_set p.table.entries c.loop-at.at (record l { charge = charge }) }
    = subst (λ (o : Option Lingerer). IfSome o (λ x. c.set_charge.new.self ≡ record p.table { entries = slice_set p.table.entries c.loop-at.at (record x { charge = charge }) })) here c.set_charge.ensures in
    let next : AreAnewUpTo r (c.loop-at.at + 1) hs old (slice_set p.table.entries c.loop-at.at (record l { charge = charge })) (counts_with r l.client charge p.counters.counts)
    = linger_next r c.loop-at.at hs old p.table.entries p.counters.counts l charge c.loop-at.invariant.anew here c.next_charge-charge.ensures in
    let counted : AreAnewUpTo r (c.loop-at.at + 1) hs old (slice_set p.table.entries c.loop-at.at (record l { charge = charge })) c.raise.new.self.counts
    = subst (λ (k : CounterList). AreAnewUpTo r (c.loop-at.at + 1) hs old (slice_set p.table.entries c.loop-at.at (record l { charge = charge })) k.counts) (sym c.raise.ensures) next in
    record {
      anew = subst (λ (t : LingeringList). AreAnewUpTo r (c.loop-at.at + 1) hs old t.entries c.raise.new.self.counts) (sym charged) counted;
      state = ap (λ (s : State). record s { lingering = c.set_charge.new.self.entries }) c.loop-at.invariant.state;
      room = record {
        parties = c.loop-at.invariant.room.parties;
        table = ap (λ (t : LingeringList). t.room) charged ∙ c.loop-at.invariant.room.table;
        queue = c.loop-at.invariant.room.queue;
        reserves = ap (λ (k : CounterList). k.reserve_room) c.raise.ensures ∙ c.loop-at.invariant.room.reserves;
        maxes = ap (λ (k : CounterList). k.max_room) c.raise.ensures ∙ c.loop-at.invariant.room.maxes;
      };
    }
