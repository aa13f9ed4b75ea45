use Rattle.std.proofs.Common.{◌≡◌, ℕ, ◌+◌, List, [], map, refl, ap, sym, subst, ◌∙◌, arith}
use Rattle.options_machine.specs.declared.reply.Charge.{Charge}
use Rattle.options_machine.specs.declared.rows.Holder.{Holder}
use Rattle.options_machine.specs.Rules.{Rules}
use Rattle.options_machine.specs.State.{State, is_holder}
use Rattle.options_machine.specs.Step.{holders_anew}
use Rattle.seat_rows.specs.Seats.{SeatList, charged_if}
use Rattle.seat_counters.specs.Counts.{CounterList, counts_with}
use Rattle.seat_book.specs.Charges.{AreAnewBelow, counts_in}
use Rattle.seat_book.specs.Parts.{HasSameRoom, state_of}
use Rattle.seat_book.specs.declared.parts.Parts.{Parts}
use Rattle.seat_book.proofs.Anew.{anew_all, anew_next, anew_none, anew_past, anew_small}
use Rattle.seat_book.proofs.charging.charge_holders.Goals as goal
use Rattle.seat_book.proofs.charging.charge_holders.Goals.{in-Some, in-None}

pub loop-party-init : goal.loop-party-init
loop-party-init c = record {
  anew = anew_none c.args.rules.now c.args.parts.now.seats.holders c.args.parts.now.counters.counts c.requires.none;
  state = refl;
  room = record { parties = refl; table = refl; queue = refl; reserves = refl; maxes = refl };
}

pub raise-requires-clause-small : goal.raise-requires-clause-small
raise-requires-clause-small c =
    anew_small c.args.rules.now c.loop-party.party c.args.parts.now.seats.holders c.loop-party.parts.seats.holders c.loop-party.parts.counters.counts c.loop-party.invariant.anew c.requires.few

pub loop-party-preserved : goal.loop-party-preserved
loop-party-preserved c =
    let r : Rules = c.args.rules.now in
    let old : List Holder = c.args.parts.now.seats.holders in
    let p : Parts = c.loop-party.parts in
    elim c.match-copied.branch [
      | in-None w ↦ record {
        anew = subst (λ (x : Parts). AreAnewBelow r (c.loop-party.party + 1) old x.seats.holders x.counters.counts) (sym w.parts-is)
            (anew_past r c.loop-party.party old p.seats.holders p.counters.counts c.loop-party.invariant.anew (sym (w.in-None.ensures ∙ c.get.ensures.seat)));
        state = subst (λ (x : Parts). state_of x ≡ record (state_of c.args.parts.now) { holders = x.seats.holders }) (sym w.parts-is) c.loop-party.invariant.state;
        room = subst (HasSameRoom c.args.parts.now) (sym w.parts-is) c.loop-party.invariant.room;
      }
      | in-Some w ↦
          let h : Holder = w.in-Some.holder in
          let charge : Charge = w.next_charge-charge.result in
          let next : AreAnewBelow r (c.loop-party.party + 1) old (map (λ (x : Holder). charged_if (is_holder c.loop-party.party x) charge x) p.seats.holders) (counts_with r h.client charge p.counters.counts)
          = anew_next r c.loop-party.party old p.seats.holders p.counters.counts h charge c.loop-party.invariant.anew c.get.ensures.kept.in_order (sym (w.in-Some.ensures ∙ c.get.ensures.seat)) w.next_charge-charge.ensures in
          let counted : AreAnewBelow r (c.loop-party.party + 1) old (map (λ (x : Holder). charged_if (is_holder c.loop-party.party x) charge x) p.seats.holders) w.raise.new.self.counts
          = subst (λ (k : CounterList). AreAnewBelow r (c.loop-party.party + 1) old (map (λ (x : Holder). charged_if (is_holder c.loop-party.party x) charge x) p.seats.holders) k.counts) (sym w.raise.ensures) next in
          let seated : AreAnewBelow r (c.loop-party.party + 1) old w.set_charge.new.self.holders w.raise.new.self.counts
          = subst (λ (l : SeatList). AreAnewBelow r (c.loop-party.party + 1) old l.holders w.raise.new.self.counts) (sym w.set_charge.ensures) counted in
          record {
            anew = subst (λ (x : Parts). AreAnewBelow r (c.loop-party.party + 1) old x.seats.holders x.counters.counts) (sym w.parts-is) seated;
            state = subst (λ (x : Parts). state_of x ≡ record (state_of c.args.parts.now) { holders = x.seats.holders }) (sym w.parts-is) (ap (λ (s : State). record s { holders = w.set_charge.new.self.holders }) c.loop-party.invariant.state);
            room = subst (HasSameRoom c.args.parts.now) (sym w.parts-is) (record {
              parties = ap (λ (l : SeatList). l.parties) w.set_charge.ensures ∙ c.loop-party.invariant.room.parties;
              table = c.loop-party.invariant.room.table;
              queue = c.loop-party.invariant.room.queue;
              reserves = ap (λ (k : CounterList). k.reserve_room) w.raise.ensures ∙ c.loop-party.invariant.room.reserves;
              maxes = ap (λ (k : CounterList). k.max_room) w.raise.ensures ∙ c.loop-party.invariant.room.maxes;
            });
          }
    ]

pub returns-clause-state : goal.returns-clause-state
returns-clause-state c =
    let end : c.loop-party.party ≡ c.args.parts.now.seats.parties = omega (arith, c.parties-party-end.ensures.count) in
    let all : (c.loop-party.parts.seats.holders ≡ holders_anew c.args.rules.now [] c.args.parts.now.seats.holders) × (c.loop-party.parts.counters.counts ≡ counts_in c.args.rules.now (holders_anew c.args.rules.now [] c.args.parts.now.seats.holders) [])
    = anew_all c.args.rules.now c.args.parts.now.seats.parties c.args.parts.now.seats.holders c.loop-party.parts.seats.holders c.loop-party.parts.counters.counts
    (subst (λ (n : ℕ). AreAnewBelow c.args.rules.now n c.args.parts.now.seats.holders c.loop-party.parts.seats.holders c.loop-party.parts.counters.counts) end c.loop-party.invariant.anew)
    c.parties-party-end.ensures.kept.inside in
    c.loop-party.invariant.state ∙ ap (λ (hs : List Holder). record (state_of c.args.parts.now) { holders = hs }) all.0

pub returns-clause-counted : goal.returns-clause-counted
returns-clause-counted c =
    let end : c.loop-party.party ≡ c.args.parts.now.seats.parties = omega (arith, c.parties-party-end.ensures.count) in
    let all : (c.loop-party.parts.seats.holders ≡ holders_anew c.args.rules.now [] c.args.parts.now.seats.holders) × (c.loop-party.parts.counters.counts ≡ counts_in c.args.rules.now (holders_anew c.args.rules.now [] c.args.parts.now.seats.holders) [])
    = anew_all c.args.rules.now c.args.parts.now.seats.parties c.args.parts.now.seats.holders c.loop-party.parts.seats.holders c.loop-party.parts.counters.counts
    (subst (λ (n : ℕ). AreAnewBelow c.args.rules.now n c.args.parts.now.seats.holders c.loop-party.parts.seats.holders c.loop-party.parts.counters.counts) end c.loop-party.invariant.anew)
    c.parties-party-end.ensures.kept.inside in
    all.1 ∙ ap (λ (hs : List Holder). counts_in c.args.rules.now hs []) (sym all.0)
