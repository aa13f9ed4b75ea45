use Rattle.std.proofs.Common.{◌≡◌, ℕ, List, false, ap, sym, subst, ◌∙◌}
use Rattle.std.specs.List.{remove}
use Rattle.options_machine.specs.declared.decision.Decision.TheVariants.{Grant, Retake}
use Rattle.options_machine.specs.declared.rows.Queuer.{Queuer}
use Rattle.options_machine.specs.Rules.{Rules}
use Rattle.options_machine.specs.State.{State}
use Rattle.options_machine.specs.Decide.{decide}
use Rattle.options_machine.specs.Kept.{IsBounded, IsKept}
use Rattle.options_machine.specs.Settle.{with_seat, with_seat_again}
use Rattle.options_machine.proofs.Keeps.{retakes}
use Rattle.policy.proofs.Offers.{offers_again, offers_seat, offers_barred, offers_capped, offers_full}
use Rattle.seat_counters.specs.Counts.{CounterList}
use Rattle.seat_counters.proofs.Effects.{counts_of-with_seat_again}
use Rattle.seat_book.specs.Parts.{state_of}
use Rattle.seat_book.proofs.Books.{counted_same}
use Rattle.seat_book.proofs.Offering.{bounded_seat, bounded_seat_again, grant_within, kept_seat, kept_seat_again, queuer_has_none}
use Rattle.seat_book.proofs.serving.offer.Goals as goal

pub seat_again-requires-clause-none : goal.seat_again-requires-clause-none
seat_again-requires-clause-none c = queuer_has_none c.args.rules.now (state_of c.args.parts.now) c.args.at c.index.result.now c.requires.place c.index.ensures c.requires.servable.kept

pub seat-requires-clause-none : goal.seat-requires-clause-none
seat-requires-clause-none c = queuer_has_none c.args.rules.now (state_of c.args.parts.now) c.args.at c.index.result.now c.requires.place c.index.ensures c.requires.servable.kept

pub seat-requires-clause-few : goal.seat-requires-clause-few
seat-requires-clause-few c = grant_within c.args.rules.now (state_of c.args.parts.now) c.index.result.now c.in-Grant.charge (sym c.decide.ensures ∙ c.in-Grant.is) c.requires.servable.sound c.requires.servable.kept

pub returns-in-Retake-clause-state : goal.returns-in-Retake-clause-state
returns-in-Retake-clause-state c =
    offers_again c.args.rules.now (state_of c.args.parts.now) (state_of c.seat_again.new.parts) c.args.at c.index.result.now c.in-Retake.charge
    c.requires.place c.index.ensures (sym c.decide.ensures ∙ c.in-Retake.is)
    (c.seat_again.ensures.state ∙ ap (λ (xs : List Queuer). with_seat_again (record (state_of c.args.parts.now) { queue = xs }) c.index.result.now.party c.index.result.now.client c.in-Retake.charge false) c.remove-served.ensures.items)

pub returns-in-Retake-clause-servable : goal.returns-in-Retake-clause-servable
returns-in-Retake-clause-servable c =
    let r : Rules = c.args.rules.now in
    let s : State = state_of c.args.parts.now in
    let q : Queuer = c.index.result.now in
    let d : decide r s q.client ≡ Retake c.in-Retake.charge = sym c.decide.ensures ∙ c.in-Retake.is in
    let t : State = with_seat_again (record s { queue = remove s.queue c.args.at }) q.party q.client c.in-Retake.charge false in
    let state : state_of c.seat_again.new.parts ≡ t
    = c.seat_again.ensures.state ∙ ap (λ (xs : List Queuer). with_seat_again (record s { queue = xs }) q.party q.client c.in-Retake.charge false) c.remove-served.ensures.items in
    record {
      sound = c.requires.servable.sound;
      kept = subst (IsKept r) (sym state) (kept_seat_again r s c.args.at q c.in-Retake.charge c.requires.place c.index.ensures d c.requires.servable.kept);
      bounded = subst (λ (n : ℕ). IsBounded n (state_of c.seat_again.new.parts)) (sym c.seat_again.ensures.room.parties)
          (subst (IsBounded c.args.parts.now.seats.parties) (sym state) (bounded_seat_again c.args.parts.now.seats.parties s c.args.at q c.in-Retake.charge c.requires.place c.index.ensures (retakes r s q.client c.in-Retake.charge d) c.requires.servable.bounded));
      counted = counted_same r c.args.parts.now c.seat_again.new.parts t c.requires.servable.counted (ap (λ (x : CounterList). x.counts) c.seat_again.ensures.counters) state
          (counts_of-with_seat_again r (record s { queue = remove s.queue c.args.at }) q.party q.client c.in-Retake.charge false (retakes r s q.client c.in-Retake.charge d));
    }

pub returns-in-Grant-clause-state : goal.returns-in-Grant-clause-state
returns-in-Grant-clause-state c =
    offers_seat c.args.rules.now (state_of c.args.parts.now) (state_of c.seat.new.parts) c.args.at c.index.result.now c.in-Grant.charge
    c.requires.place c.index.ensures (sym c.decide.ensures ∙ c.in-Grant.is)
    (c.seat.ensures.state ∙ ap (λ (xs : List Queuer). with_seat (record (state_of c.args.parts.now) { queue = xs }) c.index.result.now.party c.index.result.now.client c.in-Grant.charge false) c.remove-served-in-Grant.ensures.items)

pub returns-in-Grant-clause-servable : goal.returns-in-Grant-clause-servable
returns-in-Grant-clause-servable c =
    let r : Rules = c.args.rules.now in
    let s : State = state_of c.args.parts.now in
    let q : Queuer = c.index.result.now in
    let d : decide r s q.client ≡ Grant c.in-Grant.charge = sym c.decide.ensures ∙ c.in-Grant.is in
    let t : State = with_seat (record s { queue = remove s.queue c.args.at }) q.party q.client c.in-Grant.charge false in
    let state : state_of c.seat.new.parts ≡ t
    = c.seat.ensures.state ∙ ap (λ (xs : List Queuer). with_seat (record s { queue = xs }) q.party q.client c.in-Grant.charge false) c.remove-served-in-Grant.ensures.items in
    record {
      sound = c.requires.servable.sound;
      kept = subst (IsKept r) (sym state) (kept_seat r s c.args.at q c.in-Grant.charge c.requires.place c.index.ensures d c.requires.servable.sound c.requires.servable.kept);
      bounded = subst (λ (n : ℕ). IsBounded n (state_of c.seat.new.parts)) (sym c.seat.ensures.room.parties)
          (subst (IsBounded c.args.parts.now.seats.parties) (sym state) (bounded_seat c.args.parts.now.seats.parties s c.args.at q c.in-Grant.charge c.requires.place c.index.ensures c.requires.servable.bounded));
      counted = c.seat.ensures.counted;
    }

pub returns-in-Barred-clause-state : goal.returns-in-Barred-clause-state
returns-in-Barred-clause-state c =
    offers_barred c.args.rules.now (state_of c.args.parts.now) c.args.at c.index.result.now c.in-Barred.field-0 c.requires.place c.index.ensures (sym c.decide.ensures ∙ c.in-Barred.is)

pub returns-in-Capped-clause-state : goal.returns-in-Capped-clause-state
returns-in-Capped-clause-state c =
    offers_capped c.args.rules.now (state_of c.args.parts.now) c.args.at c.index.result.now c.in-Capped.field-0 c.requires.place c.index.ensures (sym c.decide.ensures ∙ c.in-Capped.is)

pub returns-in-Full-clause-state : goal.returns-in-Full-clause-state
returns-in-Full-clause-state c =
    offers_full c.args.rules.now (state_of c.args.parts.now) c.args.at c.index.result.now c.requires.place c.index.ensures (sym c.decide.ensures ∙ c.in-Full.is)
