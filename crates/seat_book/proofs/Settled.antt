use Rattle.std.proofs.Common.{◌≡◌, ℕ, ◌<◌, [], refl, ap, sym, ◌∙◌, arith, ltb, leb}
use Rattle.std.specs.List.{find}
use Rattle.std.specs.Option.{option_map}
use Rattle.std.proofs.lemmas.Bool.{lt-ltb}
use Rattle.lic_types.specs.declared.client.Client.{Client}
use Rattle.options_machine.specs.declared.rows.Holder.{Holder}
use Rattle.options_machine.specs.declared.rows.Lingerer.{Lingerer}
use Rattle.options_machine.specs.Rules.{Rules}
use Rattle.options_machine.specs.State.{State, in_use}
use Rattle.options_machine.specs.Decide.{has_room, number_of_limit, reserve_line_with_room}
use Rattle.options_machine.specs.Law.{IsServed}
use Rattle.options_machine.specs.Settle.{later_moment, serve, settle, timely}
use Rattle.options_machine.specs.Kept.{IsBounded, IsKept}
use Rattle.options_machine.proofs.Counts.{length-filter_le}
use Rattle.options_machine.proofs.Keeps.{Keeps, keeps_timely, timed_count}
use Rattle.options_machine.proofs.Moments.{moved_within}
use Rattle.options_machine.proofs.Stays.{served_stays}

-- the first RESERVE line with room, while fewer seats are in use than there are
pub reserved_within : (r : Rules) (s : State) (client : Client) → in_use s < r.count → reserve_line_with_room r s client ≡ option_map number_of_limit (find (has_room r s client) r.reserves)
reserved_within r s client h = rw (lt-ltb (in_use s) r.count h) refl

-- what is over goes, and what every step keeps stays
pub kept_timely : (r : Rules) (s : State) (moment : ℕ) → IsKept r s → IsKept r (timely r s moment)
kept_timely r s moment k =
    let all : Keeps r (record (timely r s moment) { queue = [] }) s.queue = keeps_timely r s moment k in
    record { within = all.within; reserved = all.reserved; single = λ p. omega (arith, all.single p) }

pub bounded_timely : (n : ℕ) (r : Rules) (s : State) (moment : ℕ) → IsBounded n s → IsBounded n (timely r s moment)
bounded_timely n r s moment b = record {
  outside = omega (arith, b.outside, timed_count (λ (h : Holder). leb n h.party) r.timeout (later_moment s.now moment) s.holders);
  lingering = omega (arith, b.lingering, length-filter_le (λ (l : Lingerer). ltb (later_moment s.now moment) l.until) s.lingering);
  moment = moved_within s.now moment b.moment;
}

-- where nothing went and nobody waits who could have a seat, serving changes nothing
pub settled_alone : (r : Rules) (s t : State) (moment : ℕ) → t ≡ timely r s moment → t ≡ record s { now = later_moment s.now moment } → IsServed r s → t ≡ settle r s moment
settled_alone r s t moment e f served =
    let u : State = record s { now = later_moment s.now moment } in
    f ∙ sym (ap (λ (v : State). serve r (record v { queue = [] }) s.queue) (sym e ∙ f) ∙ served_stays r u served)
