-- What a book keeps.
use Rattle.std.specs.Prelude.{◌≡◌, ℕ, ◌≤◌, ◌<◌, true, min, List, length, vec_capacity}
use Rattle.lic_types.specs.declared.limits.TheConstants.{LINGER_LIMIT, PARTY_LIMIT}
use Rattle.options_machine.specs.Rules.{IsSound, Rules}
use Rattle.options_machine.specs.State.{State, set_at}
use Rattle.options_machine.specs.Law.{AreSets, IsServed}
use Rattle.options_machine.specs.Kept.{IsBounded, IsKept}
use Rattle.seat_counters.specs.Counts.{HasRoomFor, counts_of}
use Rattle.seat_book.specs.Beats.{heard_after}
use Rattle.seat_book.specs.declared.parts.Parts.{Parts}

-- the state that the parts of a book stand for
abbrev pub state_of : Parts → State
state_of p = record { holders = p.seats.holders; lingering = p.table.entries; queue = p.queue.items; now = p.moment; set = p.set }

-- the counters count the seats of the state, by these rules
abbrev pub AreCounted : Rules → Parts → Type 0
AreCounted r p = p.counters.counts ≡ counts_of r (state_of p)

-- the parts keep their room
pub record HasSameRoom (old new : Parts) : Type 0 where
  pub parties : new.seats.parties ≡ old.seats.parties
  pub table : new.table.room ≡ old.table.room
  pub queue : vec_capacity new.queue ≡ vec_capacity old.queue
  pub reserves : new.counters.reserve_room ≡ old.counters.reserve_room
  pub maxes : new.counters.max_room ≡ old.counters.max_room

-- room for all parties, for all that may linger, and for the lines of each rule set
pub record HasRoom (sets : List Rules) (p : Parts) : Type 0 where
  pub table : p.table.room ≡ min LINGER_LIMIT (set_at sets 0).count
  pub queue : p.seats.parties ≤ vec_capacity p.queue
  pub lines : (k : ℕ) → k < length sets → HasRoomFor (set_at sets k) p.counters

-- what holds while a queue is served
pub record IsServable (r : Rules) (p : Parts) : Type 0 where
  pub sound : IsSound r
  pub kept : IsKept r (state_of p)
  pub bounded : IsBounded p.seats.parties (state_of p)
  pub counted : AreCounted r p

-- what a book keeps: its rule sets are of one count, what every step keeps holds, no holder was heard later than now, the counters count its seats, nobody waits who could have a seat where it says so, and there is room
pub record IsBookKept (sets : List Rules) (p : Parts) : Type 0 where
  pub rules : AreSets sets (set_at sets 0).count
  pub set : p.set < length sets
  pub parties : p.seats.parties ≤ PARTY_LIMIT
  pub kept : IsKept (set_at sets p.set) (state_of p)
  pub bounded : IsBounded p.seats.parties (state_of p)
  pub unheard : heard_after p.moment p.seats.holders ≡ 0
  pub counted : AreCounted (set_at sets p.set) p
  pub served : p.is_served ≡ true → IsServed (set_at sets p.set) (state_of p)
  pub room : HasRoom sets p
