-- What the passes of a desk's seats are to whoever has them.
use Rattle.std.specs.Prelude.{◌≡◌, ◌<◌, ℕ, List, [], Option, None, Some}
use Rattle.atomic_table.specs.Seated.{TableId}
use Rattle.kex_core.specs.declared.place.Place.{Place}
use Rattle.kex_core.specs.declared.place.Place.TheVariants.{Out, Dec, Mark, Look, Spin, Naming, Named, Holding, Clearing, Inc, Unmark}
use Rattle.kex_words.specs.declared.card.Card.{Card}
use Rattle.kex_words.specs.Passes.{Held, Pass, TableNet}
use Rattle.seat_names.specs.Turns.{pass_in_through}
use Rattle.kex_gate.specs.declared.view.Visit.{Visit}
use Rattle.kex_gate.specs.Passes.{GateHeld, Guest, Way, WayThrough, fresh, got_held, seats_of}
use Rattle.desk_seats.specs.Views.{SeatsView, gated_seats, plain_seats, table_of}

-- where a party is at the gate: there is none; it is outside; or it took its place there, and goes its way with a pass of the seats
pub data Lane : Type 0 where
  ungated : Lane
  outside : Guest → Lane
  inside : Way → Lane

-- a party's pass: of which seats, which party's, and where that stands; the accesses since it was last Out, but for reads of spin words, and its reads of them; and the numbers that the party took, in order. Behind a gate the place and the accesses are those of the pass that the party uses, and `lane` has that
pub record SeatPass : Type 0 where
  pub table : SeatsView
  pub number : ℕ
  pub place : Place
  pub firsts : ℕ
  pub spins : ℕ
  pub got : List ℕ
  pub lane : Lane

-- a pass that holds a seat, with the seat's card
pub record SeatHeld : Type 0 where
  pub pass : SeatPass
  pub card : Card

-- the seat is one of those of the net
abbrev pub IsLow : SeatHeld → Type 0
IsLow h = h.card.number < h.pass.table.net.width

-- a party of seats with no gate
abbrev pub plain_pass : Pass → SeatPass
plain_pass p = record { table = plain_seats p.table; number = p.number; place = p.place; firsts = p.firsts; spins = p.spins; got = p.got; lane = ungated }

abbrev pub plain_held : Held → SeatHeld
plain_held h = record { pass = plain_pass h.pass; card = h.card }

-- its pass of the seats, where there is no gate
abbrev pub pass_of : SeatPass → Pass
pass_of s = record { table = table_of s.table; number = s.number; place = s.place; firsts = s.firsts; spins = s.spins; got = s.got }

-- a session outside of its gate
abbrev pub guest_pass : Guest → SeatPass
guest_pass g = record { table = gated_seats g.gate; number = g.number; place = Out; firsts = 0; spins = 0; got = seats_of g.visits; lane = outside g }

-- the place of a pass on its way, which holds no seat
abbrev pub place_on_way : Place → Place
place_on_way (Holding s) = Out
place_on_way Out = Out
place_on_way (Dec j) = Dec j
place_on_way (Mark j) = Mark j
place_on_way (Look j) = Look j
place_on_way (Spin j) = Spin j
place_on_way (Naming i) = Naming i
place_on_way (Named s) = Named s
place_on_way (Clearing s) = Clearing s
place_on_way (Inc j) = Inc j
place_on_way (Unmark j) = Unmark j

-- a session on its way to a seat
abbrev pub way_pass : Way → SeatPass
way_pass w = record { table = gated_seats w.guest.gate; number = w.guest.number; place = place_on_way w.pass.place; firsts = w.pass.firsts; spins = w.pass.spins; got = seats_of w.guest.visits; lane = inside w }

-- the way of a session that is through the stages
abbrev pub way_through : WayThrough → Way
way_through t = record { guest = t.guest; fast = t.fast; met = t.met; pass = pass_in_through t.through }

-- and of one that holds a seat
abbrev pub way_held : GateHeld → Way
way_held h = record { guest = h.guest; fast = h.fast; met = h.met; pass = h.held.pass }

-- a session that holds a seat
abbrev pub gate_held : GateHeld → SeatHeld
gate_held h = record {
  pass = record { table = gated_seats h.guest.gate; number = h.guest.number; place = Holding h.held.card.number; firsts = h.held.pass.firsts; spins = h.held.pass.spins; got = got_held h; lane = inside (way_held h) };
  card = h.held.card;
}

-- the seats that a session had, each with the way that it came
abbrev pub visits_of : Lane → List Visit
visits_of ungated = []
visits_of (outside g) = g.visits
visits_of (inside w) = w.guest.visits

-- whoever has taken no place at a gate
abbrev pub IsFree : Lane → Type 0
IsFree ungated = Unit {0}
IsFree (outside g) = Unit {0}
IsFree (inside w) = ⊥

-- a pass that is Out
pub record IsOut (p : SeatPass) : Type 0 where
  pub place_is : p.place ≡ Out
  pub firsts : p.firsts ≡ 0
  pub spins : p.spins ≡ 0
  pub free : IsFree p.lane

-- the lane of a party that never had a seat
abbrev pub first_lane : Option TableId → TableNet → ℕ → Lane
first_lane None t p = ungated
first_lane (Some id) t p = outside (fresh (record { id = id; seats = t }) p)

-- a pass that was never used
abbrev pub unused_seat_pass : SeatsView → ℕ → SeatPass
unused_seat_pass t p = record { table = t; number = p; place = Out; firsts = 0; spins = 0; got = []; lane = first_lane t.gate (table_of t) p }

-- the number that is held at a place
abbrev pub held_at : Place → Option ℕ
held_at (Holding s) = Some s
held_at Out = None
held_at (Dec j) = None
held_at (Mark j) = None
held_at (Look j) = None
held_at (Spin j) = None
held_at (Naming i) = None
held_at (Named s) = None
held_at (Clearing s) = None
held_at (Inc j) = None
held_at (Unmark j) = None
