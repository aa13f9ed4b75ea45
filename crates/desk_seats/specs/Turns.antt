-- What the calls of a desk's seats do.
use Rattle.std.specs.Prelude.{◌≡◌, ◌↔◌, ◌+◌, ◌*◌, ◌<◌, ◌≤◌, true, false, List, ◌++◌, None, Some}
use Rattle.atomic_table.specs.Seated.{TableId}
use Rattle.kex_core.specs.Costs.{depth}
use Rattle.kex_core.specs.Shapes.{plan}
use Rattle.kex_words.specs.Passes.{IsOut, Pass}
use Rattle.seat_names.specs.declared.turns.Turn.{Turn}
use Rattle.seat_names.specs.declared.turns.Turn.TheVariants as seats
use Rattle.seat_names.specs.Turns.{pass_in_through}
use Rattle.seat_names.specs.Turns as names
use Rattle.seat_names.specs.Ways.{Leads}
use Rattle.kex_gate.specs.declared.passes.GateTurn.{GateTurn}
use Rattle.kex_gate.specs.declared.passes.GateTurn.TheVariants as gate
use Rattle.kex_gate.specs.declared.view.Visit.{Visit}
use Rattle.kex_gate.specs.Passes.{Guest, IsPassFor, Way, guest_with_visit}
use Rattle.kex_gate.specs.Turns.{Met, fast_in_turn, guest_in_turn, met_in_turn, turn_in}
use Rattle.desk_seats.specs.declared.turns.SeatTurn.{SeatTurn}
use Rattle.desk_seats.specs.declared.turns.SeatTurn.TheVariants.{Again, Through}
use Rattle.desk_seats.specs.Passes.{SeatHeld, SeatPass, guest_pass, inside, pass_of, plain_pass, visits_of, way_pass, way_through}

abbrev pub pass_in_turn : SeatTurn → SeatPass
pass_in_turn (Again e) = e
pass_in_turn (Through t) = t

-- the party has to take another turn
abbrev pub IsAgain : SeatTurn → Type 0
IsAgain (Again e) = Unit {0}
IsAgain (Through t) = ⊥

-- the party is through the stages
abbrev pub IsThrough : SeatTurn → Type 0
IsThrough (Again e) = ⊥
IsThrough (Through t) = Unit {0}

-- a turn at seats with no gate
abbrev pub plain_turn : Turn → SeatTurn
plain_turn (seats.Again e) = Again (plain_pass e)
plain_turn (seats.Through t) = Through (plain_pass (pass_in_through t))

-- a turn at seats behind a gate
abbrev pub gate_turn : GateTurn → SeatTurn
gate_turn (gate.Again e) = Again (way_pass e)
gate_turn (gate.Through t) = Through (way_pass (way_through t))

-- from one pass of a party to a later one: with no gate the accesses that are due, one after another, lead there; and behind a gate it had the seats that it had before, and maybe more
pub record Goes (p q : SeatPass) : Type 0 where
  pub table : q.table ≡ p.table
  pub number : q.number ≡ p.number
  pub accesses : p.table.gate ≡ None → (way : List Pass) × Leads (pass_of p) way (pass_of q)
  pub visits : (more : List Visit) × (visits_of q.lane ≡ visits_of p.lane ++ more)

-- the session g took its place at its gate, and goes by the way w: it is fast, with a pass of the gate, where it met fewer others than there are seats, and goes the slow way, with its own pass, where it met as many; and it made no access with that pass yet
pub record Came (g : Guest) (w : Way) : Type 0 where
  pub guest : w.guest ≡ g
  pub met : Met g w.met
  pub few : w.fast ≡ true → w.met < g.gate.seats.net.width
  pub many : w.fast ≡ false → g.gate.seats.net.width ≤ w.met
  pub pass : IsPassFor g w.fast w.pass
  pub rests : IsOut w.pass

-- a party that was Out begins to enter, and is through exactly where the pass that it uses starts at Exit, with which it made no access yet: with no gate its own, and behind one that with which it came
pub record Begins (p : SeatPass) (t : SeatTurn) : Type 0 where
  pub plain : p.table.gate ≡ None → (pass_in_turn t ≡ p) × (IsThrough t ↔ ((plan p.table.net).start p.number ≡ (plan p.table.net).stages))
  pub gated : (id : TableId) → p.table.gate ≡ Some id → (g : Guest) × (w : Way) × (p ≡ guest_pass g) × (pass_in_turn t ≡ way_pass w) × Came g w × (IsThrough t ↔ ((plan p.table.net).start w.pass.number ≡ (plan p.table.net).stages))

-- a session's turn u at its gate, by the way w: one turn of the seats with the pass that it uses
pub record TurnedBy (w : Way) (u : GateTurn) : Type 0 where
  pub guest : guest_in_turn u ≡ w.guest
  pub fast : fast_in_turn u ≡ w.fast
  pub met : met_in_turn u ≡ w.met
  pub turned : names.Turned w.pass (turn_in u)

-- a party took one turn among the stages, and has to take another exactly where the seats said so
pub record Turned (p : SeatPass) (t : SeatTurn) : Type 0 where
  pub plain : p.table.gate ≡ None → (u : Turn) × (t ≡ plain_turn u) × names.Turned (pass_of p) u
  pub gated : (id : TableId) → p.table.gate ≡ Some id → (w : Way) × (u : GateTurn) × (p ≡ way_pass w) × (t ≡ gate_turn u) × TurnedBy w u

-- two ways of one stay of a session
pub record SameWay (v w : Way) : Type 0 where
  pub guest : w.guest ≡ v.guest
  pub fast : w.fast ≡ v.fast
  pub met : w.met ≡ v.met

-- a session that came by this way made few accesses but for reads of spin words: by the fast way no more than four for each seat
pub record IsShort (w : Way) : Type 0 where
  pub fast : w.fast ≡ true → w.pass.firsts ≤ 4 * w.guest.gate.seats.net.width
  pub slow : w.fast ≡ false → w.pass.firsts ≤ 3 * depth (plan w.guest.gate.seats.net) w.guest.number + w.guest.gate.seats.net.width

-- a party came to hold a seat: it made few accesses but for reads of spin words, and behind a gate it came by the way that it was on
pub record Enters (p : SeatPass) (h : SeatHeld) : Type 0 where
  pub plain : p.table.gate ≡ None → h.pass.firsts ≤ 3 * depth (plan p.table.net) p.number + p.table.net.width
  pub gated : (id : TableId) → p.table.gate ≡ Some id → (v : Way) × (w : Way) × (p ≡ way_pass v) × (h.pass.lane ≡ inside w) × SameWay v w × IsShort w

-- a party gave its seat back, and behind a gate the seat is the last that it had, by the way that it came
pub record Leaves (h : SeatHeld) (q : SeatPass) : Type 0 where
  pub gated : (id : TableId) → h.pass.table.gate ≡ Some id → (w : Way) × (h.pass.lane ≡ inside w) × (q ≡ guest_pass (guest_with_visit w.guest h.card.number w.fast))
