-- What a turn at a gate leads to, and what a session met that took its place.
use Rattle.std.specs.Prelude.{◌≡◌, ℕ, Bool}
use Rattle.kex_words.specs.Passes.{Pass}
use Rattle.pass_roles.specs.Roles.{total}
use Rattle.seat_names.specs.declared.turns.Turn.{Turn}
use Rattle.seat_names.specs.declared.turns.Turn.TheVariants as turn
use Rattle.seat_names.specs.Turns as seats
use Rattle.kex_gate.specs.declared.passes.GateTurn.{GateTurn}
use Rattle.kex_gate.specs.declared.passes.GateTurn.TheVariants.{Again, Through}
use Rattle.kex_gate.specs.declared.view.Spot.TheVariants.{Free}
use Rattle.kex_gate.specs.declared.view.View.{View}
use Rattle.kex_gate.specs.Passes.{Guest}
use Rattle.kex_gate.specs.Rule.{GateState, IsGate, busy_in}
use Rattle.kex_gate.specs.Steps.{guest_of}
use Rattle.kex_gate.specs.Laws.{IsSeated}

abbrev pub turn_in : GateTurn → Turn
turn_in (Again e) = turn.Again e.pass
turn_in (Through t) = turn.Through t.through

abbrev pub guest_in_turn : GateTurn → Guest
guest_in_turn (Again e) = e.guest
guest_in_turn (Through t) = t.guest

abbrev pub fast_in_turn : GateTurn → Bool
fast_in_turn (Again e) = e.fast
fast_in_turn (Through t) = t.fast

abbrev pub pass_in_turn : GateTurn → Pass
pass_in_turn t = seats.pass_in_turn (turn_in t)

abbrev pub met_in_turn : GateTurn → ℕ
met_in_turn (Again e) = e.met
met_in_turn (Through t) = t.met

-- this session, which was Free, met k sessions that are not, in a state of the gate's table that meets its rule
pub record Met (g : Guest) (k : ℕ) : Type 0 where
  pub state : GateState
  pub id : ℕ
  pub view : View
  pub ruled : IsGate g.gate.seats state
  pub seated : IsSeated state id view
  pub mine : guest_of g.gate.id view ≡ g
  pub free : view.spot ≡ Free
  pub others : k ≡ total busy_in state.views
