-- What passes keep.
use Rattle.std.specs.Prelude.{◌≡◌, ℕ, ◌+◌, Bool, true, false, List, Option, nat_lt, length, None, Some, if◌then◌else◌}
use Rattle.std.specs.List.{list_all}
use Rattle.kex_core.specs.declared.place.Place.{Place}
use Rattle.kex_core.specs.declared.place.Place.TheVariants.{Out, Dec, Mark, Look, Spin, Naming, Named, Holding, Clearing, Inc, Unmark}
use Rattle.desk_seats.specs.Passes.{IsOut, SeatPass}
use Rattle.options_machine.specs.Own.{holds, queues}
use Rattle.counter.specs.declared.counter.Asked.{Asked}
use Rattle.counter.specs.Account.{brings_seat, grants, last_from}
use Rattle.feature_desk.specs.declared.passes.Chair.{Chair}
use Rattle.feature_desk.specs.declared.passes.Chair.TheVariants as chair
use Rattle.feature_desk.specs.declared.passes.DeskState.{DeskState}
use Rattle.feature_desk.specs.declared.passes.DeskState.TheVariants as state
use Rattle.desk_book.specs.Askers.{Asker}
use Rattle.feature_desk.specs.Standing.{is_of_rereading}

-- the pass of the seats
abbrev pub pass_in : Chair → SeatPass
pass_in (chair.Out o) = o
pass_in (chair.Hold h) = h.pass
pass_in (chair.Entering e) = e

abbrev pub is_hold : Chair → Bool
is_hold (chair.Out o) = false
is_hold (chair.Hold h) = true
is_hold (chair.Entering e) = false

abbrev pub is_entering : Chair → Bool
is_entering (chair.Out o) = false
is_entering (chair.Hold h) = false
is_entering (chair.Entering e) = true

-- a pass that holds a number, which is the last that it took
pub record IsHeld (p : SeatPass) (s : ℕ) : Type 0 where
  pub place : p.place ≡ Holding s
  pub last : last_from None p.got ≡ Some s

-- whoever is on its way has its place from its pass alone
abbrev pub Sits : Chair → Type 0
Sits (chair.Out o) = IsOut o
Sits (chair.Hold h) = IsHeld h.pass h.card.number
Sits (chair.Entering e) = Unit {0}

-- what a place is to whoever asks
abbrev pub state_at : Place → DeskState
state_at (Holding s) = state.Hold s
state_at Out = state.Out
state_at (Dec j) = state.Out
state_at (Mark j) = state.Out
state_at (Look j) = state.Out
state_at (Spin j) = state.Out
state_at (Naming i) = state.Out
state_at (Named s) = state.Out
state_at (Clearing s) = state.Out
state_at (Inc j) = state.Out
state_at (Unmark j) = state.Out

-- what a seat, or none, is to whoever asks
abbrev pub state_of : Option ℕ → DeskState
state_of None = state.Out
state_of (Some s) = state.Hold s

-- numbers of seats, of which there are so many
abbrev pub AreLow : ℕ → List ℕ → Type 0
AreLow width got = list_all (λ n. nat_lt n width) got ≡ true

-- what is kept of a party's two passes, whether or not they agree
pub record Belong (t : Asker) (p : SeatPass) : Type 0 where
  pub number : p.number ≡ t.number
  pub low : AreLow p.table.net.width p.got

-- a seat agrees with the party's entries: there is a Hold exactly where the standing reply is of holding, and as many numbers were taken as entries brought a seat
pub record Agree (t : Asker) (c : Chair) (queued : Bool) : Type 0 where
  pub belong : Belong t (pass_in c)
  pub sits : Sits c
  pub rests : is_entering c ≡ false
  pub held : is_hold c ≡ holds t.mine t.number
  pub queued_is : queued ≡ queues t.mine t.number
  pub count : length (pass_in c).got ≡ grants t.mine

-- the last entry stands, and the seat is as it was before it, or on its way to what that entry says
pub record Waits (t : Asker) (c : Chair) (queued : Bool) (asked : Asked) : Type 0 where
  pub belong : Belong t (pass_in c)
  pub sits : Sits c
  pub held : asked.held ≡ holds t.mine t.number
  pub queued_is : queued ≡ queues t.mine t.number
  pub count : length (pass_in c).got + (if brings_seat asked.reply then 1 else 0) ≡ grants t.mine
  -- a seat that is brought is held, and nobody else is on its way to one
  pub brought : brings_seat asked.reply ≡ true → asked.held ≡ true
  pub way : is_entering c ≡ true → brings_seat asked.reply ≡ true
  -- a seat that is held and was not brought is there
  pub stays : brings_seat asked.reply ≡ false → asked.held ≡ true → is_hold c ≡ true
  pub reread : is_of_rereading asked.reply ≡ true → is_hold c ≡ asked.held
