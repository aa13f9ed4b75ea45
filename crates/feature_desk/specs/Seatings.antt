-- What the calls of a desk do.
use Rattle.std.specs.Prelude.{◌≡◌, ◌≢◌, ◌↔◌, ℕ, Bool, true, false, [], ◌∷◌, ◌++◌, None}
use Rattle.kex_core.specs.declared.place.Place.TheVariants.{Holding}
use Rattle.kex_core.specs.Shapes.{plan}
use Rattle.desk_seats.specs.declared.turns.SeatTurn.{SeatTurn}
use Rattle.desk_seats.specs.declared.turns.SeatTurn.TheVariants as turn
use Rattle.desk_seats.specs.Passes.{IsOut, SeatPass}
use Rattle.desk_seats.specs.Turns.{Begins, Goes, Turned}
use Rattle.counter.specs.Account.{brings_seat}
use Rattle.feature_desk.specs.declared.passes.Seating.{Seating}
use Rattle.feature_desk.specs.declared.passes.Seating.TheVariants.{Again, Matched}
use Rattle.feature_desk.specs.Sitters.{DeskView, IsOf, NotedView, Sitter}

-- a seat that an entry brought was entered; one that is held on stays; any other is left
abbrev pub Matches : Bool → Bool → SeatPass → SeatPass → Type 0
Matches true held old new = (s : ℕ) × (new.place ≡ Holding s) × (new.got ≡ old.got ++ s ∷ [])
Matches false true old new = ((s : ℕ) × (new.place ≡ Holding s)) × (new ≡ old)
Matches false false old new = IsOut new × (new.got ≡ old.got)

-- the seat agrees with what was asked
pub record MatchedAs (n : NotedView) (p : Sitter) : Type 0 where
  pub ticket : p.ticket ≡ n.sitter.ticket
  pub seat : Matches (brings_seat n.asked.reply) n.asked.held n.sitter.seat p.seat
  pub goes : Goes n.sitter.seat p.seat

-- the party is on its way to a seat, and has taken none
pub record WaitsOn (n m : NotedView) : Type 0 where
  pub ticket : m.sitter.ticket ≡ n.sitter.ticket
  pub asked : m.asked ≡ n.asked
  pub entering : m.entering ≡ true
  pub got : m.sitter.seat.got ≡ n.sitter.seat.got
  pub goes : Goes n.sitter.seat m.sitter.seat

-- what a step towards a seat leads to
abbrev pub Steps : NotedView → Seating → Type 0
Steps n (Again m) = WaitsOn n m
Steps n (Matched p asked) = MatchedAs n p × (asked ≡ n.asked)

-- the party has to take another step
abbrev pub IsUnderWay : Seating → Type 0
IsUnderWay (Again m) = Unit {0}
IsUnderWay (Matched p asked) = ⊥

-- a turn at the seats is all that a step takes: where the party has to take another one its seat is as the turn left it, and else it is named from there
abbrev pub Gives : SeatTurn → Seating → Type 0
Gives (turn.Again e) (Again m) = m.sitter.seat ≡ e
Gives (turn.Again e) (Matched p asked) = ⊥
Gives (turn.Through t) (Again m) = ⊥
Gives (turn.Through t) (Matched p asked) = Goes t p.seat

-- a first step leaves what is held and begins to enter; a later one is a turn
abbrev pub Starts : Bool → SeatPass → SeatTurn → Type 0
Starts false p t = (out : SeatPass) × IsOut out × Goes p out × Begins out t
Starts true p t = Turned p t

-- a first step goes on where what it begins does: with no gate before the seats it goes past a start at Exit alone
pub record FirstStep (p : SeatPass) (s : Seating) : Type 0 where
  pub plain : p.table.gate ≡ None → IsUnderWay s ↔ ((plan p.table.net).start p.number ≢ (plan p.table.net).stages)
  pub begun : (t : SeatTurn) × Starts false p t × Gives t s

-- where no seat has to be entered, none has to be taken; a later step than the first is one turn at the seats, and goes on where that did
abbrev pub GoesOn : Bool → Bool → SeatPass → Seating → Type 0
GoesOn false entering p s = IsUnderWay s → ⊥
GoesOn true false p s = FirstStep p s
GoesOn true true p s = (t : SeatTurn) × Turned p t × Gives t s

-- the seat is as it was
abbrev pub Keeps : NotedView → Seating → Type 0
Keeps n (Again m) = m.sitter.seat ≡ n.sitter.seat
Keeps n (Matched p asked) = p.seat ≡ n.sitter.seat

-- the party is of this desk
abbrev pub IsAt : Seating → DeskView → Type 0
IsAt (Again m) d = IsOf m.sitter d
IsAt (Matched p asked) d = IsOf p d
