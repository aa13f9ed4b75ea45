-- What a desk and its passes are to whoever has them.
use Rattle.std.specs.Prelude.{◌≡◌, ℕ, Bool}
use Rattle.desk_seats.specs.Passes.{SeatPass, unused_seat_pass}
use Rattle.desk_seats.specs.Views.{SeatsView}
use Rattle.turn_lock.specs.Passes.{Lock}
use Rattle.counter.specs.declared.counter.Asked.{Asked}
use Rattle.counter.specs.Account.{Account}
use Rattle.desk_book.specs.declared.book.DeskLaw.{DeskLaw}
use Rattle.desk_book.specs.Askers.{Asker}
use Rattle.desk_book.specs.Askers as book

-- a desk: the lock of its book, and its seats
pub record DeskView : Type 0 where
  pub lock : Lock DeskLaw
  pub seats : SeatsView

-- a party at a desk: its pass of the book, and its pass of the seats
pub record Sitter : Type 0 where
  pub ticket : Asker
  pub seat : SeatPass

-- a party whose entry stands, and whose seat may not agree yet; and whether it is on its way to a seat
pub record NotedView : Type 0 where
  pub sitter : Sitter
  pub asked : Asked
  pub entering : Bool

-- the account of a party at a desk
abbrev pub account_of : Sitter → Account
account_of s = record { sets = s.ticket.law.sets; party = s.ticket.number; mine = s.ticket.mine; seen = s.ticket.seen; got = s.seat.got; board = s.ticket.board; board_seen = s.ticket.known.list }

-- a party's pass is of the desk
pub record IsOf (s : Sitter) (d : DeskView) : Type 0 where
  pub lock : s.ticket.lock ≡ d.lock.id
  pub law : s.ticket.law ≡ d.lock.law
  pub seats : s.seat.table ≡ d.seats

-- a party that has asked nothing yet
abbrev pub newcomer : DeskView → ℕ → Sitter
newcomer d p = record { ticket = book.newcomer d.lock p; seat = unused_seat_pass d.seats p }
