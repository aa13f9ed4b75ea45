-- What the code is told of an asking.
use Rattle.std.specs.Prelude.{◌≡◌, ℕ, ◌%◌, ◌^◌, length, Option, None, if◌then◌else◌}
use Rattle.counter.specs.Account.{Account, Asking, brings_seat, seat_of}
use Rattle.options_machine.specs.declared.reply.Reply.{Reply}
use Rattle.session.specs.Table.{seat_in}
use Rattle.session.specs.declared.asking.Answered.{Answered}

-- the seat that a counter has, where the reply brings one
abbrev pub seat_with : Account → Reply → Option ℕ
seat_with a reply = if brings_seat reply then seat_of a else None

-- an answer tells the reply of an entry, its place, and the seat that it brought
pub record IsAnswer (a : Asking) (answer : Answered) : Type 0 where
  pub reply : answer.reply ≡ a.entry.reply
  pub place : answer.place ≡ length a.before % 2 ^ 64
  pub seat : answer.seat ≡ seat_in a.seats
