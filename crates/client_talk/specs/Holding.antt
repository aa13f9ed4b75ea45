-- What is asked for a seat that is to be held.
use Rattle.std.specs.Prelude.{ℕ, if◌then◌else◌, List, [], ◌∷◌, Option, None, Some}
use Rattle.client_talk.specs.Replies.{accepts}
use Rattle.client_talk.specs.Talks.{beat_line, checkin_line, checkout_line, queue_line}
use Rattle.client_talk.specs.declared.hold.Hold.{Hold}
use Rattle.client_talk.specs.declared.hold.Pace.{Pace}
use Rattle.client_talk.specs.declared.want.Want.{Want}
use Rattle.client_talk.specs.declared.want.Want.TheVariants.{Seat, Place}

-- a seat, or where it is to be waited for, a seat or else a place in the queue
abbrev pub seat_line_by : Option ℕ → List ℕ → List ℕ → List ℕ
seat_line_by None feature version = checkout_line feature version
seat_line_by (Some seconds) feature version = queue_line feature version

abbrev pub seat_want_by : Option ℕ → Want
seat_want_by None = Seat
seat_want_by (Some seconds) = Place

abbrev pub seat_line : Hold → List ℕ
seat_line h = seat_line_by h.pace.waiting h.feature.now h.version.now

abbrev pub seat_want : Hold → Want
seat_want h = seat_want_by h.pace.waiting

-- the seconds between BEATs of a client that waits, where this reply brought no seat
abbrev pub waits_by : Pace → List ℕ → Option ℕ
waits_by pace reply = if accepts Seat reply then None else pace.waiting

-- the lines of a seat that is held
abbrev pub hold_lines : Hold → List (List ℕ)
hold_lines h = seat_line h ∷ beat_line h.feature.now ∷ checkin_line h.feature.now ∷ []
