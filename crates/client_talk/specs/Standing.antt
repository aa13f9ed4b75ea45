-- How a client stands at a desk.
use Rattle.std.specs.Prelude.{ℕ, ◌&&◌, Bool, true, false, not, List, Option, None, Some}
use Rattle.client_talk.specs.Replies.{accepts}
use Rattle.client_talk.specs.declared.standing.Standing.{Standing}
use Rattle.client_talk.specs.declared.standing.Standing.TheVariants.{Waiting, Holding}
use Rattle.client_talk.specs.declared.want.Want.{Want}
use Rattle.client_talk.specs.declared.want.Want.TheVariants.{Seat, Place, Beaten, Returned, Left}

-- which replies to a BEAT are wanted
abbrev pub beat_want : Standing → Want
beat_want Waiting = Place
beat_want Holding = Beaten

-- which replies to a CHECKIN are wanted
abbrev pub return_want : Standing → Want
return_want Waiting = Left
return_want Holding = Returned

-- a reply to a BEAT ends a standing: a seat has come to a client that waits
abbrev pub ends : Standing → List ℕ → Bool
ends Waiting reply = accepts Seat reply
ends Holding reply = false

-- a standing goes on behind a turn, with this reply or none
abbrev pub goes_on : Standing → Option (List ℕ) → Bool
goes_on standing None = true
goes_on standing (Some reply) = accepts (beat_want standing) reply && not (ends standing reply)
