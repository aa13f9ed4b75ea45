-- How often each reply came.
use Rattle.std.specs.Prelude.{ℕ, ◌+◌, Bool, true, false, List, ◌∷◌, [], ◌++◌, codes, count_by, decimal}
use Rattle.options_machine.specs.declared.reply.Reply.{Reply}
use Rattle.options_machine.specs.declared.reply.Reply.TheVariants as reply
use Rattle.trial_replay.specs.declared.counts.Counts.{Counts}

abbrev pub is_granted : Reply → Bool
is_granted (reply.Granted charge) = true
is_granted other = false

abbrev pub is_retaken : Reply → Bool
is_retaken (reply.Retaken charge) = true
is_retaken other = false

abbrev pub is_denied : Reply → Bool
is_denied (reply.Denied line) = true
is_denied other = false

abbrev pub is_no_seat : Reply → Bool
is_no_seat (reply.NoSeat taken free) = true
is_no_seat other = false

abbrev pub is_already_held : Reply → Bool
is_already_held reply.AlreadyHeld = true
is_already_held other = false

abbrev pub is_returned : Reply → Bool
is_returned reply.Returned = true
is_returned other = false

abbrev pub is_lingering : Reply → Bool
is_lingering (reply.Lingering until) = true
is_lingering other = false

abbrev pub is_not_held : Reply → Bool
is_not_held reply.NotHeld = true
is_not_held other = false

abbrev pub is_beaten : Reply → Bool
is_beaten reply.Beaten = true
is_beaten other = false

abbrev pub is_held : Reply → Bool
is_held reply.Held = true
is_held other = false

-- how many of these replies there are of each kind
abbrev pub counts_of : List Reply → Counts
counts_of replies = record {
  granted = count_by is_granted replies;
  retaken = count_by is_retaken replies;
  denied = count_by is_denied replies;
  no_seat = count_by is_no_seat replies;
  already_held = count_by is_already_held replies;
  returned = count_by is_returned replies;
  lingering = count_by is_lingering replies;
  not_held = count_by is_not_held replies;
  beaten = count_by is_beaten replies;
  held = count_by is_held replies;
}

-- all ten together
abbrev pub total_of : Counts → ℕ
total_of c = c.granted + c.retaken + c.denied + c.no_seat + c.already_held + c.returned + c.lingering + c.not_held + c.beaten + c.held

-- a word and its number on a line
abbrev pub count_line : List ℕ → ℕ → List ℕ
count_line word number = word ++ decimal number ++ 10 ∷ []

-- the lines of counts
abbrev pub counts_text : Counts → List ℕ
counts_text c =
    count_line (codes "GRANTED ") c.granted ++ count_line (codes "RETAKEN ") c.retaken ++ count_line (codes "DENIED ") c.denied ++ count_line (codes "NOSEAT ") c.no_seat
    ++ count_line (codes "ALREADYHELD ") c.already_held ++ count_line (codes "RETURNED ") c.returned ++ count_line (codes "LINGERING ") c.lingering
    ++ count_line (codes "NOTHELD ") c.not_held ++ count_line (codes "BEATEN ") c.beaten ++ count_line (codes "HELD ") c.held

-- the text of so many events with these counts
abbrev pub events_text : ℕ → Counts → List ℕ
events_text events c = count_line (codes "EVENTS ") events ++ counts_text c
