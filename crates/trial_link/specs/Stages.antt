-- The lines of a trial's client, and when it gives each.
use Rattle.std.specs.Prelude.{ℕ, ◌+◌, Bool, true, false, nat_eq, nat_lt, if◌then◌else◌, List, [], ◌++◌, length, drop, codes, decimal}
use Rattle.std.specs.List.{starts_with}
use Rattle.trial_link.specs.declared.call.Call.{Call}
use Rattle.trial_link.specs.declared.call.Call.TheVariants.{Hello, Checkout, Checkin, Quit}
use Rattle.trial_link.specs.declared.call.Stage.{Stage}
use Rattle.trial_link.specs.declared.call.Stage.TheVariants.{Gives, Awaits, Over}

-- the first line of the client of this number, with its LF
abbrev pub hello_text : ℕ → List ℕ
hello_text number =
    codes "HELLO u" ++ decimal number ++ codes " h" ++ decimal number ++ codes " d" ++ decimal number ++ codes " p" ++ decimal number ++ codes "\n"

-- its lines, each with its LF
abbrev pub line_of : ℕ → Call → List ℕ
line_of number Hello = hello_text number
line_of number Checkout = codes "CHECKOUT trial 1.0\n"
line_of number Checkin = codes "CHECKIN trial\n"
line_of number Quit = codes "QUIT\n"

-- what is left of the line that it gives, of which so many bytes were read
abbrev pub left_of : ℕ → Stage → ℕ → List ℕ
left_of number (Gives call) given = drop given (line_of number call)
left_of number (Awaits call) given = []
left_of number Over given = []

-- whether some is left, where it gives a line
abbrev pub has_more : ℕ → Stage → ℕ → Bool
has_more number (Gives call) given = nat_lt given (length (line_of number call))
has_more number (Awaits call) given = true
has_more number Over given = true

-- whether the line is of a round, or before the rounds
abbrev pub is_of_round : Call → Bool
is_of_round Hello = true
is_of_round Checkout = true
is_of_round Checkin = true
is_of_round Quit = false

-- whether a round is still to be played
abbrev pub goes_on : Stage → Bool
goes_on (Gives call) = is_of_round call
goes_on (Awaits call) = is_of_round call
goes_on Over = false

abbrev pub is_granted : List ℕ → Bool
is_granted piece = starts_with nat_eq piece (codes "GRANTED")

-- where it stands after the reply to this line; `more` tells whether a round is still to be played then
abbrev pub stage_after : Call → List ℕ → Bool → Stage
stage_after Hello reply more = Gives Checkout
stage_after Checkout reply more =
    if starts_with nat_eq reply (codes "NOSEAT") then Gives Checkout
    else (if is_granted reply then Gives Checkin else Over)
stage_after Checkin reply more = if more then Gives Checkout else Gives Quit
stage_after Quit reply more = Over

-- how many rounds are counted after that reply: one more where a licence was given back
abbrev pub played_after : Call → ℕ → ℕ
played_after Hello played = played
played_after Checkout played = played
played_after Checkin played = played + 1
played_after Quit played = played
