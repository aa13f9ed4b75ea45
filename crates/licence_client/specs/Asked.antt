-- What words ask for.
use Rattle.std.specs.Prelude.{◌≡◌, ℕ, ◌&&◌, ◌==◌, Bool, true, false, nat_eq, nat_le, nat_lt, if◌then◌else◌, List, [], ◌∷◌, map, take, Option, None, Some, codes, option_and_then}
use Rattle.std.specs.List.{position_or_len}
use Rattle.std.specs.Option.{option_map}
use Rattle.std.specs.Cmp.Lexicographic.{pointwise}
use Rattle.lic_text.specs.Lines.{words_of}
use Rattle.lic_text.specs.Number.{number_of}
use Rattle.client_talk.specs.declared.hold.Pace.{Pace}
use Rattle.client_talk.specs.declared.running.Errand.{Errand}
use Rattle.client_talk.specs.declared.running.Errand.TheVariants.{Ask, Status, Hold, Reread, Shutdown}

-- a command as it is written
pub record Written : Type 0 where
  pub command : List ℕ
  pub words : List (List ℕ)

-- how an errand is written
abbrev pub command_of : Errand → Written
command_of (Ask request) = record { command = codes "ask"; words = request.now ∷ [] }
command_of (Status features) = record { command = codes "status"; words = map (λ f. f.now) features.now }
command_of (Hold hold) = record { command = codes "hold"; words = hold.feature.now ∷ hold.version.now ∷ [] }
command_of (Reread number) = record { command = codes "reread"; words = number.now ∷ [] }
command_of Shutdown = record { command = codes "shutdown"; words = [] }

-- what an errand keeps of the pace
abbrev pub KeepsPace : Pace → Errand → Type 0
KeepsPace pace (Ask request) = Unit {0}
KeepsPace pace (Status features) = Unit {0}
KeepsPace pace (Hold hold) = hold.pace ≡ pace
KeepsPace pace (Reread number) = Unit {0}
KeepsPace pace Shutdown = Unit {0}

-- an errand is asked for by its command and words; `status` has a feature at least
pub record IsAskedBy (command : List ℕ) (words : List (List ℕ)) (pace : Pace) (errand : Errand) : Type 0 where
  pub is : command_of errand ≡ record { command = command; words = words }
  pub keeps : KeepsPace pace errand

abbrev pub is : List ℕ → List ℕ → Bool
is command name = pointwise nat_eq command name

-- how many words a command takes, where it is one
abbrev pub takes : List ℕ → ℕ → Bool
takes command count =
    if is command (codes "ask") then count == 1
    else (if is command (codes "status") then nat_lt 0 count
    else (if is command (codes "hold") then count == 2
    else (if is command (codes "reread") then count == 1
    else (if is command (codes "shutdown") then count == 0
    else false))))

-- seconds between BEATs: 1 to 86,400
abbrev pub seconds_within : ℕ → Option ℕ
seconds_within n = if nat_le 1 n && nat_le n 86400 then Some n else None

abbrev pub seconds_of : List ℕ → Option ℕ
seconds_of word = option_and_then seconds_within (number_of word)

-- the seconds while a seat is waited for, where it is to be
abbrev pub if_waits : Bool → ℕ → Option ℕ
if_waits true seconds = Some seconds
if_waits false seconds = None

-- the same seconds with a seat and without
abbrev pub same_pace : Bool → ℕ → Pace
same_pace waits seconds = record { holding = seconds; waiting = if_waits waits seconds }

-- the pace that is asked for: of seconds that are given these, and else 300 with a seat and 10 without
abbrev pub pace_of : Option (List ℕ) → Bool → Option Pace
pace_of None waits = Some (record { holding = 300; waiting = if_waits waits 10 })
pace_of (Some word) waits = option_map (same_pace waits) (seconds_of word)

abbrev pub first : List (List ℕ) → Option (List ℕ)
first [] = None
first (word ∷ words) = Some word

-- the name of a host that stands in a text: the first word of its first line
abbrev pub host_in : List ℕ → Option (List ℕ)
host_in text = first (words_of (take (position_or_len (λ b. b == 10) text) text))
