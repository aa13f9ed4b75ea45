-- A desk for tests: it has one seat, which no RESERVE line keeps.
use Rattle.std.specs.Prelude.{◌≡◌, ℕ, List, [], ◌∷◌, None}
use Rattle.options_machine.specs.declared.reply.Entry.{Entry}
use Rattle.options_machine.specs.Rules.{Rules}
use Rattle.options_machine.specs.Run.{after}
use Rattle.options_machine.specs.State.{opening}

abbrev pub one_seat : List Rules
one_seat = record { groups = []; excludes = []; includes = []; maxes = []; reserves = []; count = 1; free = 1; linger = 0; timeout = None } ∷ []

-- after these entries the desk is as at its opening, but for the moment
abbrev pub IsIdle : List Entry → Type 0
IsIdle list = (moment : ℕ) × (after one_seat list ≡ record opening { now = moment })
