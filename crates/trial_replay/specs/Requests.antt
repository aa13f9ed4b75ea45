-- The requests that a trial's events make.
use Rattle.std.specs.Prelude.{ℕ, zero, suc, ◌/◌, ◌%◌, List, [], ◌∷◌, ◌++◌}
use Rattle.options_machine.specs.declared.reply.Request.{Request}
use Rattle.trial_replay.specs.Events.{client_of, kind_numbered}

-- the request of this number: each party makes four, one of each kind
abbrev pub request_numbered : ℕ → Request
request_numbered number = record { party = number / 4; client = client_of (number / 4); kind = kind_numbered (number % 4) }

-- the requests below this number, in their order
unfoldable pub requests_below : ℕ → List Request
requests_below zero = []
requests_below (suc number) = requests_below number ++ request_numbered number ∷ []
