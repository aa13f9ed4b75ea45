-- The events of a trial, each of which follows from its number.
use Rattle.std.specs.Prelude.{ℕ, ◌*◌, ◌/◌, ◌%◌, ◌^◌, ◌==◌, if◌then◌else◌, ◌++◌, codes, decimal}
use Rattle.lic_types.specs.declared.client.Client.{Client}
use Rattle.options_machine.specs.declared.reply.Kind.{Kind}
use Rattle.options_machine.specs.declared.reply.Kind.TheVariants.{Beat, Checkin, Checkout, Look}
use Rattle.options_machine.specs.declared.reply.Request.{Request}

-- the number of an event, mixed: 32 bits, of which the highest four give the party and the two lowest of the next four the kind
abbrev pub mixed_number : ℕ → ℕ
mixed_number event = event * 2654435761 % 2 ^ 32

-- the moment of an event
abbrev pub moment_of : ℕ → ℕ
moment_of event = 10 * event

-- the party of an event, below 16
abbrev pub party_of : ℕ → ℕ
party_of event = mixed_number event / 2 ^ 28

-- the kind of this number: a version that is asked for is 1.0, the pool's own
abbrev pub kind_numbered : ℕ → Kind
kind_numbered number =
    if number == 0 then Checkout
    else (if number == 1 then Checkin
    else (if number == 2 then Beat
    else Look))

-- what an event asks
abbrev pub kind_of : ℕ → Kind
kind_of event = kind_numbered (mixed_number event / 2 ^ 24 % 4)

-- the client of a party: two parties are of one user, and each has a host of its own
abbrev pub client_of : ℕ → Client
client_of party = record { user = codes "u" ++ decimal (party % 8); host = codes "h" ++ decimal party; display = codes "d"; project = codes "p" }

-- the request of an event
unfoldable pub request_of : ℕ → Request
request_of event = record { party = party_of event; client = client_of (party_of event); kind = kind_of event }
