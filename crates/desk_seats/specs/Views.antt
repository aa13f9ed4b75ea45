-- What the seats of a desk are to whoever has them, with a gate before them or without.
use Rattle.std.specs.Prelude.{ℕ, Option, None, Some}
use Rattle.atomic_table.specs.Seated.{TableId}
use Rattle.kex_core.specs.Shapes.{Sheet}
use Rattle.kex_words.specs.Passes.{TableNet}
use Rattle.kex_gate.specs.Passes.{Gate, sessions}

-- seats: `id` tells them from others, `net` is their net, and `gate` tells the gate before them from others, where there is one
pub record SeatsView : Type 0 where
  pub id : TableId
  pub net : Sheet
  pub gate : Option TableId

-- seats with no gate
abbrev pub plain_seats : TableNet → SeatsView
plain_seats t = record { id = t.id; net = t.net; gate = None }

-- seats behind a gate
abbrev pub gated_seats : Gate → SeatsView
gated_seats g = record { id = g.seats.id; net = g.seats.net; gate = Some g.id }

-- their table of words
abbrev pub table_of : SeatsView → TableNet
table_of v = record { id = v.id; net = v.net }

-- a net's parties are those of the seats, and behind a gate its sessions
abbrev pub parties_at : Option TableId → Sheet → ℕ
parties_at None net = net.parties
parties_at (Some id) net = sessions net

-- how many parties the seats are for
abbrev pub parties_of : SeatsView → ℕ
parties_of v = parties_at v.gate v.net
