-- What a Glance shows.
use Rattle.std.specs.Prelude.{ℕ, ◌%◌, ◌^◌, List, length}
use Rattle.options_machine.specs.declared.reply.Charge.TheVariants.{Open}
use Rattle.options_machine.specs.declared.reply.Entry.{Entry}
use Rattle.options_machine.specs.Rules.{Rules}
use Rattle.options_machine.specs.Run.{after}
use Rattle.options_machine.specs.State.{State, charges, in_force}
use Rattle.counter.specs.declared.glance.Glance.{Glance}

-- the numbers of a state
abbrev pub numbers_of : List Rules → ℕ → State → Glance
numbers_of sets front s = record {
  front = front;
  held = length s.holders;
  lingering = length s.lingering;
  taken = charges s Open;
  free = (in_force sets s).free;
  queued = length s.queue;
}

-- what a desk shows after these entries
abbrev pub glance_of : List Rules → List Entry → Glance
glance_of sets list = numbers_of sets (length list % 2 ^ 64) (after sets list)
