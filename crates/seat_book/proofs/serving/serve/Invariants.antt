use Rattle.std.proofs.Common.{◌≡◌, ◌≤◌, ◌-◌, length, drop}
use Rattle.policy.specs.Kept.{front_of}
use Rattle.options_machine.specs.Settle.{serve}
use Rattle.seat_book.specs.Parts.{HasSameRoom, IsServable, state_of}
use Rattle.seat_book.proofs.serving.serve.Given as goal

abbrev pub invariant-loop-at : goal.invariant-loop-at
invariant-loop-at l = record {
  state : serve l.rules (front_of (state_of l.parts) l.at) (drop l.at l.parts.queue.items) ≡ serve l.rules (front_of (state_of l.fn.parts) 0) l.fn.parts.queue.items;
  servable : IsServable l.rules l.parts;
  room : HasSameRoom l.fn.parts l.parts;
  within : l.at ≤ length l.parts.queue.items;
}

abbrev pub decreases-loop-at : goal.decreases-loop-at
decreases-loop-at l = length l.parts.queue.items - l.at
