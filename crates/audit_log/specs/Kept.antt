use Rattle.std.specs.Prelude.{◌≡◌, ℕ, ◌≤◌, true, false, List, [], length}
use Rattle.crossbeam_queue.specs.Passes.{Pass, view, IsPassOf, ruled_capacity}
use Rattle.crossbeam_queue.specs.declared.array_queue.Doing.{Doing}
use Rattle.crossbeam_queue.specs.declared.array_queue.Slotted.{Slotted}
use Rattle.options_machine.specs.declared.reply.Entry.{Entry}
use Rattle.std.specs.Prelude.{Option}
use Rattle.audit_log.specs.Log.{Pusher}
use Rattle.audit_log.specs.declared.ends.Knows.{Knows}
use Rattle.audit_log.specs.Rule.{knows}
use Rattle.audit_log.specs.declared.queue.TheConstants.{ENTRY_LIMIT}

-- what is seen of the end that pushes
abbrev pub pusher_at : Pass Entry Knows → Pusher
pusher_at end = record { queue = end.table_id; pushed = (view end).pushed }

module _ {Q A : Type 0} where
  -- what the end that pushes keeps: it has pushed so many
  pub record Pushes (queue : Slotted (Option Entry) (Doing Entry Knows) Q A) (end : Pass Entry Knows) (count : ℕ) : Type 0 where
    pub pass : IsPassOf queue end
    pub room : ruled_capacity queue ≡ ENTRY_LIMIT
    pub knows_all : view end ≡ knows true false (view end).pushed []
    pub counted : count ≡ length (view end).pushed
    pub few : count ≤ ENTRY_LIMIT

  -- what the end that takes keeps: these are the entries that it took, and it has room for all
  pub record Takes (queue : Slotted (Option Entry) (Doing Entry Knows) Q A) (end : Pass Entry Knows) (entries : List Entry) (room : ℕ) : Type 0 where
    pub pass : IsPassOf queue end
    pub may : (view end).takes ≡ true
    pub took : (view end).taken ≡ entries
    pub room_is : ENTRY_LIMIT ≤ room
