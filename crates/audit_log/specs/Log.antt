use Rattle.std.specs.Prelude.{List}
use Rattle.atomic_table.specs.Seated.{TableId}
use Rattle.options_machine.specs.declared.reply.Entry.{Entry}

-- the end of a log that pushes: of which queue, and all that was pushed
pub record Pusher : Type 0 where
  pub queue : TableId
  pub pushed : List Entry

-- the end that takes: of which queue, and all that was taken
pub record Taker : Type 0 where
  pub queue : TableId
  pub taken : List Entry
