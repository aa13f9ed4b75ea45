-- What replies say of a rule set.
use Rattle.std.specs.Prelude.{Bool, true, false}
use Rattle.options_machine.specs.declared.reply.Reply.{Reply}
use Rattle.options_machine.specs.declared.reply.Reply.TheVariants as reply

-- whether it says that another rule set holds
abbrev pub is_of_rereading : Reply → Bool
is_of_rereading (reply.Reread set) = true
is_of_rereading (reply.Granted charge) = false
is_of_rereading (reply.Retaken charge) = false
is_of_rereading (reply.Denied line) = false
is_of_rereading (reply.NoSeat taken free) = false
is_of_rereading reply.AlreadyHeld = false
is_of_rereading reply.Returned = false
is_of_rereading (reply.Lingering until) = false
is_of_rereading reply.NotHeld = false
is_of_rereading reply.Beaten = false
is_of_rereading reply.Held = false
is_of_rereading (reply.Counts held lingering taken free own queued) = false
is_of_rereading (reply.Queued position) = false
is_of_rereading reply.Unqueued = false
