-- Counts with one reply more.
use Rattle.std.specs.Prelude.{◌+◌}
use Rattle.options_machine.specs.declared.reply.Reply.{Reply}
use Rattle.options_machine.specs.declared.reply.Reply.TheVariants as reply
use Rattle.trial_replay.specs.declared.counts.Counts.{Counts}

abbrev pub with_reply : Counts → Reply → Counts
with_reply c (reply.Granted charge) = record c { granted = c.granted + 1 }
with_reply c (reply.Retaken charge) = record c { retaken = c.retaken + 1 }
with_reply c (reply.Denied line) = record c { denied = c.denied + 1 }
with_reply c (reply.NoSeat taken free) = record c { no_seat = c.no_seat + 1 }
with_reply c reply.AlreadyHeld = record c { already_held = c.already_held + 1 }
with_reply c reply.Returned = record c { returned = c.returned + 1 }
with_reply c (reply.Lingering until) = record c { lingering = c.lingering + 1 }
with_reply c reply.NotHeld = record c { not_held = c.not_held + 1 }
with_reply c reply.Beaten = record c { beaten = c.beaten + 1 }
with_reply c reply.Held = record c { held = c.held + 1 }
with_reply c (reply.Counts held lingering taken free own queued) = c
with_reply c (reply.Queued position) = c
with_reply c reply.Unqueued = c
with_reply c (reply.Reread set) = c
