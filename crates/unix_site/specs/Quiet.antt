-- When a call of a socket was Quiet.
use Rattle.std.specs.Prelude.{Bool, true, false}
use Rattle.std.specs.declared.io.ErrorKind.{ErrorKind}
use Rattle.std.specs.declared.io.ErrorKind.TheVariants.{Interrupted, TimedOut, WouldBlock}

-- whether an error of this kind says only that nothing came in the call's time, or that a signal did
abbrev pub is_quiet_kind : ErrorKind → Bool
is_quiet_kind WouldBlock = true
is_quiet_kind TimedOut = true
is_quiet_kind Interrupted = true
is_quiet_kind kind = false
