use Rattle.std.specs.Prelude.{Bool, true, false}
use Rattle.options_machine.specs.declared.reply.Reply.{Reply}
use Rattle.options_machine.specs.declared.reply.Reply.TheVariants.{Denied, Granted, NoSeat, Retaken}

-- whether a reply gives a seat
abbrev pub is_grant : Reply → Bool
is_grant (Granted charge) = true
is_grant (Retaken charge) = true
is_grant _ = false

-- whether it tells that a rule denies one
abbrev pub is_denied : Reply → Bool
is_denied (Denied line) = true
is_denied _ = false

-- whether it tells that there is none
abbrev pub is_noseat : Reply → Bool
is_noseat (NoSeat taken free) = true
is_noseat _ = false
