-- What a client is told in a line.
use Rattle.std.specs.Prelude.{ℕ, List, [], ◌∷◌, ◌++◌, Option, None, Some, codes, decimal}
use Rattle.counter.specs.declared.glance.Glance.{Glance}
use Rattle.lic_types.specs.Days.{day_text}
use Rattle.options_machine.specs.declared.reply.Charge.{Charge}
use Rattle.options_machine.specs.declared.reply.Reply.{Reply}
use Rattle.options_machine.specs.declared.reply.Reply.TheVariants as reply
use Rattle.reply_words.specs.Words.{charge_text, reply_text}
use Rattle.line_protocol.specs.declared.told.Told.{Told}
use Rattle.line_protocol.specs.declared.told.Told.TheVariants as told

-- the seat stands after the first word
abbrev pub seated_text : List ℕ → ℕ → Charge → List ℕ
seated_text word seat charge = word ++ codes " SEAT " ++ decimal seat ++ codes " " ++ charge_text charge

-- the words of a reply that brought a seat: it stands in those of Granted and Retaken
abbrev pub with_seat : Reply → ℕ → List ℕ
with_seat (reply.Granted charge) seat = seated_text (codes "GRANTED") seat charge
with_seat (reply.Retaken charge) seat = seated_text (codes "RETAKEN") seat charge
with_seat other seat = reply_text other

-- the words of a reply
abbrev pub desk_text : Reply → Option ℕ → List ℕ
desk_text reply None = reply_text reply
desk_text reply (Some seat) = with_seat reply seat

-- the words of a glance
abbrev pub glance_text : Glance → List ℕ
glance_text g =
    codes "GLANCE FRONT " ++ decimal g.front ++ codes " HELD " ++ decimal g.held ++ codes " LINGERING " ++ decimal g.lingering
    ++ codes " OPEN " ++ decimal g.taken ++ codes " OF " ++ decimal g.free ++ codes " QUEUED " ++ decimal g.queued

-- what a client is told, without the LF
abbrev pub told_text : Told → List ℕ
told_text (told.Desk reply seat place) = desk_text reply seat ++ codes " #" ++ decimal place
told_text (told.Welcome party) = codes "WELCOME " ++ decimal party
told_text told.NoHello = codes "NOHELLO"
told_text told.Greeted = codes "GREETED"
told_text told.Unknown = codes "UNKNOWN"
told_text (told.Expired day) = codes "EXPIRED " ++ day_text day
told_text (told.Glance glance) = glance_text glance
told_text (told.Reread set) = codes "REREAD " ++ decimal set
told_text (told.NoRules set) = codes "NORULES " ++ decimal set
told_text (told.Bad fault) = codes "BAD " ++ decimal fault
told_text told.Bye = codes "BYE"
told_text told.Stopping = codes "STOPPING"

-- the line
abbrev pub line_of : Told → List ℕ
line_of t = told_text t ++ 10 ∷ []
