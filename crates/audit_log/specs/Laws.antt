use Rattle.std.specs.Prelude.{◌≡◌, ℕ, ◌^◌, ◌<◌, false, ◌&&◌, List, map, Ok}
use Rattle.std.specs.List.{AllByRecursion}
use Rattle.lic_text.specs.Lines.{lines_of, words_of}
use Rattle.lic_types.specs.Name.{IsName}
use Rattle.lic_types.specs.declared.client.Client.{Client}
use Rattle.lic_types.specs.declared.limits.TheConstants.{MOMENT_END, PARTY_LIMIT}
use Rattle.options_machine.specs.declared.reply.Charge.{Charge}
use Rattle.options_machine.specs.declared.reply.Charge.TheVariants.{Reserve, Open}
use Rattle.options_machine.specs.declared.reply.Entry.{Entry}
use Rattle.options_machine.specs.declared.reply.Kind.TheVariants as kind
use Rattle.options_machine.specs.declared.reply.Reply.{Reply}
use Rattle.options_machine.specs.declared.reply.Reply.TheVariants as reply
use Rattle.reply_words.specs.Words.{reply_text}
use Rattle.audit_log.specs.Entries.{entry_at, log_entries}
use Rattle.audit_log.specs.Replies.{reply_of}
use Rattle.audit_log.specs.declared.reading.Logged.{Logged}

pub record IsClient (client : Client) : Type 0 where
  pub user : IsName client.user
  pub host : IsName client.host
  pub display : IsName client.display
  pub project : IsName client.project

-- the numbers of a charge are of their fields
abbrev pub IsCharge : Charge → Type 0
IsCharge Open = Unit {0}
IsCharge (Reserve line) = line < 2 ^ 32

-- the numbers of a reply are of their fields, and it doesn't say of its party both that it was told and that it wasn't
abbrev pub IsReply : Reply → Type 0
IsReply (reply.Granted charge) = IsCharge charge
IsReply (reply.Retaken charge) = IsCharge charge
IsReply (reply.Denied line) = line < 2 ^ 32
IsReply (reply.NoSeat taken free) = (taken < 2 ^ 32) × (free < 2 ^ 32)
IsReply reply.AlreadyHeld = Unit {0}
IsReply reply.Returned = Unit {0}
IsReply (reply.Lingering until) = until < 2 ^ 64
IsReply reply.NotHeld = Unit {0}
IsReply reply.Beaten = Unit {0}
IsReply reply.Held = Unit {0}
IsReply (reply.Counts held lingering taken free own queued) = (held < 2 ^ 32) × (lingering < 2 ^ 32) × (taken < 2 ^ 32) × (free < 2 ^ 32) × ((own && queued) ≡ false)
IsReply (reply.Queued position) = position < 2 ^ 32
IsReply reply.Unqueued = Unit {0}
IsReply (reply.Reread set) = set < 2 ^ 32

-- the words of each reply are read as it, and no others are
pub record RepliesReadBack : Type 0 where
  pub back : (r : Reply) → IsReply r → reply_of (words_of (reply_text r)) ≡ Ok r
  pub exact : (words : List (List ℕ)) (r : Reply) → reply_of words ≡ Ok r → words ≡ words_of (reply_text r)

-- an entry whose numbers are of their fields, and which asks for a rule set exactly as its reply says
pub record IsEntry (e : Entry) : Type 0 where
  pub moment : e.moment < MOMENT_END
  pub party : e.request.party < PARTY_LIMIT
  pub client : IsClient e.request.client
  pub answered : IsReply e.reply
  pub rereads : (set : ℕ) → e.request.kind ≡ kind.Reread set → e.reply ≡ reply.Reread set

-- an entry of a log, whose numbers are of their fields
pub record IsLogged (x : Logged) : Type 0 where
  pub pool : x.pool < 2 ^ 32
  pub place : x.place < 2 ^ 64
  pub entry : IsEntry x.entry

-- entries that are written one behind another are read, line by line, as they were
abbrev pub LogsReadBack : Type 0
LogsReadBack = (xs : List Logged) → AllByRecursion IsLogged xs → map entry_at (lines_of (log_entries xs)) ≡ map (λ (x : Logged). Ok x) xs
