use Rattle.std.specs.Prelude.{ℕ, ◌^◌, nat_eq, if◌then◌else◌, List, [], ◌∷◌, ◌++◌, Option, None, Some, Result, Ok, Err, codes, decimal, ◌==◌}
use Rattle.std.specs.Cmp.Lexicographic.{pointwise}
use Rattle.lic_types.specs.declared.limits.TheConstants.{MOMENT_END, PARTY_LIMIT}
use Rattle.lic_text.specs.Lines.{Worded}
use Rattle.lic_text.specs.Number.{number_of}
use Rattle.lic_text.specs.declared.fault.TextFault.{TextFault}
use Rattle.options_machine.specs.declared.reply.Entry.{Entry}
use Rattle.options_machine.specs.declared.reply.Kind.{Kind}
use Rattle.options_machine.specs.declared.reply.Kind.TheVariants as kind
use Rattle.options_machine.specs.declared.reply.Reply.{Reply}
use Rattle.options_machine.specs.declared.reply.Reply.TheVariants as reply
use Rattle.reply_words.specs.Words.{reply_text}
use Rattle.script_words.specs.Fields.{and_then, at_line, below, client_of}
use Rattle.script_words.specs.Texts.{at_its_line}
use Rattle.script_words.specs.declared.fault.ScriptFault.{ScriptFault}
use Rattle.script_words.specs.declared.fault.ScriptWord.{ScriptWord}
use Rattle.script_words.specs.declared.fault.ScriptWord.TheVariants.{UnknownWord, WordCount, BadNumber}
use Rattle.audit_log.specs.Replies.{reply_of}
use Rattle.audit_log.specs.declared.reading.KindWord.{KindWord}
use Rattle.audit_log.specs.declared.reading.KindWord.TheVariants.{Named, Anew}
use Rattle.audit_log.specs.declared.reading.Logged.{Logged}

-- the word of a kind in a log
abbrev pub kind_text : Kind → List ℕ
kind_text kind.Checkout = codes "CHECKOUT"
kind_text kind.Checkin = codes "CHECKIN"
kind_text kind.Beat = codes "BEAT"
kind_text kind.Look = codes "LOOK"
kind_text kind.Quit = codes "QUIT"
kind_text kind.Count = codes "COUNT"
kind_text kind.Queue = codes "QUEUE"
kind_text (kind.Reread set) = codes "REREAD"

-- the line of an entry at a place of a pool: `ENTRY pool #place moment party user host display project KIND` and the words of the reply
abbrev pub entry_line : ℕ → ℕ → Entry → List ℕ
entry_line pool place e =
    codes "ENTRY" ++ 32 ∷ decimal pool ++ 32 ∷ 35 ∷ decimal place ++ 32 ∷ decimal e.moment ++ 32 ∷ decimal e.request.party
    ++ 32 ∷ e.request.client.user ++ 32 ∷ e.request.client.host ++ 32 ∷ e.request.client.display ++ 32 ∷ e.request.client.project
    ++ 32 ∷ kind_text e.request.kind ++ 32 ∷ reply_text e.reply

-- the same, with its line end
abbrev pub entry_text : ℕ → ℕ → Entry → List ℕ
entry_text pool place e = entry_line pool place e ++ 10 ∷ []

-- entries one behind another
abbrev pub log_entries : List Logged → List ℕ
log_entries [] = []
log_entries (x ∷ xs) = entry_text x.pool x.place x.entry ++ log_entries xs

-- what the word of a kind says
abbrev pub kind_of : List ℕ → Result KindWord ScriptWord
kind_of word =
    if pointwise nat_eq word (codes "CHECKOUT") then Ok (Named kind.Checkout)
    else (if pointwise nat_eq word (codes "CHECKIN") then Ok (Named kind.Checkin)
    else (if pointwise nat_eq word (codes "BEAT") then Ok (Named kind.Beat)
    else (if pointwise nat_eq word (codes "LOOK") then Ok (Named kind.Look)
    else (if pointwise nat_eq word (codes "QUIT") then Ok (Named kind.Quit)
    else (if pointwise nat_eq word (codes "COUNT") then Ok (Named kind.Count)
    else (if pointwise nat_eq word (codes "QUEUE") then Ok (Named kind.Queue)
    else (if pointwise nat_eq word (codes "REREAD") then Ok Anew
    else Err UnknownWord)))))))

-- the kind of an entry: the number of a REREAD is the one of its reply
abbrev pub kind_with : KindWord → Reply → Result Kind ScriptWord
kind_with (Named k) r = Ok k
kind_with Anew (reply.Reread set) = Ok (kind.Reread set)
kind_with Anew (reply.Granted charge) = Err UnknownWord
kind_with Anew (reply.Retaken charge) = Err UnknownWord
kind_with Anew (reply.Denied line) = Err UnknownWord
kind_with Anew (reply.NoSeat taken free) = Err UnknownWord
kind_with Anew reply.AlreadyHeld = Err UnknownWord
kind_with Anew reply.Returned = Err UnknownWord
kind_with Anew (reply.Lingering until) = Err UnknownWord
kind_with Anew reply.NotHeld = Err UnknownWord
kind_with Anew reply.Beaten = Err UnknownWord
kind_with Anew reply.Held = Err UnknownWord
kind_with Anew (reply.Counts held lingering taken free own queued) = Err UnknownWord
kind_with Anew (reply.Queued position) = Err UnknownWord
kind_with Anew reply.Unqueued = Err UnknownWord

-- a number
abbrev pub number_or_fault : Option ℕ → Result ℕ ScriptWord
number_or_fault None = Err BadNumber
number_or_fault (Some n) = Ok n

-- the place that a word is: a number behind a #
abbrev pub place_of : List ℕ → Result ℕ ScriptWord
place_of [] = Err BadNumber
place_of (b ∷ digits) = if b == 35 then number_or_fault (number_of digits) else Err BadNumber

-- the entry that the words behind ENTRY spell
abbrev pub fields_of : List (List ℕ) → Result Logged ScriptWord
fields_of (pool ∷ place ∷ moment ∷ party ∷ user ∷ host ∷ display ∷ project ∷ word ∷ head ∷ others) =
    and_then (below (2 ^ 32) (number_of pool)) (λ i.
    and_then (place_of place) (λ at.
    and_then (below MOMENT_END (number_of moment)) (λ used.
    and_then (below PARTY_LIMIT (number_of party)) (λ asker.
    and_then (client_of user host display project) (λ client.
    and_then (kind_of word) (λ said.
    and_then (reply_of (head ∷ others)) (λ answer.
    and_then (kind_with said answer) (λ asked.
    Ok (record { pool = i; place = at; entry = record { request = record { party = asker; client = client; kind = asked }; moment = used; reply = answer } })))))))))
fields_of words = Err WordCount

-- the entry that the words of a line spell
abbrev pub logged_of : List (List ℕ) → Result Logged ScriptWord
logged_of [] = Err UnknownWord
logged_of (tag ∷ words) = if pointwise nat_eq tag (codes "ENTRY") then fields_of words else Err UnknownWord

-- the entry of a line
abbrev pub logged_at : Worded → Result Logged ScriptFault
logged_at line = at_line line.0 (logged_of line.1)

-- the entry of a line of a file, or the fault in which its lines end
abbrev pub entry_at : Result Worded TextFault → Result Logged ScriptFault
entry_at (Ok line) = logged_at line
entry_at (Err fault) = Err (at_its_line fault)
