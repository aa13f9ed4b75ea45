use Rattle.std.specs.Prelude.{ℕ, ◌^◌, ◌-◌, Bool, true, false, ◌&&◌, nat_le, nat_eq, if◌then◌else◌, List, [], ◌∷◌, Option, None, Some, Result, Ok, Err, codes, decimal}
use Rattle.std.specs.Cmp.Lexicographic.{pointwise}
use Rattle.lic_text.specs.Number.{number_of}
use Rattle.options_machine.specs.declared.reply.Charge.{Charge}
use Rattle.options_machine.specs.declared.reply.Charge.TheVariants.{Reserve, Open}
use Rattle.options_machine.specs.declared.reply.Reply.{Reply}
use Rattle.options_machine.specs.declared.reply.Reply.TheVariants as reply
use Rattle.script_words.specs.Fields.{and_then}
use Rattle.script_words.specs.declared.fault.ScriptWord.{ScriptWord}
use Rattle.script_words.specs.declared.fault.ScriptWord.TheVariants.{UnknownWord}

-- the last number of a field of 32 bits
abbrev pub last_32 : ℕ
last_32 = 2 ^ 32 - 1

abbrev pub last_64 : ℕ
last_64 = 2 ^ 64 - 1

-- the words behind the first one, which is to be this one
abbrev pub behind : List ℕ → List (List ℕ) → Result (List (List ℕ)) ScriptWord
behind tag [] = Err UnknownWord
behind tag (word ∷ words) = if pointwise nat_eq word tag then Ok words else Err UnknownWord

-- a number up to the last, of which the word is the text that is printed
abbrev pub printed_number : ℕ → List ℕ → Option ℕ → Result ℕ ScriptWord
printed_number last word None = Err UnknownWord
printed_number last word (Some n) = if nat_le n last && pointwise nat_eq word (decimal n) then Ok n else Err UnknownWord

-- the number that the first word prints, and the words behind it
abbrev pub exact : ℕ → List (List ℕ) → Result (ℕ × List (List ℕ)) ScriptWord
exact last [] = Err UnknownWord
exact last (word ∷ words) = and_then (printed_number last word (number_of word)) (λ n. Ok (n, words))

-- the number behind this word, and the words behind it
abbrev pub number_behind_word : ℕ → List ℕ → List (List ℕ) → Result (ℕ × List (List ℕ)) ScriptWord
number_behind_word last tag words = and_then (behind tag words) (exact last)

-- what was read, where no word is left
abbrev pub alone : {X : Type 0} → X → List (List ℕ) → Result X ScriptWord
alone x [] = Ok x
alone x (word ∷ words) = Err UnknownWord

-- the charge that these words are
abbrev pub charge_of : List (List ℕ) → Result Charge ScriptWord
charge_of [] = Err UnknownWord
charge_of (word ∷ words) =
    if pointwise nat_eq word (codes "OPEN") then alone Open words
    else (if pointwise nat_eq word (codes "RESERVE") then and_then (exact last_32 words) (λ n. alone (Reserve n.0) n.1)
    else Err UnknownWord)

-- what a party has, by whether it is a told holder, and whether it waits or wasn't told
abbrev pub own_of : List ℕ → Result (Bool × Bool) ScriptWord
own_of word =
    if pointwise nat_eq word (codes "1") then Ok (true, false)
    else (if pointwise nat_eq word (codes "2") then Ok (false, true)
    else (if pointwise nat_eq word (codes "0") then Ok (false, false)
    else Err UnknownWord))

-- the word behind OWN, and the words behind it
abbrev pub own_and_words : List (List ℕ) → Result ((Bool × Bool) × List (List ℕ)) ScriptWord
own_and_words [] = Err UnknownWord
own_and_words (word ∷ words) = and_then (own_of word) (λ own. Ok (own, words))

-- the numbers of a desk, by the words behind COUNTS
abbrev pub counts_of : List (List ℕ) → Result Reply ScriptWord
counts_of words =
    and_then (number_behind_word last_32 (codes "HELD") words) (λ held.
    and_then (number_behind_word last_32 (codes "LINGERING") held.1) (λ lingering.
    and_then (number_behind_word last_32 (codes "OPEN") lingering.1) (λ taken.
    and_then (number_behind_word last_32 (codes "OF") taken.1) (λ free.
    and_then (behind (codes "OWN") free.1) (λ rest.
    and_then (own_and_words rest) (λ own.
    alone (reply.Counts held.0 lingering.0 taken.0 free.0 own.0.0 own.0.1) own.1))))))

abbrev pub no_seat_of : List (List ℕ) → Result Reply ScriptWord
no_seat_of words =
    and_then (number_behind_word last_32 (codes "TAKEN") words) (λ taken.
    and_then (number_behind_word last_32 (codes "OF") taken.1) (λ free.
    alone (reply.NoSeat taken.0 free.0) free.1))

-- a reply of one word
abbrev pub bare_of : List ℕ → Result Reply ScriptWord
bare_of word =
    if pointwise nat_eq word (codes "ALREADYHELD") then Ok reply.AlreadyHeld
    else (if pointwise nat_eq word (codes "RETURNED") then Ok reply.Returned
    else (if pointwise nat_eq word (codes "NOTHELD") then Ok reply.NotHeld
    else (if pointwise nat_eq word (codes "BEATEN") then Ok reply.Beaten
    else (if pointwise nat_eq word (codes "HELD") then Ok reply.Held
    else (if pointwise nat_eq word (codes "UNQUEUED") then Ok reply.Unqueued
    else Err UnknownWord)))))

-- the reply that these words are, the first of them apart
abbrev pub reply_by : List ℕ → List (List ℕ) → Result Reply ScriptWord
reply_by word words =
    if pointwise nat_eq word (codes "GRANTED") then and_then (charge_of words) (λ charge. Ok (reply.Granted charge))
    else (if pointwise nat_eq word (codes "RETAKEN") then and_then (charge_of words) (λ charge. Ok (reply.Retaken charge))
    else (if pointwise nat_eq word (codes "DENIED") then and_then (number_behind_word last_32 (codes "LINE") words) (λ line. alone (reply.Denied line.0) line.1)
    else (if pointwise nat_eq word (codes "NOSEAT") then no_seat_of words
    else (if pointwise nat_eq word (codes "LINGERING") then and_then (number_behind_word last_64 (codes "UNTIL") words) (λ until. alone (reply.Lingering until.0) until.1)
    else (if pointwise nat_eq word (codes "COUNTS") then counts_of words
    else (if pointwise nat_eq word (codes "QUEUED") then and_then (exact last_32 words) (λ position. alone (reply.Queued position.0) position.1)
    else (if pointwise nat_eq word (codes "REREAD") then and_then (exact last_32 words) (λ set. alone (reply.Reread set.0) set.1)
    else and_then (bare_of word) (λ reply. alone reply words))))))))

-- the reply that these words are
abbrev pub reply_of : List (List ℕ) → Result Reply ScriptWord
reply_of [] = Err UnknownWord
reply_of (word ∷ words) = reply_by word words
