-- What a line of a client asks.
use Rattle.std.specs.Prelude.{ℕ, ◌^◌, ◌&&◌, Bool, nat_le, nat_lt, nat_eq, if◌then◌else◌, List, [], ◌∷◌, Option, None, Some, Result, Ok, Err, codes}
use Rattle.std.specs.List.{list_all}
use Rattle.std.specs.Cmp.Lexicographic.{pointwise}
use Rattle.lic_text.specs.Lines.{words_of}
use Rattle.lic_text.specs.Number.{number_of}
use Rattle.lic_types.specs.Name.{name_of}
use Rattle.lic_types.specs.Version.{key_of}
use Rattle.lic_types.specs.declared.client.Client.{Client}
use Rattle.lic_types.specs.declared.name.NameFault.{NameFault}
use Rattle.lic_types.specs.declared.version.Version.{Version}
use Rattle.line_protocol.specs.declared.reading.Seat.{Seat}
use Rattle.line_protocol.specs.declared.reading.Verb.{Verb}
use Rattle.line_protocol.specs.declared.reading.Verb.TheVariants as verb
use Rattle.line_protocol.specs.declared.wire.Wire.{Wire}
use Rattle.line_protocol.specs.declared.wire.Wire.TheVariants as wire
use Rattle.line_protocol.specs.declared.wire.WireFault.{WireFault}
use Rattle.line_protocol.specs.declared.wire.WireFault.TheVariants.{BadByte, Empty, UnknownWord, WordCount, BadName, BadVersion, BadNumber}

-- the number of a fault
abbrev pub number_of_fault : WireFault → ℕ
number_of_fault Empty = 1
number_of_fault UnknownWord = 2
number_of_fault WordCount = 3
number_of_fault BadName = 4
number_of_fault BadVersion = 5
number_of_fault BadByte = 6
number_of_fault BadNumber = 7

-- what is made of a result's value; the first fault of a chain decides
abbrev pub and_then : {X Y : Type 0} → Result X WireFault → (X → Result Y WireFault) → Result Y WireFault
and_then (Ok x) next = next x
and_then (Err fault) next = Err fault

-- a name
abbrev pub name_or_fault : Result (List ℕ) NameFault → Result (List ℕ) WireFault
name_or_fault (Ok name) = Ok name
name_or_fault (Err fault) = Err BadName

-- the version of a key
abbrev pub version_of : Option ℕ → Result Version WireFault
version_of None = Err BadVersion
version_of (Some key) = Ok (record { key = key })

-- the number of a rule set
abbrev pub set_within : Option ℕ → Result ℕ WireFault
set_within None = Err BadNumber
set_within (Some n) = if nat_lt n (2 ^ 32) then Ok n else Err BadNumber

-- the client of the words for the user, the host, the display and the project
abbrev pub client_of : List ℕ → List ℕ → List ℕ → List ℕ → Result Client WireFault
client_of user host display project =
    and_then (name_or_fault (name_of user)) (λ u.
    and_then (name_or_fault (name_of host)) (λ h.
    and_then (name_or_fault (name_of display)) (λ d.
    and_then (name_or_fault (name_of project)) (λ p.
    Ok (record { user = u; host = h; display = d; project = p })))))

-- no word is left
abbrev pub last_of : List (List ℕ) → Result (Unit {0}) WireFault
last_of [] = Ok tt
last_of (word ∷ words) = Err WordCount

-- the request that a word stands for
abbrev pub verb_of : List ℕ → Result Verb WireFault
verb_of word =
    if pointwise nat_eq word (codes "HELLO") then Ok verb.Hello
    else (if pointwise nat_eq word (codes "CHECKOUT") then Ok verb.Checkout
    else (if pointwise nat_eq word (codes "QUEUE") then Ok verb.Queue
    else (if pointwise nat_eq word (codes "CHECKIN") then Ok verb.Checkin
    else (if pointwise nat_eq word (codes "BEAT") then Ok verb.Beat
    else (if pointwise nat_eq word (codes "LOOK") then Ok verb.Look
    else (if pointwise nat_eq word (codes "STATUS") then Ok verb.Status
    else (if pointwise nat_eq word (codes "GLANCE") then Ok verb.Glance
    else (if pointwise nat_eq word (codes "REREAD") then Ok verb.Reread
    else (if pointwise nat_eq word (codes "QUIT") then Ok verb.Quit
    else (if pointwise nat_eq word (codes "SHUTDOWN") then Ok verb.Shutdown
    else Err UnknownWord))))))))))

-- the client that four words name
abbrev pub hello_of : List (List ℕ) → Result Wire WireFault
hello_of [] = Err WordCount
hello_of (user ∷ []) = Err WordCount
hello_of (user ∷ host ∷ []) = Err WordCount
hello_of (user ∷ host ∷ display ∷ []) = Err WordCount
hello_of (user ∷ host ∷ display ∷ project ∷ others) = and_then (last_of others) (λ none. and_then (client_of user host display project) (λ client. Ok (wire.Hello client)))

-- a feature and a version, by two words
abbrev pub seat_of : List (List ℕ) → Result Seat WireFault
seat_of [] = Err WordCount
seat_of (feature ∷ []) = Err WordCount
seat_of (feature ∷ version ∷ others) =
    and_then (last_of others) (λ none.
    and_then (name_or_fault (name_of feature)) (λ f.
    and_then (version_of (key_of version)) (λ v.
    Ok (record { feature = f; version = v }))))

-- a feature, by one word
abbrev pub feature_of : List (List ℕ) → Result (List ℕ) WireFault
feature_of [] = Err WordCount
feature_of (feature ∷ others) = and_then (last_of others) (λ none. name_or_fault (name_of feature))

-- the number of a rule set, by one word
abbrev pub set_of : List (List ℕ) → Result ℕ WireFault
set_of [] = Err WordCount
set_of (number ∷ others) = and_then (last_of others) (λ none. set_within (number_of number))

-- what is asked by a verb and the words behind it
abbrev pub asked_of : Verb → List (List ℕ) → Result Wire WireFault
asked_of verb.Hello words = hello_of words
asked_of verb.Checkout words = and_then (seat_of words) (λ s. Ok (wire.Checkout s.feature s.version))
asked_of verb.Queue words = and_then (seat_of words) (λ s. Ok (wire.Queue s.feature s.version))
asked_of verb.Checkin words = and_then (feature_of words) (λ f. Ok (wire.Checkin f))
asked_of verb.Beat words = and_then (feature_of words) (λ f. Ok (wire.Beat f))
asked_of verb.Look words = and_then (feature_of words) (λ f. Ok (wire.Look f))
asked_of verb.Status words = and_then (feature_of words) (λ f. Ok (wire.Status f))
asked_of verb.Glance words = and_then (feature_of words) (λ f. Ok (wire.Glance f))
asked_of verb.Reread words = and_then (set_of words) (λ n. Ok (wire.Reread n))
asked_of verb.Quit words = and_then (last_of words) (λ none. Ok wire.Quit)
asked_of verb.Shutdown words = and_then (last_of words) (λ none. Ok wire.Shutdown)

-- what words ask
abbrev pub wire_of_words : List (List ℕ) → Result Wire WireFault
wire_of_words [] = Err Empty
wire_of_words (word ∷ words) = and_then (verb_of word) (λ v. asked_of v words)

-- a byte from 32 to 126
abbrev pub is_request_byte : ℕ → Bool
is_request_byte b = nat_le 32 b && nat_le b 126

-- what a line asks, or its first fault; where its bytes are from 32 to 126, its words are its longest runs of bytes other than space
abbrev pub request_of : List ℕ → Result Wire WireFault
request_of line = if list_all is_request_byte line then wire_of_words (words_of line) else Err BadByte
