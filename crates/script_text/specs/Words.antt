use Rattle.std.specs.Prelude.{ℕ, ◌^◌, nat_eq, if◌then◌else◌, List, [], ◌∷◌, Option, None, Some, Result, Ok, Err, codes}
use Rattle.std.specs.Cmp.Lexicographic.{pointwise}
use Rattle.lic_types.specs.Name.{name_of}
use Rattle.lic_types.specs.Version.{key_of}
use Rattle.lic_types.specs.declared.version.Version.{Version}
use Rattle.lic_types.specs.declared.limits.TheConstants.{MOMENT_END, PARTY_LIMIT}
use Rattle.lic_text.specs.Number.{number_of}
use Rattle.options_machine.specs.declared.reply.Kind.{Kind}
use Rattle.options_machine.specs.declared.reply.Kind.TheVariants.{Checkout, Checkin, Beat, Look, Quit, Count, Queue, Reread}
use Rattle.script_words.specs.Fields.{and_then, below, client_of, name_or_fault}
use Rattle.script_words.specs.declared.fault.ScriptWord.{ScriptWord}
use Rattle.script_words.specs.declared.fault.ScriptWord.TheVariants.{UnknownWord, WordCount, BadVersion}
use Rattle.script_text.specs.Line.{AskedLine}
use Rattle.script_text.specs.declared.words.Asked.{Asked}
use Rattle.script_text.specs.declared.words.Verb.{Verb}
use Rattle.script_text.specs.declared.words.Verb.TheVariants.{Seat, Other, Reread as Anew}

-- the version of a key
abbrev pub version_of : Option ℕ → Result Version ScriptWord
version_of None = Err BadVersion
version_of (Some key) = Ok (record { key = key })

-- what a verb asks for
abbrev pub verb_of : List ℕ → Result Verb ScriptWord
verb_of verb =
    if pointwise nat_eq verb (codes "CHECKOUT") then Ok (Seat Checkout)
    else (if pointwise nat_eq verb (codes "QUEUE") then Ok (Seat Queue)
    else (if pointwise nat_eq verb (codes "CHECKIN") then Ok (Other Checkin)
    else (if pointwise nat_eq verb (codes "BEAT") then Ok (Other Beat)
    else (if pointwise nat_eq verb (codes "LOOK") then Ok (Other Look)
    else (if pointwise nat_eq verb (codes "STATUS") then Ok (Other Count)
    else (if pointwise nat_eq verb (codes "QUIT") then Ok (Other Quit)
    else (if pointwise nat_eq verb (codes "REREAD") then Ok Anew
    else Err UnknownWord)))))))

-- a seat, by the word for the feature and the words behind it, which are to be the version alone
abbrev pub seat_asked : Kind → List ℕ → List (List ℕ) → Result Asked ScriptWord
seat_asked kind feature [] = Err WordCount
seat_asked kind feature (version ∷ []) =
    and_then (name_or_fault (name_of feature)) (λ f.
    and_then (version_of (key_of version)) (λ v.
    Ok (record { kind = kind; feature = Some f; version = Some v })))
seat_asked kind feature (version ∷ next ∷ others) = Err WordCount

-- anything else of a feature, by its word and the words behind it, which are to be none
abbrev pub other_asked : Kind → List ℕ → List (List ℕ) → Result Asked ScriptWord
other_asked kind feature [] = and_then (name_or_fault (name_of feature)) (λ f. Ok (record { kind = kind; feature = Some f; version = None }))
other_asked kind feature (next ∷ others) = Err WordCount

-- another rule set, by the word for its number and the words behind it, which are to be none
abbrev pub reread_asked : List ℕ → List (List ℕ) → Result Asked ScriptWord
reread_asked number [] = and_then (below (2 ^ 32) (number_of number)) (λ n. Ok (record { kind = Reread n; feature = None; version = None }))
reread_asked number (next ∷ others) = Err WordCount

-- what a line asks, by its verb, the word behind the verb and the words behind that
abbrev pub asked_of : Verb → List ℕ → List (List ℕ) → Result Asked ScriptWord
asked_of (Seat kind) word others = seat_asked kind word others
asked_of (Other kind) word others = other_asked kind word others
asked_of Anew word others = reread_asked word others

-- the script line that the words of a line spell: `moment party user host display project VERB feature [version]`, or
-- `moment party user host display project REREAD number`
abbrev pub line_of_words : ℕ → List (List ℕ) → Result AskedLine ScriptWord
line_of_words line (moment ∷ party ∷ user ∷ host ∷ display ∷ project ∷ verb ∷ word ∷ others) =
    and_then (below MOMENT_END (number_of moment)) (λ at.
    and_then (below PARTY_LIMIT (number_of party)) (λ asker.
    and_then (client_of user host display project) (λ client.
    and_then (verb_of verb) (λ verb.
    and_then (asked_of verb word others) (λ asked.
    Ok (record { line = line; moment = at; party = asker; client = client; kind = asked.kind; feature = asked.feature; version = asked.version }))))))
line_of_words line words = Err WordCount
