use Rattle.std.specs.Prelude.{ℕ, Bool, true, false, ◌||◌, nat_lt, if◌then◌else◌, List, [], ◌∷◌, codes, Option, None, Some, Result, Ok, Err, option_map}
use Rattle.std.specs.Str.{str_eq_ignore_ascii_case}
use Rattle.std.specs.Result.{result_ok}
use Rattle.lic_text.specs.Lines.{Worded}
use Rattle.lic_text.specs.Number.{number_of}
use Rattle.lic_text.specs.declared.fault.TextFault.{TextFault}
use Rattle.lic_types.specs.Name.{name_of}
use Rattle.lic_types.specs.Version.{key_of}
use Rattle.lic_types.specs.declared.version.Version.{Version}
use Rattle.lic_types.specs.declared.limits.TheConstants.{LICENCE_LIMIT}
use Rattle.feature_lines.specs.Dates.{expiry_of}
use Rattle.feature_lines.specs.declared.fault.LicenceFault.{LicenceFault}
use Rattle.feature_lines.specs.declared.fault.LicenceFault.TheVariants.{Line, BadWord, BadCount, BadDate, BadVersion}
use Rattle.feature_lines.specs.declared.line.Keyword.{Keyword}
use Rattle.feature_lines.specs.declared.line.Said.{Said}
use Rattle.feature_lines.specs.declared.line.Said.TheVariants.{Nothing, NotServed as Unserved, Feature as Grants}
use Rattle.feature_lines.specs.declared.line.Terms.{Terms}
use Rattle.feature_lines.specs.declared.line.Keyword.TheVariants.{Feature, Increment, PassedOver, NotServed}

-- whether the word is this one, in any case
abbrev pub is_word : List ℕ → List ℕ → Bool
is_word word text = str_eq_ignore_ascii_case word text

-- the keyword that a word is, in any case
abbrev pub keyword_of : List ℕ → Option Keyword
keyword_of word =
    if is_word word (codes "FEATURE") then Some Feature
    else (if is_word word (codes "INCREMENT") then Some Increment
    else (if is_word word (codes "SERVER") || is_word word (codes "VENDOR") || is_word word (codes "DAEMON") || is_word word (codes "USE_SERVER") then Some PassedOver
    else (if is_word word (codes "PACKAGE") || is_word word (codes "UPGRADE") then Some NotServed
    else None)))

-- the version that a word spells, with the word
abbrev pub version_of : List ℕ → Option (Version × List ℕ)
version_of word = option_map (λ key. (record { key = key }, word)) (key_of word)

-- the number, where it is at most 65,535
abbrev pub within_limit : Option ℕ → Option ℕ
within_limit None = None
within_limit (Some n) = if nat_lt LICENCE_LIMIT n then None else Some n

-- the count that a word spells: `uncounted` in any case, which is as 0, or a number from 0 to 65,535
abbrev pub count_of : List ℕ → Option ℕ
count_of word = if is_word word (codes "uncounted") then Some 0 else within_limit (number_of word)

-- what is there, and the rest of the reading; or a fault
abbrev pub or_fault : {X Y : Type 0} → LicenceFault → Option X → (X → Result Y LicenceFault) → Result Y LicenceFault
or_fault bad None reads = Err bad
or_fault bad (Some x) reads = reads x

-- the first word is read, and then the words behind it: a fault where there is no word, and another where it can't be read
abbrev pub with_word : {X Y : Type 0} → LicenceFault → LicenceFault → (List ℕ → Option X) → List (List ℕ) → (X → List (List ℕ) → Result Y LicenceFault) → Result Y LicenceFault
with_word missing bad read [] reads = Err missing
with_word missing bad read (word ∷ words) reads = or_fault bad (read word) (λ x. reads x words)

-- the terms of a line, by its words from the fourth on
abbrev pub terms_of : ℕ → List (List ℕ) → Result Terms LicenceFault
terms_of line words =
    with_word (BadWord line 4) (BadVersion line) version_of words (λ version after_version.
    with_word (BadWord line 5) (BadDate line) expiry_of after_version (λ expiry after_expiry.
    with_word (BadWord line 6) (BadCount line) count_of after_expiry (λ count others.
    Ok (record { version = version.0; version_text = version.1; expiry = expiry; count = count }))))

-- the line of these terms
abbrev pub line_with_terms : ℕ → Bool → List ℕ → List ℕ → Result Terms LicenceFault → Result Said LicenceFault
line_with_terms line is_feature name vendor (Err fault) = Err fault
line_with_terms line is_feature name vendor (Ok terms) =
    Ok (Grants (record { line = line; is_feature = is_feature; name = name; vendor = vendor; version = terms.version; version_text = terms.version_text; expiry = terms.expiry; count = terms.count }))

-- a FEATURE or INCREMENT line, by its words from the second on
abbrev pub feature_of : ℕ → Bool → List (List ℕ) → Result Said LicenceFault
feature_of line is_feature words =
    with_word (BadWord line 2) (BadWord line 2) (λ word. result_ok (name_of word)) words (λ name after_name.
    with_word (BadWord line 3) (BadWord line 3) (λ word. result_ok (name_of word)) after_name (λ vendor after_vendor.
    line_with_terms line is_feature name vendor (terms_of line after_vendor)))

-- what a line of this keyword says, by its words from the second on
abbrev pub said_by : ℕ → Option Keyword → List (List ℕ) → Result Said LicenceFault
said_by line (Some Feature) words = feature_of line true words
said_by line (Some Increment) words = feature_of line false words
said_by line (Some PassedOver) words = Ok Nothing
said_by line (Some NotServed) words = Ok (Unserved line)
said_by line None words = Err (BadWord line 1)

-- what the words of a line say
abbrev pub said_of : ℕ → List (List ℕ) → Result Said LicenceFault
said_of line [] = Err (BadWord line 1)
said_of line (word ∷ words) = said_by line (keyword_of word) words

-- what a line says, or its fault
abbrev pub said_or_fault : Result Worded TextFault → Result Said LicenceFault
said_or_fault (Ok line) = said_of line.0 line.1
said_or_fault (Err fault) = Err (Line fault)
