use Rattle.std.specs.Prelude.{ℕ, ◌+◌, Bool, nat_lt, ◌==◌, if◌then◌else◌, List, [], ◌∷◌, Option, None, Some, Result, Ok, Err}
use Rattle.std.specs.List.{list_any}
use Rattle.lic_text.specs.Number.{number_of}
use Rattle.lic_types.specs.Name.{name_of}
use Rattle.lic_types.specs.Groups.{GroupLine}
use Rattle.lic_types.specs.declared.client.Rule.{Rule}
use Rattle.lic_types.specs.declared.client.Rule.TheVariants.{Include, Exclude, Max, Reserve, Linger, Timeout}
use Rattle.lic_types.specs.declared.client.RuleLine.{RuleLine}
use Rattle.lic_types.specs.declared.client.Who.{Who}
use Rattle.lic_types.specs.declared.name.NameFault.{NameFault}
use Rattle.lic_types.specs.declared.note.NoteKind.TheVariants.{NotActed}
use Rattle.lic_types.specs.declared.limits.TheConstants.{LICENCE_LIMIT, MOMENT_END}
use Rattle.options_text.specs.Answers.{◌>>=◌}
use Rattle.options_text.specs.Keywords.{keyword_of, kind_of}
use Rattle.options_text.specs.declared.entry.Entry.{Entry}
use Rattle.options_text.specs.declared.entry.Entry.TheVariants.{Lists as a_list, Rules, Passes}
use Rattle.options_text.specs.declared.fault.OptionsFault.{OptionsFault}
use Rattle.options_text.specs.declared.fault.OptionsFault.TheVariants.{UnknownKeyword, MissingWord, BadNumber, UnknownKind, Selector, BadName}
use Rattle.options_text.specs.declared.keyword.Access.{Access}
use Rattle.options_text.specs.declared.keyword.Access.TheVariants.{Granted, Refused}
use Rattle.options_text.specs.declared.keyword.Keyword.{Keyword}
use Rattle.options_text.specs.declared.keyword.Keyword.TheVariants.{Lists, Admits, AdmitsAll, Shares, Times, TimesAll, Logs}
use Rattle.options_text.specs.declared.keyword.Share.{Share}
use Rattle.options_text.specs.declared.keyword.Share.TheVariants.{Kept, Most}
use Rattle.options_text.specs.declared.keyword.Span.{Span}
use Rattle.options_text.specs.declared.keyword.Span.TheVariants.{Lingers, Waits}

abbrev pub unless_none : {X : Type 0} → OptionsFault → Option X → Result X OptionsFault
unless_none fault None = Err fault
unless_none fault (Some x) = Ok x

abbrev pub where_below : ℕ → ℕ → Option ℕ → Result ℕ OptionsFault
where_below line limit None = Err (BadNumber line)
where_below line limit (Some n) = if nat_lt n limit then Ok n else Err (BadNumber line)

-- the number that a word writes, which is below the limit
abbrev pub number_below : ℕ → ℕ → List ℕ → Result ℕ OptionsFault
number_below line limit word = where_below line limit (number_of word)

abbrev pub where_name : ℕ → Result (List ℕ) NameFault → Result (List ℕ) OptionsFault
where_name line (Ok name) = Ok name
where_name line (Err fault) = Err (BadName line)

-- the name that a word spells
abbrev pub name_at : ℕ → List ℕ → Result (List ℕ) OptionsFault
name_at line word = where_name line (name_of word)

-- the feature that a word names, which has no `:`
abbrev pub feature_of : ℕ → List ℕ → Result (List ℕ) OptionsFault
feature_of line word = if list_any (λ b. b == 58) word then Err (Selector line) else name_at line word

-- whom a type and a name speak of
abbrev pub who_of : ℕ → List ℕ → List ℕ → Result Who OptionsFault
who_of line kind name = do
  k ← unless_none (UnknownKind line) (kind_of kind)
  n ← name_at line name
  Ok (record { kind = k; name = n })

-- the names that words spell
abbrev pub names_of : ℕ → List (List ℕ) → Result (List (List ℕ)) OptionsFault
names_of line [] = Ok []
names_of line (word ∷ words) = do
  name ← name_at line word
  names ← names_of line words
  Ok (name ∷ names)

abbrev pub access_rule : Access → Rule
access_rule Granted = Include
access_rule Refused = Exclude

abbrev pub share_rule : Share → ℕ → Rule
share_rule Kept n = Reserve n
share_rule Most n = Max n

abbrev pub span_rule : Span → ℕ → Rule
span_rule Lingers seconds = Linger seconds
span_rule Waits seconds = Timeout seconds

-- The forms of lines, without their keywords. Words past those of a form are ignored.

-- `GROUP name member ..`, or HOST_GROUP
unfoldable pub group_of : ℕ → Bool → List (List ℕ) → Result GroupLine OptionsFault
group_of line of_hosts (name ∷ member ∷ members) = do
  n ← name_at line name
  ms ← names_of line (member ∷ members)
  Ok (record { line = line; of_hosts = of_hosts; name = n; members = ms })
group_of line of_hosts words = Err (MissingWord line)

-- `INCLUDE feature type name`, or EXCLUDE
unfoldable pub admits_of : ℕ → Access → List (List ℕ) → Result RuleLine OptionsFault
admits_of line access (feature ∷ kind ∷ name ∷ others) = do
  f ← feature_of line feature
  who ← who_of line kind name
  Ok (record { line = line; feature = Some f; rule = access_rule access; who = Some who })
admits_of line access words = Err (MissingWord line)

-- `INCLUDEALL type name`, or EXCLUDEALL
unfoldable pub admits_all_of : ℕ → Access → List (List ℕ) → Result RuleLine OptionsFault
admits_all_of line access (kind ∷ name ∷ others) = do
  who ← who_of line kind name
  Ok (record { line = line; feature = None; rule = access_rule access; who = Some who })
admits_all_of line access words = Err (MissingWord line)

-- `RESERVE number feature type name`, or MAX
unfoldable pub shares_of : ℕ → Share → List (List ℕ) → Result RuleLine OptionsFault
shares_of line share (number ∷ feature ∷ kind ∷ name ∷ others) = do
  n ← number_below line (LICENCE_LIMIT + 1) number
  f ← feature_of line feature
  who ← who_of line kind name
  Ok (record { line = line; feature = Some f; rule = share_rule share n; who = Some who })
shares_of line share words = Err (MissingWord line)

-- `LINGER feature seconds`, or TIMEOUT
unfoldable pub times_of : ℕ → Span → List (List ℕ) → Result RuleLine OptionsFault
times_of line span (feature ∷ seconds ∷ others) = do
  f ← feature_of line feature
  n ← number_below line MOMENT_END seconds
  Ok (record { line = line; feature = Some f; rule = span_rule span n; who = None })
times_of line span words = Err (MissingWord line)

-- `TIMEOUTALL seconds`
unfoldable pub times_all_of : ℕ → List (List ℕ) → Result RuleLine OptionsFault
times_all_of line (seconds ∷ others) = do
  n ← number_below line MOMENT_END seconds
  Ok (record { line = line; feature = None; rule = Timeout n; who = None })
times_all_of line words = Err (MissingWord line)

-- what the words behind a keyword say
abbrev pub form_of : ℕ → Keyword → List (List ℕ) → Result Entry OptionsFault
form_of line (Lists of_hosts) words = group_of line of_hosts words >>= λ group. Ok (a_list group)
form_of line (Admits access) words = admits_of line access words >>= λ rule. Ok (Rules rule)
form_of line (AdmitsAll access) words = admits_all_of line access words >>= λ rule. Ok (Rules rule)
form_of line (Shares share) words = shares_of line share words >>= λ rule. Ok (Rules rule)
form_of line (Times span) words = times_of line span words >>= λ rule. Ok (Rules rule)
form_of line TimesAll words = times_all_of line words >>= λ rule. Ok (Rules rule)
form_of line (Logs log) words = Ok (Passes (record { line = line; kind = NotActed }) log)

-- what the words of a line say
unfoldable pub entry_of : ℕ → List (List ℕ) → Result Entry OptionsFault
entry_of line [] = Err (UnknownKeyword line)
entry_of line (word ∷ words) = unless_none (UnknownKeyword line) (keyword_of word) >>= λ keyword. form_of line keyword words
