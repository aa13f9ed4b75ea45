use Rattle.std.specs.Prelude.{ℕ, Bool, true, false, ◌||◌, if◌then◌else◌, List, Option, None, Some, codes}
use Rattle.std.specs.Option.{option_or}
use Rattle.std.specs.Str.{str_eq_ignore_ascii_case}
use Rattle.lic_types.specs.declared.client.WhoKind.{WhoKind}
use Rattle.lic_types.specs.declared.client.WhoKind.TheVariants.{User, Host, Display, Project, Group, HostGroup}
use Rattle.options_text.specs.declared.keyword.Access.TheVariants.{Granted, Refused}
use Rattle.options_text.specs.declared.keyword.Keyword.{Keyword}
use Rattle.options_text.specs.declared.keyword.Keyword.TheVariants.{Lists, Admits, AdmitsAll, Shares, Times, TimesAll, Logs}
use Rattle.options_text.specs.declared.keyword.LogKeyword.TheVariants.{ReportLog, DebugLog, NoLog}
use Rattle.options_text.specs.declared.keyword.Share.TheVariants.{Kept, Most}
use Rattle.options_text.specs.declared.keyword.Span.TheVariants.{Lingers, Waits}

-- a word is this keyword or type, in any ASCII case
unfoldable pub spells : List ℕ → List ℕ → Bool
spells word keyword = str_eq_ignore_ascii_case word keyword

-- the keywords of groups
abbrev pub list_keyword : List ℕ → Option Keyword
list_keyword word =
    if spells word (codes "GROUP") then Some (Lists false)
    else (if spells word (codes "HOST_GROUP") then Some (Lists true) else None)

-- the keywords of rules that let in and keep out
abbrev pub rule_keyword : List ℕ → Option Keyword
rule_keyword word =
    if spells word (codes "INCLUDE") then Some (Admits Granted)
    else (if spells word (codes "EXCLUDE") then Some (Admits Refused)
    else (if spells word (codes "INCLUDEALL") then Some (AdmitsAll Granted)
    else (if spells word (codes "EXCLUDEALL") then Some (AdmitsAll Refused) else None)))

-- the keywords of rules with a number
abbrev pub number_keyword : List ℕ → Option Keyword
number_keyword word =
    if spells word (codes "RESERVE") then Some (Shares Kept)
    else (if spells word (codes "MAX") then Some (Shares Most)
    else (if spells word (codes "LINGER") then Some (Times Lingers)
    else (if spells word (codes "TIMEOUT") then Some (Times Waits)
    else (if spells word (codes "TIMEOUTALL") then Some TimesAll else None))))

-- the keywords that are not acted on
abbrev pub log_keyword : List ℕ → Option Keyword
log_keyword word =
    if spells word (codes "REPORTLOG") then Some (Logs ReportLog)
    else (if spells word (codes "DEBUGLOG") then Some (Logs DebugLog)
    else (if spells word (codes "NOLOG") then Some (Logs NoLog) else None))

-- the keyword that a word spells
unfoldable pub keyword_of : List ℕ → Option Keyword
keyword_of word = option_or (option_or (option_or (list_keyword word) (rule_keyword word)) (number_keyword word)) (log_keyword word)

-- the type that a word spells; USER_GROUP is GROUP
unfoldable pub kind_of : List ℕ → Option WhoKind
kind_of word =
    if spells word (codes "USER") then Some User
    else (if spells word (codes "HOST") then Some Host
    else (if spells word (codes "DISPLAY") then Some Display
    else (if spells word (codes "PROJECT") then Some Project
    else (if spells word (codes "GROUP") || spells word (codes "USER_GROUP") then Some Group
    else (if spells word (codes "HOST_GROUP") then Some HostGroup else None)))))
