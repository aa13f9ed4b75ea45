use Rattle.std.specs.Prelude.{ℕ, Bool, true, false, if◌then◌else◌, List, [], ◌∷◌, ◌++◌, Option, None, Some, codes, decimal}
use Rattle.std.specs.List.{flat_map}
use Rattle.lic_text.specs.Physical.{is_continued}
use Rattle.lic_types.specs.Groups.{GroupLine}
use Rattle.lic_types.specs.declared.client.Rule.{Rule}
use Rattle.lic_types.specs.declared.client.Rule.TheVariants.{Include, Exclude, Max, Reserve, Linger, Timeout}
use Rattle.lic_types.specs.declared.client.RuleLine.{RuleLine}
use Rattle.lic_types.specs.declared.client.Who.{Who}
use Rattle.lic_types.specs.declared.client.WhoKind.{WhoKind}
use Rattle.lic_types.specs.declared.client.WhoKind.TheVariants.{User, Host, Display, Project, Group, HostGroup}
use Rattle.options_text.specs.declared.keyword.LogKeyword.{LogKeyword}
use Rattle.options_text.specs.declared.keyword.LogKeyword.TheVariants.{ReportLog, DebugLog, NoLog}

-- words, each behind a space
abbrev pub further : List (List ℕ) → List ℕ
further words = flat_map (λ word. 32 ∷ word) words

-- a keyword and words, with one space between
abbrev pub spaced_text : List ℕ → List (List ℕ) → List ℕ
spaced_text keyword words = keyword ++ further words

-- a text that isn't read as continued: one that ends in a backslash has a space more
abbrev pub closed_text : List ℕ → List ℕ
closed_text text = if is_continued text then text ++ 32 ∷ [] else text

abbrev pub list_name : Bool → List ℕ
list_name true = codes "HOST_GROUP"
list_name false = codes "GROUP"

abbrev pub kind_name : WhoKind → List ℕ
kind_name User = codes "USER"
kind_name Host = codes "HOST"
kind_name Display = codes "DISPLAY"
kind_name Project = codes "PROJECT"
kind_name Group = codes "GROUP"
kind_name HostGroup = codes "HOST_GROUP"

abbrev pub log_name : LogKeyword → List ℕ
log_name ReportLog = codes "REPORTLOG"
log_name DebugLog = codes "DEBUGLOG"
log_name NoLog = codes "NOLOG"

-- the keyword of a rule that is of one feature
abbrev pub rule_name : Rule → List ℕ
rule_name Include = codes "INCLUDE"
rule_name Exclude = codes "EXCLUDE"
rule_name (Max n) = codes "MAX"
rule_name (Reserve n) = codes "RESERVE"
rule_name (Linger seconds) = codes "LINGER"
rule_name (Timeout seconds) = codes "TIMEOUT"

-- what the keyword of a rule for all features has behind it
abbrev pub all_name : Option (List ℕ) → List ℕ
all_name None = codes "ALL"
all_name (Some feature) = []

abbrev pub share_words : Rule → List (List ℕ)
share_words (Max n) = decimal n ∷ []
share_words (Reserve n) = decimal n ∷ []
share_words Include = []
share_words Exclude = []
share_words (Linger seconds) = []
share_words (Timeout seconds) = []

abbrev pub span_words : Rule → List (List ℕ)
span_words (Linger seconds) = decimal seconds ∷ []
span_words (Timeout seconds) = decimal seconds ∷ []
span_words Include = []
span_words Exclude = []
span_words (Max n) = []
span_words (Reserve n) = []

abbrev pub feature_words : Option (List ℕ) → List (List ℕ)
feature_words None = []
feature_words (Some feature) = feature ∷ []

abbrev pub who_words : Option Who → List (List ℕ)
who_words None = []
who_words (Some who) = kind_name who.kind ∷ who.name ∷ []

-- the words behind the keyword of a rule
abbrev pub rule_words : RuleLine → List (List ℕ)
rule_words rule = share_words rule.rule ++ feature_words rule.feature ++ who_words rule.who ++ span_words rule.rule

-- the text of a rule's line
unfoldable pub rule_text : RuleLine → List ℕ
rule_text rule = closed_text (spaced_text (rule_name rule.rule ++ all_name rule.feature) (rule_words rule))

-- the text of a group's line
unfoldable pub group_text : GroupLine → List ℕ
group_text group = closed_text (spaced_text (list_name group.of_hosts) (group.name ∷ group.members))
