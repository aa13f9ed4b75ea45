-- What is advised of one line of an options file: the line itself where a test finds it, and else nothing.
use Rattle.std.specs.Prelude.{ℕ, Bool, true, false, ◌&&◌, nat_le, nat_lt, if◌then◌else◌, List, filter, find, Option, None, Some, is_none, option_and_then, option_map}
use Rattle.std.specs.List.{list_all, list_any}
use Rattle.feature_lines.specs.declared.pool.Pool.{Pool}
use Rattle.lic_types.specs.Groups.{GroupLine, same_name}
use Rattle.lic_types.specs.declared.client.Rule.{Rule}
use Rattle.lic_types.specs.declared.client.Rule.TheVariants.{Include, Exclude, Max, Reserve, Linger, Timeout}
use Rattle.lic_types.specs.declared.client.RuleLine.{RuleLine}
use Rattle.lic_types.specs.declared.client.Who.{Who}
use Rattle.lic_types.specs.declared.client.WhoKind.{WhoKind}
use Rattle.lic_types.specs.declared.client.WhoKind.TheVariants.{User, Host, Display, Project, Group, HostGroup}
use Rattle.options_machine.specs.Rules.{is_exclude, is_named_by, max_number}
use Rattle.lint_advice.specs.declared.advice.Advice.{Advice}
use Rattle.lint_advice.specs.declared.advice.Advice.TheVariants.{NoRule, NoPool, IdleMax, ShutOut, NeverRead, ShortTimeout}

-- the number of a line, if there is one
abbrev pub first_line : Option RuleLine → Option ℕ
first_line found = option_map (λ (l : RuleLine). l.line) found

-- a group line whose group no rule of the file names, be its feature served or not
abbrev pub no_rule : List RuleLine → GroupLine → Option Advice
no_rule lines group =
    if list_any (λ (l : RuleLine). is_named_by group l.who) lines then None
    else Some (NoRule group.line group.of_hosts group.name)

-- whether some pool is of the feature
abbrev pub has_pool : List Pool → List ℕ → Bool
has_pool pools feature = list_any (λ (p : Pool). same_name p.name feature) pools

-- a line of a feature that no pool has
abbrev pub no_pool : List Pool → RuleLine → Option Advice
no_pool pools line = option_and_then (λ feature. if has_pool pools feature then None else Some (NoPool line.line feature)) line.feature

-- whether each pool of the feature has so many licences at most
abbrev pub are_within : List Pool → List ℕ → ℕ → Bool
are_within pools feature number = list_all (λ (p : Pool). nat_le p.count number) (filter (λ (p : Pool). same_name p.name feature) pools)

-- the same, where there are pools of the feature
abbrev pub limits_nobody : List Pool → List ℕ → ℕ → Bool
limits_nobody pools feature number = has_pool pools feature && are_within pools feature number

-- a MAX line at or above the count of every pool of its feature
abbrev pub idle_max : List Pool → RuleLine → Option Advice
idle_max pools line =
    option_and_then (λ feature. option_and_then (λ number. if limits_nobody pools feature number then Some (IdleMax line.line number) else None) (max_number line.rule)) line.feature

abbrev pub is_same_kind : WhoKind → WhoKind → Bool
is_same_kind User User = true
is_same_kind Host Host = true
is_same_kind Display Display = true
is_same_kind Project Project = true
is_same_kind Group Group = true
is_same_kind HostGroup HostGroup = true
is_same_kind kind other = false

-- whether a line names this type and name
abbrev pub is_same_who : Who → Option Who → Bool
is_same_who who None = false
is_same_who who (Some other) = is_same_kind who.kind other.kind && same_name who.name other.name

-- whether it is an EXCLUDEALL line of this type and name
abbrev pub shuts_out : Who → RuleLine → Bool
shuts_out who line = is_none line.feature && (is_exclude line.rule && is_same_who who line.who)

-- a line of a feature whose type and name an EXCLUDEALL line has too, with the first such
abbrev pub shut_out : List RuleLine → RuleLine → Option Advice
shut_out lines line =
    if is_none line.feature then None
    else option_and_then (λ who. option_map (λ by. ShutOut line.line by) (first_line (find (shuts_out who) lines))) line.who

-- whether two lines are of one feature, or both of all features
abbrev pub is_same_feature : Option (List ℕ) → Option (List ℕ) → Bool
is_same_feature None None = true
is_same_feature None (Some other) = false
is_same_feature (Some feature) None = false
is_same_feature (Some feature) (Some other) = same_name feature other

abbrev pub is_linger : Rule → Bool
is_linger (Linger n) = true
is_linger Include = false
is_linger Exclude = false
is_linger (Max n) = false
is_linger (Reserve n) = false
is_linger (Timeout n) = false

abbrev pub is_timeout : Rule → Bool
is_timeout (Timeout n) = true
is_timeout Include = false
is_timeout Exclude = false
is_timeout (Max n) = false
is_timeout (Reserve n) = false
is_timeout (Linger n) = false

-- whether two rules are both LINGER or both TIMEOUT
abbrev pub is_same_span : Rule → Rule → Bool
is_same_span (Linger n) other = is_linger other
is_same_span (Timeout n) other = is_timeout other
is_same_span Include other = false
is_same_span Exclude other = false
is_same_span (Max n) other = false
is_same_span (Reserve n) other = false

-- whether two lines are both LINGER or both TIMEOUT, of one feature; TIMEOUTALL lines are of one feature, which is all
abbrev pub is_same_time : RuleLine → RuleLine → Bool
is_same_time line other = is_same_span line.rule other.rule && is_same_feature line.feature other.feature

-- a LINGER or TIMEOUT line with an earlier one of the same feature, the first of which holds
abbrev pub never_read : List RuleLine → RuleLine → Option Advice
never_read lines line =
    option_and_then (λ first. if nat_lt first line.line then Some (NeverRead line.line first) else None) (first_line (find (is_same_time line) lines))

-- the seconds that a TIMEOUT line has
abbrev pub seconds_of : Rule → Option ℕ
seconds_of (Timeout n) = Some n
seconds_of Include = None
seconds_of Exclude = None
seconds_of (Max n) = None
seconds_of (Reserve n) = None
seconds_of (Linger n) = None

-- a TIMEOUT line of fewer than 900 seconds
abbrev pub short_timeout : RuleLine → Option Advice
short_timeout line = option_and_then (λ seconds. if nat_lt seconds 900 then Some (ShortTimeout line.line seconds) else None) (seconds_of line.rule)
