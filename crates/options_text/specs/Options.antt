use Rattle.std.specs.Prelude.{◌≡◌, ℕ, Bool, true, ◌&&◌, not, List, [], ◌++◌, map, length, find, Option, None, Some, Result, Ok, Err}
use Rattle.std.specs.List.{filter_map, list_all, list_any}
use Rattle.std.specs.Option.{option_to_list}
use Rattle.std.specs.List.Sorted.{IsStrictlyIncreasing}
use Rattle.lic_text.specs.Lines.{lines_of}
use Rattle.lic_types.specs.Groups.{GroupLine, same_name}
use Rattle.lic_types.specs.declared.client.RuleLine.{RuleLine}
use Rattle.lic_types.specs.declared.client.Who.{Who}
use Rattle.lic_types.specs.declared.client.WhoKind.{WhoKind}
use Rattle.lic_types.specs.declared.client.WhoKind.TheVariants.{User, Host, Display, Project, Group, HostGroup}
use Rattle.lic_types.specs.declared.note.Note.{Note}
use Rattle.options_text.specs.Answers.{◌>>=◌}
use Rattle.options_text.specs.Entries.{entries_after, is_within_limits}
use Rattle.options_text.specs.declared.entry.Entry.{Entry}
use Rattle.options_text.specs.declared.entry.Entry.TheVariants.{Lists, Rules, Passes}
use Rattle.options_text.specs.declared.fault.OptionsFault.{OptionsFault}
use Rattle.options_text.specs.declared.fault.OptionsFault.TheVariants.{UnknownGroup}
use Rattle.options_text.specs.declared.keyword.LogKeyword.{LogKeyword}

-- what an options file says: its groups, its rules, its notes, and the keyword of each note, each in the order of its lines
pub record OptionsFile : Type 0 where
  pub groups : List GroupLine
  pub lines : List RuleLine
  pub notes : List Note
  pub logs : List LogKeyword

abbrev pub group_in : Entry → Option GroupLine
group_in (Lists group) = Some group
group_in (Rules rule) = None
group_in (Passes note log) = None

abbrev pub rule_in : Entry → Option RuleLine
rule_in (Lists group) = None
rule_in (Rules rule) = Some rule
rule_in (Passes note log) = None

abbrev pub note_in : Entry → Option Note
note_in (Lists group) = None
note_in (Rules rule) = None
note_in (Passes note log) = Some note

abbrev pub log_in : Entry → Option LogKeyword
log_in (Lists group) = None
log_in (Rules rule) = None
log_in (Passes note log) = Some log

-- the groups, rules and notes among entries
abbrev pub options_among : List Entry → OptionsFile
options_among entries = record {
  groups = filter_map group_in entries;
  lines = filter_map rule_in entries;
  notes = filter_map note_in entries;
  logs = filter_map log_in entries;
}

-- an option behind a list
abbrev pub and_one : {X : Type 0} → List X → Option X → List X
and_one xs x = xs ++ option_to_list x

-- options, and what one entry more says
abbrev pub with_entry : OptionsFile → Entry → OptionsFile
with_entry file entry = record {
  groups = and_one file.groups (group_in entry);
  lines = and_one file.lines (rule_in entry);
  notes = and_one file.notes (note_in entry);
  logs = and_one file.logs (log_in entry);
}

-- some GROUP line has this name
abbrev pub has_users : List GroupLine → List ℕ → Bool
has_users groups name = list_any (λ (g : GroupLine). not g.of_hosts && same_name g.name name) groups

-- some HOST_GROUP line has this name
abbrev pub has_hosts : List GroupLine → List ℕ → Bool
has_hosts groups name = list_any (λ (g : GroupLine). g.of_hosts && same_name g.name name) groups

-- a name that is no group's, or that of a group which some line defines
abbrev pub is_defined : List GroupLine → WhoKind → List ℕ → Bool
is_defined groups User name = true
is_defined groups Host name = true
is_defined groups Display name = true
is_defined groups Project name = true
is_defined groups Group name = has_users groups name
is_defined groups HostGroup name = has_hosts groups name

-- a rule that names nobody, or somebody who is defined
abbrev pub is_nobody_or_defined : List GroupLine → Option Who → Bool
is_nobody_or_defined groups None = true
is_nobody_or_defined groups (Some who) = is_defined groups who.kind who.name

abbrev pub unless_undefined : OptionsFile → Option RuleLine → Result OptionsFile OptionsFault
unless_undefined options None = Ok options
unless_undefined options (Some rule) = Err (UnknownGroup rule.line)

-- the first rule that names a group which no line of the whole file defines
abbrev pub first_undefined : OptionsFile → Option RuleLine
first_undefined options = find (λ (rule : RuleLine). not (is_nobody_or_defined options.groups rule.who)) options.lines

-- the options, unless a rule names a group that no line of the whole file defines
abbrev pub with_groups_defined : OptionsFile → Result OptionsFile OptionsFault
with_groups_defined options = unless_undefined options (first_undefined options)

-- the options of a file
abbrev pub options_of : List ℕ → Result OptionsFile OptionsFault
options_of file = entries_after [] (lines_of file) >>= λ entries. with_groups_defined (options_among entries)

-- what holds of the options of every file
pub record IsOrderly (options : OptionsFile) : Type 0 where
  pub groups_rise : IsStrictlyIncreasing (map (λ (g : GroupLine). g.line) options.groups)
  pub lines_rise : IsStrictlyIncreasing (map (λ (l : RuleLine). l.line) options.lines)
  pub notes_rise : IsStrictlyIncreasing (map (λ (n : Note). n.line) options.notes)
  pub within : list_all (λ (l : RuleLine). is_within_limits l.rule) options.lines ≡ true
  pub paired : length options.logs ≡ length options.notes

-- options that a file says
pub record IsSaid (options : OptionsFile) : Type 0 where
  pub file : List ℕ
  pub says : options_of file ≡ Ok options
  pub orderly : IsOrderly options
