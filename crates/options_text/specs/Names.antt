use Rattle.std.specs.Prelude.{ℕ, Bool, true, List, Option, None, Some}
use Rattle.std.specs.Option.{option_map}
use Rattle.lic_types.specs.NameSets.{has_name}
use Rattle.lic_types.specs.declared.client.RuleLine.{RuleLine}
use Rattle.lic_types.specs.declared.client.Who.{Who}
use Rattle.lic_types.specs.declared.client.WhoKind.{WhoKind}
use Rattle.lic_types.specs.declared.client.WhoKind.TheVariants.{User, Host, Display, Project, Group, HostGroup}
use Rattle.options_text.specs.Options.{OptionsFile, first_undefined}

-- a name that is no group's, or one of the names of groups of its kind
abbrev pub is_listed : List (List ℕ) → List (List ℕ) → WhoKind → List ℕ → Bool
is_listed users hosts User name = true
is_listed users hosts Host name = true
is_listed users hosts Display name = true
is_listed users hosts Project name = true
is_listed users hosts Group name = has_name name users
is_listed users hosts HostGroup name = has_name name hosts

-- nobody, or somebody who is listed
abbrev pub is_known : List (List ℕ) → List (List ℕ) → Option Who → Bool
is_known users hosts None = true
is_known users hosts (Some who) = is_listed users hosts who.kind who.name

-- the line of the first rule that names a group which no line of the whole file defines
abbrev pub line_undefined : OptionsFile → Option ℕ
line_undefined options = option_map (λ (rule : RuleLine). rule.line) (first_undefined options)
