use Rattle.std.specs.Prelude.{◌≡◌, ℕ, Bool, true, false, List, Option, None, Some, filter, if◌then◌else◌, slice_get}
use Rattle.std.specs.List.{filter_map}
use Rattle.std.specs.Option.{option_map}
use Rattle.lic_types.specs.declared.client.Client.{Client}
use Rattle.lic_types.specs.declared.client.RuleLine.{RuleLine}
use Rattle.group_roster.specs.Listings.{name_print}
use Rattle.group_roster.specs.Printed.{has_print}
use Rattle.group_roster.specs.declared.prints.Printed.{Printed}
use Rattle.lic_types.specs.declared.client.Who.{Who}
use Rattle.lic_types.specs.declared.client.WhoKind.{WhoKind}
use Rattle.lic_types.specs.declared.client.WhoKind.TheVariants.{User, Host, Display, Project, Group, HostGroup}

abbrev pub is_group : WhoKind → Bool
is_group User = false
is_group Host = false
is_group Display = false
is_group Project = false
is_group Group = true
is_group HostGroup = true

-- whether a line names a group, of users or of hosts
abbrev pub names_group : Option Who → Bool
names_group None = false
names_group (Some who) = is_group who.kind

-- those of the lines that name a group
abbrev pub grouped_of : List RuleLine → List RuleLine
grouped_of lines = filter (λ (l : RuleLine). names_group l.who) lines

-- the print of what a line names that is no group
abbrev pub print_of : Option Who → Option ℕ
print_of None = None
print_of (Some who) = if is_group who.kind then None else Some (name_print who.name)

-- what is kept by its print of a line that stands at this place
abbrev pub printed_at : ℕ → Option RuleLine → Option Printed
printed_at place None = None
printed_at place (Some line) = option_map (λ (print : ℕ). record { print = print; place = place }) (print_of line.who)

-- what is kept by their prints of the lines at these places
abbrev pub printed_of : List RuleLine → List ℕ → List Printed
printed_of lines places = filter_map (λ (place : ℕ). printed_at place (slice_get lines place)) places

-- none of these has the print of a name of the client
pub record AreOthers (entries : List Printed) (client : Client) : Type 0 where
  pub user : has_print client.user entries ≡ false
  pub host : has_print client.host entries ≡ false
  pub display : has_print client.display entries ≡ false
  pub project : has_print client.project entries ≡ false
