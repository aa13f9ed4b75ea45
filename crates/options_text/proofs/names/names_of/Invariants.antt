use Rattle.std.proofs.Common.{◌≡◌, ℕ, List, take}
use Rattle.lic_types.specs.NameSets.{has_name}
use Rattle.options_text.specs.Options.{has_hosts, has_users}
use Rattle.options_text.proofs.names.names_of.Given as goal

-- the names are those of the groups so far
abbrev pub invariant-loop-group : goal.invariant-loop-group
invariant-loop-group l = record {
  users : (name : List ℕ) → has_name name l.names.users.keys ≡ has_users (take l.group-index l.groups) name;
  hosts : (name : List ℕ) → has_name name l.names.hosts.keys ≡ has_hosts (take l.group-index l.groups) name;
}
