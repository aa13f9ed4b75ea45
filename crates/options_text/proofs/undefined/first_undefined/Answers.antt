use Rattle.std.proofs.Common.{ℕ, List, Option, ap, find, not, ◌∙◌}
use Rattle.std.specs.Option.{option_map}
use Rattle.lic_types.specs.Groups.{GroupLine}
use Rattle.lic_types.specs.declared.client.RuleLine.{RuleLine}
use Rattle.options_text.specs.Names.{is_known}
use Rattle.options_text.specs.Options.{has_hosts, has_users}
use Rattle.options_text.proofs.NameSets.{first_is}
use Rattle.options_text.proofs.undefined.first_undefined.Goals as goal

pub returns : goal.returns
returns c =
    let users = c.in_ok-names.names.users.keys in
    let hosts = c.in_ok-names.names.hosts.keys in
    let line : Option RuleLine → Option ℕ = option_map (λ (rule : RuleLine). rule.line) in
    c.line_of.ensures
    ∙ ap line (c.first_of.ensures
    ∙ (ap (λ (rules : List RuleLine). find (λ (rule : RuleLine). not (is_known users hosts rule.who)) rules) c.as_slice-2.ensures.value
    ∙ first_is users hosts c.args.parts.now.groups.items
    (λ name. c.in_ok-names.ensures.users name ∙ ap (λ (groups : List GroupLine). has_users groups name) c.as_slice.ensures.value)
    (λ name. c.in_ok-names.ensures.hosts name ∙ ap (λ (groups : List GroupLine). has_hosts groups name) c.as_slice.ensures.value)
    c.args.parts.now.lines.items))
