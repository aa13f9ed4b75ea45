use Rattle.std.specs.Prelude.{ℕ, Bool, ◌&&◌, List}
use Rattle.lic_types.specs.declared.client.Rule.{Rule}
use Rattle.lic_types.specs.declared.client.RuleLine.{RuleLine}
use Rattle.options_machine.specs.Rules.{is_exclude, is_include, is_of_pool}
use Rattle.policy.specs.declared.selection.Barring.{Barring}
use Rattle.policy.specs.declared.selection.Barring.TheVariants.{Exclude, Include}

-- whether it is the rule of a line of this kind
abbrev pub is_barring : Barring → Rule → Bool
is_barring Exclude rule = is_exclude rule
is_barring Include rule = is_include rule

-- whether it is a line of this kind of the feature's pools
abbrev pub bars : Barring → List ℕ → RuleLine → Bool
bars barring feature line = is_of_pool feature line.feature && is_barring barring line.rule
