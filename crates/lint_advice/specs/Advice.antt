-- The advice on a licence and an options file.
use Rattle.std.specs.Prelude.{List, [], ◌++◌, Option}
use Rattle.std.specs.List.{filter_map, flat_map}
use Rattle.std.specs.Option.{option_to_list}
use Rattle.feature_lines.specs.Licence.{Contents}
use Rattle.feature_lines.specs.declared.pool.Pool.{Pool}
use Rattle.lic_types.specs.declared.client.RuleLine.{RuleLine}
use Rattle.options_text.specs.Options.{OptionsFile}
use Rattle.options_text.specs.declared.entry.Entry.{Entry}
use Rattle.options_text.specs.declared.entry.Entry.TheVariants.{Lists, Rules, Passes}
use Rattle.lint_advice.specs.Cuts.{cut_advice, cuts_from}
use Rattle.lint_advice.specs.Finds.{idle_max, never_read, no_pool, no_rule, short_timeout, shut_out}
use Rattle.lint_advice.specs.Order.{in_order}
use Rattle.lint_advice.specs.Pools.{expiring}
use Rattle.lint_advice.specs.declared.advice.Advice.{Advice}
use Rattle.lint_advice.specs.declared.advice.Horizon.{Horizon}
use Rattle.lint_advice.specs.declared.cuts.PoolCut.{PoolCut}

-- what is advised of a rule: of each kind what a test finds
abbrev pub rule_advice : List Pool → List RuleLine → List PoolCut → RuleLine → List Advice
rule_advice pools lines cuts line =
    option_to_list (no_pool pools line)
    ++ cut_advice cuts line
    ++ option_to_list (idle_max pools line)
    ++ option_to_list (shut_out lines line)
    ++ option_to_list (never_read lines line)
    ++ option_to_list (short_timeout line)

-- what is advised of a line of the options file
abbrev pub entry_advice : List Pool → List RuleLine → List PoolCut → Entry → List Advice
entry_advice pools lines cuts (Lists group) = option_to_list (no_rule lines group)
entry_advice pools lines cuts (Rules line) = rule_advice pools lines cuts line
entry_advice pools lines cuts (Passes note log) = []

-- what is advised of the lines of an options file, in their order
abbrev pub lines_advice : List Pool → OptionsFile → List Advice
lines_advice pools options = flat_map (entry_advice pools options.lines (cuts_from options 0 pools)) (in_order options.groups options.lines)

-- what is advised of the pools, in their order
abbrev pub pools_advice : Option Horizon → List Pool → List Advice
pools_advice horizon pools = filter_map (expiring horizon) pools

-- the advice on a licence and an options file, with that on pools that expire by a horizon, where there is one
abbrev pub advice_of : Contents → OptionsFile → Option Horizon → List Advice
advice_of licence options horizon = lines_advice licence.pools options ++ pools_advice horizon licence.pools
