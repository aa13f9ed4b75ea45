use Rattle.std.specs.Prelude.{ℕ, ◌+◌, ◌==◌, List, [], ◌∷◌, ◌++◌, map, filter}
use Rattle.feature_lines.specs.declared.pool.Pool.{Pool}
use Rattle.lic_types.specs.declared.client.RuleLine.{RuleLine}
use Rattle.options_machine.specs.Rules.{cuts_of}
use Rattle.options_machine.specs.declared.limits.Cut.{Cut as CutLine}
use Rattle.options_text.specs.Options.{OptionsFile}
use Rattle.policy.specs.Pools.{rules_of}
use Rattle.lint_advice.specs.declared.advice.Advice.{Advice}
use Rattle.lint_advice.specs.declared.advice.Advice.TheVariants.{Cut}
use Rattle.lint_advice.specs.declared.cuts.PoolCut.{PoolCut}

-- a cut at the pool of this number
abbrev pub at_pool : ℕ → CutLine → PoolCut
at_pool pool cut = record { pool = pool; cut = cut }

-- the RESERVE lines that pools cut by the rules of an options file; the first pool has this number
abbrev pub cuts_from : OptionsFile → ℕ → List Pool → List PoolCut
cuts_from options at [] = []
cuts_from options at (pool ∷ pools) = map (at_pool at) (cuts_of (rules_of pool options)) ++ cuts_from options (at + 1) pools

abbrev pub cut_said : PoolCut → Advice
cut_said found = Cut found.cut.line found.pool found.cut.to

-- the cuts of a line, pool by pool
abbrev pub cut_advice : List PoolCut → RuleLine → List Advice
cut_advice cuts line = map cut_said (filter (λ (c : PoolCut). c.cut.line == line.line) cuts)
