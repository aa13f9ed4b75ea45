-- The licence and the options under which the events of a trial are replayed.
use Rattle.std.specs.Prelude.{false, List, [], ◌∷◌, None, Some, codes}
use Rattle.feature_lines.specs.declared.pool.Pool.{Pool}
use Rattle.lic_types.specs.Groups.{GroupLine}
use Rattle.lic_types.specs.declared.client.Rule.TheVariants.{Exclude, Max, Reserve, Linger, Timeout}
use Rattle.lic_types.specs.declared.client.RuleLine.{RuleLine}
use Rattle.lic_types.specs.declared.client.WhoKind.TheVariants.{Group, User}
use Rattle.lic_types.specs.declared.day.Expiry.TheVariants.{Never}
use Rattle.options_machine.specs.Rules.{Rules}
use Rattle.options_text.specs.Options.{OptionsFile}
use Rattle.policy.specs.Pools.{rules_of}

-- the one pool of the licence; the key of version 1.0 is 10^9
abbrev pub bench_pool : Pool
bench_pool = record {
  name = codes "bench";
  version = record { key = 1000000000 };
  version_text = codes "1.0";
  vendor = codes "v";
  expiry = Never;
  count = 4;
  line = 1;
}

-- the group of the options file's first line
abbrev pub even : GroupLine
even = record { line = 1; of_hosts = false; name = codes "even"; members = codes "u0" ∷ codes "u2" ∷ codes "u4" ∷ codes "u6" ∷ [] }

-- the rules of its other lines
abbrev pub bench_lines : List RuleLine
bench_lines =
    record { line = 2; feature = Some (codes "bench"); rule = Exclude; who = Some (record { kind = User; name = codes "u7" }) }
    ∷ record { line = 3; feature = Some (codes "bench"); rule = Reserve 1; who = Some (record { kind = User; name = codes "u1" }) }
    ∷ record { line = 4; feature = Some (codes "bench"); rule = Max 2; who = Some (record { kind = Group; name = codes "even" }) }
    ∷ record { line = 5; feature = Some (codes "bench"); rule = Linger 40; who = None }
    ∷ record { line = 6; feature = Some (codes "bench"); rule = Timeout 900; who = None }
    ∷ []

-- what the file says
abbrev pub bench_options : OptionsFile
bench_options = record { groups = even ∷ []; lines = bench_lines; notes = []; logs = [] }

-- the one rule set of the pool
unfoldable pub bench_sets : List Rules
bench_sets = rules_of bench_pool bench_options ∷ []
