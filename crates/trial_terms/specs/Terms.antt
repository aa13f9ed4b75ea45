-- The licence and the options of a trial.
use Rattle.std.specs.Prelude.{ℕ, List, [], ◌++◌, codes, decimal}
use Rattle.feature_lines.specs.declared.pool.Pool.{Pool}
use Rattle.lic_types.specs.declared.day.Expiry.TheVariants.{Never}
use Rattle.options_text.specs.Options.{OptionsFile}

-- the text of the licence with so many seats
abbrev pub licence_text : ℕ → List ℕ
licence_text seats = codes "FEATURE trial v 1.0 permanent " ++ decimal seats

-- its one pool; the key of version 1.0 is 10^9
abbrev pub trial_pool : ℕ → Pool
trial_pool seats = record {
  name = codes "trial";
  version = record { key = 1000000000 };
  version_text = codes "1.0";
  vendor = codes "v";
  expiry = Never;
  count = seats;
  line = 1;
}

-- the options of an empty file
abbrev pub no_options : OptionsFile
no_options = record { groups = []; lines = []; notes = []; logs = [] }
