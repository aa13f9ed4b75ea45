-- How the licence and the options of a trial are read.
use Rattle.std.proofs.Common.{◌≡◌, ℕ, List, [], ◌∷◌, codes, Ok, refl}
use Rattle.lic_text.specs.Lines.{lines_from}
use Rattle.lic_text.specs.Physical.{physical_lines}
use Rattle.feature_lines.specs.Licence.{licence_of}
use Rattle.options_text.specs.Forms.{admits_of, entry_of, group_of, shares_of, times_of}
use Rattle.options_text.specs.Keywords.{keyword_of, kind_of, spells}
use Rattle.options_text.specs.Options.{options_of}
use Rattle.trial_replay.specs.Terms.{bench_options, bench_pool}

-- the text of the licence
abbrev pub licence_text : List ℕ
licence_text = codes "FEATURE bench v 1.0 permanent 4"

-- the text of the options file
abbrev pub options_text : List ℕ
options_text = codes "GROUP even u0 u2 u4 u6\nEXCLUDE bench USER u7\nRESERVE 1 bench USER u1\nMAX 2 bench GROUP even\nLINGER bench 40\nTIMEOUT bench 900\n"

pub licence_says : licence_of licence_text ≡ Ok (record { pools = bench_pool ∷ []; notes = [] })
unfolding physical_lines lines_from
licence_says = refl

pub options_say : options_of options_text ≡ Ok bench_options
unfolding physical_lines lines_from group_of admits_of shares_of times_of entry_of keyword_of kind_of spells
options_say = refl
