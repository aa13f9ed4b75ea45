use Rattle.std.specs.Prelude.{ℕ, ◌+◌, List, [], ◌∷◌, ◌++◌, codes, decimal}
use Rattle.std.specs.List.{flat_map}
use Rattle.feature_lines.specs.Licence.{Contents}
use Rattle.feature_lines.specs.declared.pool.Pool.{Pool}
use Rattle.lic_types.specs.Days.{day_text}
use Rattle.lic_types.specs.declared.day.Expiry.{Expiry}
use Rattle.lic_types.specs.declared.day.Expiry.TheVariants.{Never, On}
use Rattle.lic_types.specs.declared.note.Note.{Note}
use Rattle.lic_types.specs.declared.note.NoteKind.{NoteKind}
use Rattle.lic_types.specs.declared.note.NoteKind.TheVariants.{SecondFeature, NodeLocked, NotServed, NotActed}
use Rattle.options_machine.specs.Rules.{cuts_of}
use Rattle.options_machine.specs.declared.limits.Cut.{Cut}
use Rattle.options_text.specs.Canonical.{canonical}
use Rattle.options_text.specs.Options.{OptionsFile}
use Rattle.policy.specs.Pools.{rules_of}

-- how long a pool is good
abbrev pub expiry_text : Expiry → List ℕ
expiry_text Never = codes "never"
expiry_text (On day) = day_text day

-- the line of the pool of this number
abbrev pub pool_line : ℕ → Pool → List ℕ
pool_line at pool =
    codes "POOL " ++ decimal at ++ 32 ∷ pool.name ++ 32 ∷ pool.version_text
    ++ codes " COUNT " ++ decimal pool.count ++ codes " EXPIRES " ++ expiry_text pool.expiry ++ 10 ∷ []

-- the lines of pools, of which the first has this number
abbrev pub pool_lines : ℕ → List Pool → List ℕ
pool_lines at [] = []
pool_lines at (pool ∷ pools) = pool_line at pool ++ pool_lines (at + 1) pools

abbrev pub note_text : NoteKind → List ℕ
note_text SecondFeature = codes "SECONDFEATURE"
note_text NodeLocked = codes "NODELOCKED"
note_text NotServed = codes "NOTSERVED"
note_text NotActed = codes "NOTACTED"

-- the line of a note, which begins with what file it is of
abbrev pub note_line : List ℕ → Note → List ℕ
note_line of_file note = of_file ++ decimal note.line ++ 32 ∷ note_text note.kind ++ 10 ∷ []

-- the line of a cut at the pool of this number
abbrev pub cut_line : ℕ → Cut → List ℕ
cut_line at cut = codes "CUT " ++ decimal at ++ codes " LINE " ++ decimal cut.line ++ codes " TO " ++ decimal cut.to ++ 10 ∷ []

-- the lines of the cuts at pools, of which the first has this number
abbrev pub cut_lines : OptionsFile → ℕ → List Pool → List ℕ
cut_lines options at [] = []
cut_lines options at (pool ∷ pools) = flat_map (cut_line at) (cuts_of (rules_of pool options)) ++ cut_lines options (at + 1) pools

-- what is written of a licence and an options file: the pools, the notes, the RESERVE lines that were cut, and the canonical text of the options
abbrev pub check_of : Contents → OptionsFile → List ℕ
check_of licence options =
    pool_lines 0 licence.pools
    ++ flat_map (note_line (codes "NOTE LICENCE ")) licence.notes
    ++ flat_map (note_line (codes "NOTE OPTIONS ")) options.notes
    ++ cut_lines options 0 licence.pools
    ++ codes "OPTIONS\n"
    ++ canonical options
