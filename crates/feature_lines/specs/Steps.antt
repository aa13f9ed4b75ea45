use Rattle.std.specs.Prelude.{ℕ, ◌+◌, nat_lt, ◌==◌, if◌then◌else◌, List, [], ◌∷◌, ◌++◌, length, find, Option, None, Some, Result, Ok, Err}
use Rattle.lic_types.specs.NameSets.{has_name, with_name}
use Rattle.lic_types.specs.declared.note.Note.{Note}
use Rattle.lic_types.specs.declared.note.NoteKind.{NoteKind}
use Rattle.lic_types.specs.declared.note.NoteKind.TheVariants.{SecondFeature, NodeLocked, NotServed}
use Rattle.lic_types.specs.declared.limits.TheConstants.{LICENCE_LIMIT}
use Rattle.feature_lines.specs.declared.fault.LicenceFault.{LicenceFault}
use Rattle.feature_lines.specs.declared.fault.LicenceFault.TheVariants.{BadCount, TooManyPools}
use Rattle.feature_lines.specs.declared.line.FeatureLine.{FeatureLine}
use Rattle.feature_lines.specs.declared.line.Said.TheVariants.{Nothing, NotServed as Unserved, Feature}
use Rattle.feature_lines.specs.declared.pool.Pool.{Pool}
use Rattle.feature_lines.specs.Licence.{Judged, PoolKey, line_key, pool_key, pool_with, same_key}
use Rattle.feature_lines.specs.declared.draft.TheConstants.{POOL_LIMIT}

-- The one pass over the lines, step by step. No public clause cites it: `licence_of` says what it comes to.

-- what the lines so far say: the pools, the notes, and the names of the FEATURE lines
pub record Sofar : Type 0 where
  pub pools : List Pool
  pub notes : List Note
  pub features : List (List ℕ)

-- before the first line
abbrev pub blank : Sofar
blank = record { pools = []; notes = []; features = [] }

abbrev pub with_more : ℕ → Pool → Pool
with_more count p = record p { count = p.count + count }

-- the first pool of this key has so many more
abbrev pub pools_with_more : PoolKey → ℕ → List Pool → List Pool
pools_with_more key count [] = []
pools_with_more key count (p ∷ ps) = if same_key key (pool_key p) then with_more count p ∷ ps else p ∷ pools_with_more key count ps

abbrev pub added_to : FeatureLine → List Pool → Option Pool → Result (List Pool) LicenceFault
added_to f pools None = if nat_lt (length pools) POOL_LIMIT then Ok (pools ++ pool_with f.count f ∷ []) else Err (TooManyPools f.line)
added_to f pools (Some p) = if nat_lt LICENCE_LIMIT (p.count + f.count) then Err (BadCount f.line) else Ok (pools_with_more (line_key f) f.count pools)

-- the count of a line is added to its pool, or makes it
abbrev pub pools_with_line : FeatureLine → List Pool → Result (List Pool) LicenceFault
pools_with_line f pools = added_to f pools (find (λ p. same_key (line_key f) (pool_key p)) pools)

abbrev pub sofar_with_note : ℕ → NoteKind → Sofar → Sofar
sofar_with_note line kind s = record s { notes = s.notes ++ (record { line = line; kind = kind }) ∷ [] }

abbrev pub with_pools : Sofar → Result (List Pool) LicenceFault → Result Sofar LicenceFault
with_pools s (Ok pools) = Ok (record s { pools = pools })
with_pools s (Err fault) = Err fault

abbrev pub counted_or_locked : Sofar → FeatureLine → Result Sofar LicenceFault
counted_or_locked s f = if f.count == 0 then Ok (sofar_with_note f.line NodeLocked s) else with_pools s (pools_with_line f s.pools)

abbrev pub after_feature : Sofar → FeatureLine → Result Sofar LicenceFault
after_feature s f =
    if f.is_feature
    then (if has_name f.name s.features then Ok (sofar_with_note f.line SecondFeature s) else counted_or_locked (record s { features = with_name s.features f.name }) f)
    else counted_or_locked s f

-- the next line is taken
abbrev pub sofar_after_line : Sofar → Judged → Result Sofar LicenceFault
sofar_after_line s (Ok (Feature f)) = after_feature s f
sofar_after_line s (Ok Nothing) = Ok s
sofar_after_line s (Ok (Unserved line)) = Ok (sofar_with_note line NotServed s)
sofar_after_line s (Err fault) = Err fault

-- the lines are taken one after another
abbrev pub sofar_after_lines : Result Sofar LicenceFault → List Judged → Result Sofar LicenceFault
sofar_after_lines (Err fault) [] = Err fault
sofar_after_lines (Ok s) [] = Ok s
sofar_after_lines (Err fault) (line ∷ lines) = sofar_after_lines (Err fault) lines
sofar_after_lines (Ok s) (line ∷ lines) = sofar_after_lines (sofar_after_line s line) lines
