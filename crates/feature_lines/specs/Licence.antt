use Rattle.std.specs.Prelude.{◌≡◌, ℕ, ◌+◌, ◌≤◌, Bool, true, false, ◌&&◌, not, nat_lt, nat_le, ◌==◌, if◌then◌else◌, List, [], ◌∷◌, ◌++◌, length, map, filter, filter_map, sum_by, Option, None, Some, Result, Ok, Err}
use Rattle.std.specs.List.{list_any, list_all}
use Rattle.lic_text.specs.Lines.{lines_of}
use Rattle.lic_types.specs.Groups.{same_name}
use Rattle.lic_types.specs.declared.day.Expiry.{Expiry}
use Rattle.lic_types.specs.declared.day.Expiry.TheVariants.{Never, On}
use Rattle.lic_types.specs.declared.note.Note.{Note}
use Rattle.lic_types.specs.declared.note.NoteKind.TheVariants.{SecondFeature, NodeLocked, NotServed}
use Rattle.lic_types.specs.declared.limits.TheConstants.{LICENCE_LIMIT}
use Rattle.feature_lines.specs.Line.{said_or_fault}
use Rattle.feature_lines.specs.declared.fault.LicenceFault.{LicenceFault}
use Rattle.feature_lines.specs.declared.fault.LicenceFault.TheVariants.{BadCount, TooManyPools, NoMemory}
use Rattle.feature_lines.specs.declared.line.FeatureLine.{FeatureLine}
use Rattle.feature_lines.specs.declared.line.Said.{Said}
use Rattle.feature_lines.specs.declared.line.Said.TheVariants.{Nothing, NotServed as Unserved, Feature}
use Rattle.feature_lines.specs.declared.pool.Pool.{Pool}
use Rattle.feature_lines.specs.declared.draft.TheConstants.{POOL_LIMIT}

-- what is seen of a licence: its pools in the order of their first lines, and its notes in the order of the lines
pub record Contents : Type 0 where
  pub pools : List Pool
  pub notes : List Note

-- what makes a pool one: its name, the key of its version and the date of its expiry, if it has one
pub record PoolKey : Type 0 where
  pub name : List ℕ
  pub version : ℕ
  pub date : Option (ℕ × ℕ × ℕ)

abbrev pub date_of : Expiry → Option (ℕ × ℕ × ℕ)
date_of Never = None
date_of (On day) = Some (day.year, day.month, day.day)

abbrev pub same_date : Option (ℕ × ℕ × ℕ) → Option (ℕ × ℕ × ℕ) → Bool
same_date None None = true
same_date None (Some b) = false
same_date (Some a) None = false
same_date (Some a) (Some b) = a.0 == b.0 && a.1 == b.1 && a.2 == b.2

abbrev pub same_key : PoolKey → PoolKey → Bool
same_key a b = same_name a.name b.name && a.version == b.version && same_date a.date b.date

abbrev pub line_key : FeatureLine → PoolKey
line_key f = record { name = f.name; version = f.version.key; date = date_of f.expiry }

abbrev pub pool_key : Pool → PoolKey
pool_key p = record { name = p.name; version = p.version.key; date = date_of p.expiry }

-- each element with those before it; these stand before all of them
abbrev pub with_before : {X : Type 0} → List X → List X → List (List X × X)
with_before front [] = []
with_before front (x ∷ xs) = (front, x) ∷ with_before (front ++ x ∷ []) xs

abbrev pub some_or : {X : Type 0} → Option X → Option X → Option X
some_or (Some x) other = Some x
some_or None other = other

-- the first that is some
abbrev pub first_some : {X Y : Type 0} → (X → Option Y) → List X → Option Y
first_some h [] = None
first_some h (x ∷ xs) = some_or (h x) (first_some h xs)

-- a line as its words alone say, or its fault
abbrev pub Judged : Type 0
Judged = Result Said LicenceFault

-- whether it is a FEATURE line of this name
abbrev pub is_feature_of : List ℕ → Judged → Bool
is_feature_of name (Ok (Feature f)) = f.is_feature && same_name name f.name
is_feature_of name (Ok Nothing) = false
is_feature_of name (Ok (Unserved line)) = false
is_feature_of name (Err fault) = false

-- whether it is a FEATURE line whose name an earlier FEATURE line has, served or not
abbrev pub is_second : List Judged → FeatureLine → Bool
is_second before f = f.is_feature && list_any (is_feature_of f.name) before

-- whether its count is added to a pool
abbrev pub is_counted : List Judged → FeatureLine → Bool
is_counted before f = not (is_second before f) && not (f.count == 0)

-- the line, where it is one whose count is added to a pool
abbrev pub counted_in : List Judged → Judged → Option FeatureLine
counted_in before (Ok (Feature f)) = if is_counted before f then Some f else None
counted_in before (Ok Nothing) = None
counted_in before (Ok (Unserved line)) = None
counted_in before (Err fault) = None

-- the lines whose counts are added to pools
abbrev pub counted_lines : List Judged → List FeatureLine
counted_lines lines = filter_map (λ at. counted_in at.0 at.1) (with_before [] lines)

-- the sum of the counts of the lines of one pool
abbrev pub total : List FeatureLine → PoolKey → ℕ
total lines key = sum_by (λ (f : FeatureLine). f.count) (filter (λ f. same_key key (line_key f)) lines)

-- whether some of these lines is of the pool
abbrev pub has_line : List FeatureLine → PoolKey → Bool
has_line lines key = list_any (λ f. same_key key (line_key f)) lines

-- the pool of which a line is the first, with a count
abbrev pub pool_with : ℕ → FeatureLine → Pool
pool_with count f = record { name = f.name; version = f.version; version_text = f.version_text; vendor = f.vendor; expiry = f.expiry; count = count; line = f.line }

-- the pool of a line, where no line before it is of that pool
abbrev pub pool_in : List FeatureLine → List FeatureLine → FeatureLine → Option Pool
pool_in lines before f = if has_line before (line_key f) then None else Some (pool_with (total lines (line_key f)) f)

-- the pools of lines: in the order of their first lines, each with the sum of the counts of all its lines
abbrev pub pools_of : List FeatureLine → List Pool
pools_of lines = filter_map (λ at. pool_in lines at.0 at.1) (with_before [] lines)

-- what is noted of a line
abbrev pub note_in : List Judged → Judged → Option Note
note_in before (Ok (Feature f)) =
    if is_second before f then Some (record { line = f.line; kind = SecondFeature })
    else (if f.count == 0 then Some (record { line = f.line; kind = NodeLocked }) else None)
note_in before (Ok Nothing) = None
note_in before (Ok (Unserved line)) = Some (record { line = line; kind = NotServed })
note_in before (Err fault) = None

abbrev pub notes_of : List Judged → List Note
notes_of lines = filter_map (λ at. note_in at.0 at.1) (with_before [] lines)

-- the fault of a line whose count is added to a pool, behind other such lines
abbrev pub count_fault : List FeatureLine → FeatureLine → Option LicenceFault
count_fault lines f =
    if nat_lt LICENCE_LIMIT (total lines (line_key f) + f.count) then Some (BadCount f.line)
    else (if not (has_line lines (line_key f)) && nat_le POOL_LIMIT (length (pools_of lines)) then Some (TooManyPools f.line) else None)

-- the fault of a line, behind the lines before it
abbrev pub fault_in : List Judged → Judged → Option LicenceFault
fault_in before (Err fault) = Some fault
fault_in before (Ok (Feature f)) = if is_counted before f then count_fault (counted_lines before) f else None
fault_in before (Ok Nothing) = None
fault_in before (Ok (Unserved line)) = None

-- the fault of the first line at fault
abbrev pub first_fault : List Judged → Option LicenceFault
first_fault lines = first_some (λ at. fault_in at.0 at.1) (with_before [] lines)

abbrev pub unless_fault : {X : Type 0} → Option LicenceFault → X → Result X LicenceFault
unless_fault None x = Ok x
unless_fault (Some fault) x = Err fault

-- the licence that lines say, or its first fault
abbrev pub licence_in : List Judged → Result Contents LicenceFault
licence_in lines = unless_fault (first_fault lines) (record { pools = pools_of (counted_lines lines); notes = notes_of lines })

-- the licence that a file says, or its first fault
abbrev pub licence_of : List ℕ → Result Contents LicenceFault
licence_of file = licence_in (map said_or_fault (lines_of file))

-- the fault of a file that a fault tells; want of memory tells none
abbrev pub fault_told : LicenceFault → Option LicenceFault
fault_told NoMemory = None
fault_told fault = Some fault

-- whether a pool has from 1 to 65,535 licences
abbrev pub has_licences : Pool → Bool
has_licences p = nat_lt 0 p.count && nat_le p.count LICENCE_LIMIT

abbrev pub has_pool : PoolKey → List Pool → Bool
has_pool key pools = list_any (λ (p : Pool). same_key key (pool_key p)) pools

-- no two pools are one
abbrev pub are_apart : List Pool → Bool
are_apart [] = true
are_apart (p ∷ ps) = not (has_pool (pool_key p) ps) && are_apart ps

-- what holds of the pools of every licence
pub record ArePools (pools : List Pool) : Type 0 where
  pub few : length pools ≤ POOL_LIMIT
  pub counts : list_all has_licences pools ≡ true
  pub apart : are_apart pools ≡ true
