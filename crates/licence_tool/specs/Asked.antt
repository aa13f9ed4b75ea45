use Rattle.std.specs.Prelude.{◌≡◌, ℕ, ◌+◌, ◌≤◌, ◌<◌, List, [], ◌∷◌, ◌++◌, length, take, Option, None, Some, slice_get}
use Rattle.licence_tool.specs.Command.{Audit, CommandOf, Check, Replay, Trial}
use Rattle.licence_tool.specs.declared.status.Status.{Status}
use Rattle.licence_tool.specs.declared.status.Status.TheVariants.{Done, Usage, Licence, Options, MoreOptions, Script, ReadFault, WriteFault, NoMemory, FileTooLong, AuditNo}

-- the names of the files of a command, in their order
abbrev pub files_of : Option (CommandOf (List ℕ)) → List (List ℕ)
files_of None = []
files_of (Some (Check names)) = names.licence ∷ names.options ∷ []
files_of (Some (Replay kind names)) = names.licence ∷ names.options ∷ names.third ∷ names.more
files_of (Some (Audit report names)) = names.licence ∷ names.options ∷ names.third ∷ names.more
files_of (Some (Trial events)) = []

-- a reading failed
abbrev pub HasFailed : List (List ℕ) → List (List ℕ) → Type 0
HasFailed old new = length old < length new

-- Of files, of which the first stands at this position, so many were asked for: all where all was read, and else those up to the file of which the status speaks. Memory may be wanted at any, and where there is no command there are no files.
abbrev pub EndsAt : ℕ → ℕ → ℕ → Status → Type 0
EndsAt first all count Done = count ≡ all
EndsAt first all count WriteFault = count ≡ all
EndsAt first all count (AuditNo line) = count ≡ all
EndsAt first all count Usage = Unit {0}
EndsAt first all count NoMemory = Unit {0}
EndsAt first all count (Licence fault) = first + count ≡ 1 + 1
EndsAt first all count (Options fault) = first + count ≡ 2 + 1
EndsAt first all count (Script fault) = first + count ≡ 3 + 1
EndsAt first all count (MoreOptions set fault) = first + count ≡ 3 + set + 1
EndsAt first all count (ReadFault file) = first + count ≡ file + 1
EndsAt first all count (FileTooLong file) = first + count ≡ file + 1

-- the reading of the file at this position failed, and no other reading
pub record FailedAt (first : ℕ) (names old new : List (List ℕ)) (file : ℕ) : Type 0 where
  pub place : ℕ
  pub name : List ℕ
  pub position : file ≡ first + place
  pub is : slice_get names place ≡ Some name
  pub failed : new ≡ old ++ name ∷ []

-- a read fault is told exactly of the file whose reading failed
abbrev pub FailsAt : ℕ → List (List ℕ) → List (List ℕ) → List (List ℕ) → Status → Type 0
FailsAt first names old new (ReadFault file) = FailedAt first names old new file
FailsAt first names old new Done = new ≡ old
FailsAt first names old new WriteFault = new ≡ old
FailsAt first names old new (AuditNo line) = new ≡ old
FailsAt first names old new Usage = new ≡ old
FailsAt first names old new NoMemory = new ≡ old
FailsAt first names old new (Licence fault) = new ≡ old
FailsAt first names old new (Options fault) = new ≡ old
FailsAt first names old new (Script fault) = new ≡ old
FailsAt first names old new (MoreOptions set fault) = new ≡ old
FailsAt first names old new (FileTooLong file) = new ≡ old

-- These names, of which the first stands at this position, were asked for in their order, each once, up to the file of which the status speaks, and only its reading failed.
pub record Asks (first : ℕ) (names asked_old asked_new failed_old failed_new : List (List ℕ)) (status : Status) : Type 0 where
  pub count : ℕ
  pub within : count ≤ length names
  pub asked : asked_new ≡ asked_old ++ take count names
  pub ends : EndsAt first (length names) count status
  pub fails : FailsAt first names failed_old failed_new status

-- a status that refuses what the file at this position holds, or want of memory
abbrev pub IsOf : ℕ → Status → Type 0
IsOf position NoMemory = Unit {0}
IsOf position (Licence fault) = position ≡ 1
IsOf position (Options fault) = position ≡ 2
IsOf position (Script fault) = position ≡ 3
IsOf position (MoreOptions set fault) = position ≡ 3 + set
IsOf position Done = ⊥
IsOf position Usage = ⊥
IsOf position (ReadFault file) = ⊥
IsOf position WriteFault = ⊥
IsOf position (AuditNo line) = ⊥
IsOf position (FileTooLong file) = ⊥
