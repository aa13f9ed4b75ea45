use Rattle.std.specs.Prelude.{◌≡◌, ℕ, Bool, true, ◌&&◌, List, [], ◌∷◌, map, Option, None, Some, IfSome, is_some}
use Rattle.std.specs.List.{list_all}
use Rattle.licence_tool.specs.Command.{CheckFiles, Audit, CommandOf, Check, Replay, RunFiles, Trial}

-- the bytes of a file or a sink: what it holds, as far as that is told, or what was read of a file, where its reading didn't fail
abbrev pub Bytes : Type 0
Bytes = Option (List ℕ)

-- what the files of a replay, a report, an audit or a usage hold, as far as that is told
abbrev pub run_contents : (List ℕ → Bytes) → RunFiles (List ℕ) → RunFiles Bytes
run_contents contents names = record { licence = contents names.licence; options = contents names.options; third = contents names.third; more = map contents names.more }

-- what the files of a command hold, as far as that is told
abbrev pub told_by : (List ℕ → Bytes) → CommandOf (List ℕ) → CommandOf Bytes
told_by contents (Check names) = Check (record { licence = contents names.licence; options = contents names.options })
told_by contents (Replay kind names) = Replay kind (run_contents contents names)
told_by contents (Audit report names) = Audit report (run_contents contents names)
told_by contents (Trial events) = Trial events

abbrev pub is_run_told : RunFiles Bytes → Bool
is_run_told told = is_some told.licence && (is_some told.options && (is_some told.third && list_all is_some told.more))

-- whether it is told of each file what it holds
abbrev pub are_told : CommandOf Bytes → Bool
are_told (Check told) = is_some told.licence && is_some told.options
are_told (Replay kind told) = is_run_told told
are_told (Audit report told) = is_run_told told
are_told (Trial events) = true

-- what may be read of a file: just the bytes that it is told to hold, or any where nothing is told; and nothing where its reading failed
abbrev pub IsReading : Type 0 → Bytes → Bytes → Type 0
IsReading Failed told (Some bytes) = IfSome told (λ held. bytes ≡ held)
IsReading Failed told None = Failed

-- the same of several files in their order
abbrev pub AreReadings : Type 0 → List Bytes → List Bytes → Type 0
AreReadings Failed [] [] = Unit {0}
AreReadings Failed [] (reading ∷ readings) = ⊥
AreReadings Failed (told ∷ others) [] = ⊥
AreReadings Failed (told ∷ others) (reading ∷ readings) = IsReading Failed told reading × AreReadings Failed others readings

-- the same of the files of a check
pub record AreOfCheck (Failed : Type 0) (told readings : CheckFiles Bytes) : Type 0 where
  pub licence : IsReading Failed told.licence readings.licence
  pub options : IsReading Failed told.options readings.options

-- the same of the files of a replay, a report, an audit or a usage
pub record AreOfRun (Failed : Type 0) (told readings : RunFiles Bytes) : Type 0 where
  pub licence : IsReading Failed told.licence readings.licence
  pub options : IsReading Failed told.options readings.options
  pub third : IsReading Failed told.third readings.third
  pub more : AreReadings Failed told.more readings.more

-- the same of the files of a command
abbrev pub AreOfCommand : Type 0 → CommandOf Bytes → CommandOf Bytes → Type 0
AreOfCommand Failed (Check told) (Check readings) = AreOfCheck Failed told readings
AreOfCommand Failed (Replay kind told) (Replay same readings) = (same ≡ kind) × AreOfRun Failed told readings
AreOfCommand Failed (Audit report told) (Audit same readings) = (same ≡ report) × AreOfRun Failed told readings
AreOfCommand Failed (Trial events) (Trial same) = same ≡ events
AreOfCommand Failed (Check told) (Replay kind readings) = ⊥
AreOfCommand Failed (Check told) (Audit report readings) = ⊥
AreOfCommand Failed (Replay kind told) (Check readings) = ⊥
AreOfCommand Failed (Replay kind told) (Audit report readings) = ⊥
AreOfCommand Failed (Audit report told) (Check readings) = ⊥
AreOfCommand Failed (Audit report told) (Replay kind readings) = ⊥
AreOfCommand Failed (Check told) (Trial events) = ⊥
AreOfCommand Failed (Replay kind told) (Trial events) = ⊥
AreOfCommand Failed (Audit report told) (Trial events) = ⊥
AreOfCommand Failed (Trial events) (Check readings) = ⊥
AreOfCommand Failed (Trial events) (Replay kind readings) = ⊥
AreOfCommand Failed (Trial events) (Audit report readings) = ⊥
