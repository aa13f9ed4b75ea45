use Rattle.std.proofs.Common.{◌≡◌, ◌≢◌, ℕ, ◌⊎◌, true, ◌&&◌, List, [], ◌∷◌, map, Option, None, Some, is_some, Result, Ok, Err, refl, sym, ap, ◌∙◌, subst, inl, inr}
use Rattle.std.specs.List.{list_all}
use Rattle.std.proofs.lemmas.Simd.{map-map}
use Rattle.std.proofs.lemmas.Bool.{and_parts}
use Rattle.licence_tool.specs.Asked.{Asks, FailedAt, FailsAt, files_of}
use Rattle.licence_tool.specs.Command.{Audit, CommandOf, Check, Replay, RunFiles, Trial}
use Rattle.licence_tool.specs.Files.{AreOfCommand, AreOfRun, AreReadings, Bytes, IsReading, are_told, is_run_told, told_by}
use Rattle.licence_tool.specs.Outcome.{Due, IsRefuted, IsTold, outcome_of}
use Rattle.licence_tool.specs.Status.{has_own_fault, is_refusal}
use Rattle.licence_tool.specs.Tool.{Comes, EndSays, ForFiles, HistoriesSay, IsDone, IsSure, WritesAll, WritesPrefix, WritesHistories, WritesNo}
use Rattle.licence_tool.proofs.Verdicts.{refuted_at, told_or_refuted}
use Rattle.licence_tool.specs.declared.command.LogReport.{LogReport}
use Rattle.licence_tool.specs.declared.command.ScriptReport.{ScriptReport}
use Rattle.licence_tool.specs.declared.status.Status.{Status}
use Rattle.licence_tool.specs.declared.status.Status.TheVariants.{Done, Usage, Licence, Options, MoreOptions, Script, ReadFault, WriteFault, NoMemory, FileTooLong, AuditNo}

-- how words end that are no command or weren't read, or else what the status says of the files
pub record Performs (command : Option (CommandOf (List ℕ))) (contents : List ℕ → Bytes) (FR OR : Type 0) (old new : Bytes) (s : Status) : Type 0 where
  pub idle : command ≡ None → (s ≡ Usage) ⊎ (s ≡ NoMemory)
  pub unwritten : command ≡ None → new ≡ old
  pub says : ForFiles command contents (λ told. IsDone FR OR told old new s)

-- what is done of a replay or a report is done of the files that its words name
pub for_replay : {X : Type 0} (kind : ScriptReport) (command : Option (CommandOf (List ℕ))) (contents : List ℕ → Bytes) (licence options third : List ℕ) (f : X → List ℕ) (names : List X) (FR OR : Type 0) (old new : Bytes) (s : Status)
    → Some (Replay kind (record { licence = licence; options = options; third = third; more = map f names })) ≡ command
    → IsDone FR OR (Replay kind (record { licence = contents licence; options = contents options; third = contents third; more = map (λ (n : X). contents (f n)) names })) old new s
    → ForFiles command contents (λ told. IsDone FR OR told old new s)
for_replay kind command contents licence options third f names FR OR old new s is h =
    subst (λ (c : Option (CommandOf (List ℕ))). ForFiles c contents (λ told. IsDone FR OR told old new s)) is
    (subst (λ (more : List Bytes). IsDone FR OR (Replay kind (record { licence = contents licence; options = contents options; third = contents third; more = more })) old new s) (sym (map-map contents f names)) h)

-- and so is what is done of an audit or a usage
pub for_audit : {X : Type 0} (report : LogReport) (command : Option (CommandOf (List ℕ))) (contents : List ℕ → Bytes) (licence options third : List ℕ) (f : X → List ℕ) (names : List X) (FR OR : Type 0) (old new : Bytes) (s : Status)
    → Some (Audit report (record { licence = licence; options = options; third = third; more = map f names })) ≡ command
    → IsDone FR OR (Audit report (record { licence = contents licence; options = contents options; third = contents third; more = map (λ (n : X). contents (f n)) names })) old new s
    → ForFiles command contents (λ told. IsDone FR OR told old new s)
for_audit report command contents licence options third f names FR OR old new s is h =
    subst (λ (c : Option (CommandOf (List ℕ))). ForFiles c contents (λ told. IsDone FR OR told old new s)) is
    (subst (λ (more : List Bytes). IsDone FR OR (Audit report (record { licence = contents licence; options = contents options; third = contents third; more = more })) old new s) (sym (map-map contents f names)) h)

unwritten_at : (FR OR : Type 0) (told : CommandOf Bytes) (old new : Bytes) (outcome : Result Due Status) (s : Status) → EndSays FR OR old new outcome s → s ≢ Done → ((line : ℕ) → s ≢ AuditNo line) → s ≢ WriteFault → new ≡ old
unwritten_at FR OR told old new outcome Usage says undone other kept = says.0
unwritten_at FR OR told old new outcome (ReadFault file) says undone other kept = says.0
unwritten_at FR OR told old new outcome (FileTooLong file) says undone other kept = says.0
unwritten_at FR OR told old new outcome (Script fault) says undone other kept = says.0
unwritten_at FR OR told old new outcome (Licence fault) says undone other kept = says.0
unwritten_at FR OR told old new outcome (Options fault) says undone other kept = says.0
unwritten_at FR OR told old new outcome (MoreOptions set fault) says undone other kept = says.0
unwritten_at FR OR told old new outcome NoMemory says undone other kept = says.0
unwritten_at FR OR told old new outcome Done says undone other kept = absurd (undone refl)
unwritten_at FR OR told old new outcome (AuditNo line) says undone other kept = absurd (other line refl)
unwritten_at FR OR told old new outcome WriteFault says undone other kept = absurd (kept refl)

-- nothing was written
pub unwritten : (command : Option (CommandOf (List ℕ))) (contents : List ℕ → Bytes) (FR OR : Type 0) (old new : Bytes) (s : Status) → Performs command contents FR OR old new s → s ≢ Done → ((line : ℕ) → s ≢ AuditNo line) → s ≢ WriteFault → new ≡ old
unwritten None contents FR OR old new s p undone other kept = p.unwritten refl
unwritten (Some names) contents FR OR old new s p undone other kept = unwritten_at FR OR (told_by contents names) old new (outcome_of p.says.readings) s p.says.says undone other kept

-- all was written
pub done : (command : Option (CommandOf (List ℕ))) (contents : List ℕ → Bytes) (FR OR : Type 0) (old new : Bytes) (s : Status) → Performs command contents FR OR old new s → s ≡ Done
    → ForFiles command contents (λ told. WritesAll FR told old new)
done None contents FR OR old new s p e = tt
done (Some names) contents FR OR old new s p e =
    let says = subst (EndSays FR OR old new (outcome_of p.says.readings)) e p.says.says in
    (says.0, says.2.0, record { readings = p.says.readings; are = p.says.are; is = says.1 }, says.2.1, says.2.2)

-- a log is no run
pub not_run : (command : Option (CommandOf (List ℕ))) (contents : List ℕ → Bytes) (FR OR : Type 0) (old new : Bytes) (s : Status) → Performs command contents FR OR old new s → (line : ℕ) → s ≡ AuditNo line
    → ForFiles command contents (λ told. WritesNo FR told line old new)
not_run None contents FR OR old new s p line e = tt
not_run (Some names) contents FR OR old new s p line e =
    let says = subst (EndSays FR OR old new (outcome_of p.says.readings)) e p.says.says in
    (says.0, says.2.0, record { readings = p.says.readings; are = p.says.are; is = says.1 }, says.2.1, says.2.2)

-- histories are told
pub histories : (command : Option (CommandOf (List ℕ))) (contents : List ℕ → Bytes) (FR OR : Type 0) (old new : Bytes) (s : Status) → Performs command contents FR OR old new s → s ≡ Done
    → ForFiles command contents (λ told. WritesHistories FR told old new)
histories None contents FR OR old new s p e = tt
histories (Some names) contents FR OR old new s p e = (p.says.readings, p.says.are, subst (HistoriesSay p.says.readings old new) e p.says.histories)

-- a prefix was written
pub written : (command : Option (CommandOf (List ℕ))) (contents : List ℕ → Bytes) (FR OR : Type 0) (old new : Bytes) (s : Status) → Performs command contents FR OR old new s → s ≡ WriteFault
    → ForFiles command contents (λ told. WritesPrefix FR told old new)
written None contents FR OR old new s p e = tt
written (Some names) contents FR OR old new s p e =
    let says = subst (EndSays FR OR old new (outcome_of p.says.readings)) e p.says.says in
    (says.0, says.2.1.0, record { readings = p.says.readings; are = p.says.are; is = says.1 }, says.2.1.1, says.2.1.2)

idle_unwritten : (s : Status) → (s ≡ Usage) ⊎ (s ≡ NoMemory) → s ≡ WriteFault → ⊥
idle_unwritten s (inl idle) e = cc
idle_unwritten s (inr idle) e = cc

idle_unread : (s : Status) (file : ℕ) → (s ≡ Usage) ⊎ (s ≡ NoMemory) → s ≡ ReadFault file → ⊥
idle_unread s file (inl idle) e = cc
idle_unread s file (inr idle) e = cc

idle_own : (s : Status) → (s ≡ Usage) ⊎ (s ≡ NoMemory) → has_own_fault s ≡ true
idle_own s (inl idle) = rw idle refl
idle_own s (inr idle) = rw idle refl

-- a write fault
pub write_fault : (command : Option (CommandOf (List ℕ))) (contents : List ℕ → Bytes) (FR OR : Type 0) (old new : Bytes) (s : Status) → Performs command contents FR OR old new s → s ≡ WriteFault → OR
write_fault None contents FR OR old new s p e = absurd (idle_unwritten s (p.idle refl) e)
write_fault (Some names) contents FR OR old new s p e = (subst (EndSays FR OR old new (outcome_of p.says.readings)) e p.says.says).2.0

-- a status that tells of what a file holds is what comes of the files
refused_at : (FR OR : Type 0) (old new : Bytes) (outcome : Result Due Status) (s : Status) → EndSays FR OR old new outcome s → is_refusal s ≡ true → outcome ≡ Err s
refused_at FR OR old new outcome (FileTooLong file) says is = says.1
refused_at FR OR old new outcome (Script fault) says is = says.1
refused_at FR OR old new outcome (Licence fault) says is = says.1.0
refused_at FR OR old new outcome (Options fault) says is = says.1.0
refused_at FR OR old new outcome (MoreOptions set fault) says is = says.1.0
refused_at FR OR old new outcome Done says is = cc
refused_at FR OR old new outcome (AuditNo line) says is = cc
refused_at FR OR old new outcome Usage says is = cc
refused_at FR OR old new outcome (ReadFault file) says is = cc
refused_at FR OR old new outcome WriteFault says is = cc
refused_at FR OR old new outcome NoMemory says is = cc

pub refused : (command : Option (CommandOf (List ℕ))) (contents : List ℕ → Bytes) (FR OR : Type 0) (old new : Bytes) (s : Status) → Performs command contents FR OR old new s → is_refusal s ≡ true
    → ForFiles command contents (λ told. Comes FR told (Err s))
refused None contents FR OR old new s p e = tt
refused (Some names) contents FR OR old new s p e = record { readings = p.says.readings; are = p.says.are; is = refused_at FR OR old new (outcome_of p.says.readings) s p.says.says e }

own_at : (FR OR : Type 0) (old new : Bytes) (outcome : Result Due Status) (s : Status) → EndSays FR OR old new outcome s → has_own_fault s ≡ true
own_at FR OR old new outcome (Licence fault) says = says.1.1
own_at FR OR old new outcome (Options fault) says = says.1.1
own_at FR OR old new outcome (MoreOptions set fault) says = says.1.1
own_at FR OR old new outcome Done says = refl
own_at FR OR old new outcome (AuditNo line) says = refl
own_at FR OR old new outcome Usage says = refl
own_at FR OR old new outcome (ReadFault file) says = refl
own_at FR OR old new outcome WriteFault says = refl
own_at FR OR old new outcome NoMemory says = refl
own_at FR OR old new outcome (FileTooLong file) says = refl
own_at FR OR old new outcome (Script fault) says = refl

-- a fault in a status is never want of memory
pub own_fault : (command : Option (CommandOf (List ℕ))) (contents : List ℕ → Bytes) (FR OR : Type 0) (old new : Bytes) (s : Status) → Performs command contents FR OR old new s → has_own_fault s ≡ true
own_fault None contents FR OR old new s p = idle_own s (p.idle refl)
own_fault (Some names) contents FR OR old new s p = own_at FR OR old new (outcome_of p.says.readings) s p.says.says

-- what is read of a file where no reading fails is what it is told to hold
same_reading : (told reading : Bytes) → is_some told ≡ true → IsReading ⊥ told reading → reading ≡ told
same_reading None reading is reads = cc
same_reading (Some held) None is reads = absurd reads
same_reading (Some held) (Some bytes) is reads = ap Some reads

same_readings : (told readings : List Bytes) → list_all is_some told ≡ true → AreReadings ⊥ told readings → readings ≡ told
same_readings [] [] are reads = refl
same_readings [] (reading ∷ readings) are reads = absurd reads
same_readings (told ∷ others) [] are reads = absurd reads
same_readings (told ∷ others) (reading ∷ readings) are reads =
    let parts = and_parts (is_some told) (list_all is_some others) are in
    let first = same_reading told reading parts.0 reads.0 in
    let behind = same_readings others readings parts.1 reads.1 in
    cc

same_run : (told readings : RunFiles Bytes) → is_run_told told ≡ true → AreOfRun ⊥ told readings → readings ≡ told
same_run told readings are reads =
    let p = and_parts (is_some told.licence) (is_some told.options && (is_some told.third && list_all is_some told.more)) are in
    let q = and_parts (is_some told.options) (is_some told.third && list_all is_some told.more) p.1 in
    let r = and_parts (is_some told.third) (list_all is_some told.more) q.1 in
    let e = same_reading told.licence readings.licence p.0 reads.licence in
    let f = same_reading told.options readings.options q.0 reads.options in
    let g = same_reading told.third readings.third r.0 reads.third in
    let h = same_readings told.more readings.more r.1 reads.more in
    rw (e, f, g, h) refl

-- where all is told, just that decides
pub told_is_sure : (told : CommandOf Bytes) → are_told told ≡ true → IsSure told (outcome_of told)
told_is_sure (Check told) are (Check readings) reads =
    let parts = and_parts (is_some told.licence) (is_some told.options) are in
    let e = same_reading told.licence readings.licence parts.0 reads.licence in
    let f = same_reading told.options readings.options parts.1 reads.options in
    rw (e, f) refl
told_is_sure (Check told) are (Replay kind readings) reads = absurd reads
told_is_sure (Check told) are (Audit report readings) reads = absurd reads
told_is_sure (Replay kind told) are (Check readings) reads = absurd reads
told_is_sure (Replay kind told) are (Audit report readings) reads = absurd reads
told_is_sure (Audit report told) are (Check readings) reads = absurd reads
told_is_sure (Audit report told) are (Replay kind readings) reads = absurd reads
told_is_sure (Check told) are (Trial events) reads = absurd reads
told_is_sure (Replay kind told) are (Trial events) reads = absurd reads
told_is_sure (Audit report told) are (Trial events) reads = absurd reads
told_is_sure (Trial events) are (Check readings) reads = absurd reads
told_is_sure (Trial events) are (Replay kind readings) reads = absurd reads
told_is_sure (Trial events) are (Audit report readings) reads = absurd reads
told_is_sure (Trial events) are (Trial same) reads = ap (λ (n : ℕ). outcome_of (Trial n)) reads
told_is_sure (Replay kind told) are (Replay same readings) reads = ap (λ (r : RunFiles Bytes). outcome_of (Replay same r)) (same_run told readings are reads.1) ∙ ap (λ (k : ScriptReport). outcome_of (Replay k told)) reads.0
told_is_sure (Audit report told) are (Audit same readings) reads = ap (λ (r : RunFiles Bytes). outcome_of (Audit same r)) (same_run told readings are reads.1) ∙ ap (λ (r : LogReport). outcome_of (Audit r told)) reads.0

pub told : (command : Option (CommandOf (List ℕ))) (contents : List ℕ → Bytes) → ForFiles command contents (λ told. are_told told ≡ true → IsSure told (outcome_of told))
told None contents = tt
told (Some names) contents = λ are. told_is_sure (told_by contents names) are

-- a reading that can't fail

calm_reading : (FR : Type 0) (told reading : Bytes) → (FR → ⊥) → IsReading FR told reading → IsReading ⊥ told reading
calm_reading FR told None calm reads = absurd (calm reads)
calm_reading FR told (Some bytes) calm reads = reads

calm_readings : (FR : Type 0) (told readings : List Bytes) → (FR → ⊥) → AreReadings FR told readings → AreReadings ⊥ told readings
calm_readings FR [] [] calm reads = tt
calm_readings FR [] (reading ∷ readings) calm reads = reads
calm_readings FR (told ∷ others) [] calm reads = reads
calm_readings FR (told ∷ others) (reading ∷ readings) calm reads = (calm_reading FR told reading calm reads.0, calm_readings FR others readings calm reads.1)

calm_run : (FR : Type 0) (told readings : RunFiles Bytes) → (FR → ⊥) → AreOfRun FR told readings → AreOfRun ⊥ told readings
calm_run FR told readings calm reads = record {
  licence = calm_reading FR told.licence readings.licence calm reads.licence;
  options = calm_reading FR told.options readings.options calm reads.options;
  third = calm_reading FR told.third readings.third calm reads.third;
  more = calm_readings FR told.more readings.more calm reads.more;
}

calm_command : (FR : Type 0) (told readings : CommandOf Bytes) → (FR → ⊥) → AreOfCommand FR told readings → AreOfCommand ⊥ told readings
calm_command FR (Check told) (Check readings) calm reads = record { licence = calm_reading FR told.licence readings.licence calm reads.licence; options = calm_reading FR told.options readings.options calm reads.options }
calm_command FR (Check told) (Replay kind readings) calm reads = reads
calm_command FR (Check told) (Audit report readings) calm reads = reads
calm_command FR (Replay kind told) (Check readings) calm reads = reads
calm_command FR (Replay kind told) (Audit report readings) calm reads = reads
calm_command FR (Audit report told) (Check readings) calm reads = reads
calm_command FR (Audit report told) (Replay kind readings) calm reads = reads
calm_command FR (Check told) (Trial events) calm reads = reads
calm_command FR (Replay kind told) (Trial events) calm reads = reads
calm_command FR (Audit report told) (Trial events) calm reads = reads
calm_command FR (Trial events) (Check readings) calm reads = reads
calm_command FR (Trial events) (Replay kind readings) calm reads = reads
calm_command FR (Trial events) (Audit report readings) calm reads = reads
calm_command FR (Trial events) (Trial same) calm reads = reads
calm_command FR (Replay kind told) (Replay same readings) calm reads = (reads.0, calm_run FR told readings calm reads.1)
calm_command FR (Audit report told) (Audit same readings) calm reads = (reads.0, calm_run FR told readings calm reads.1)

ok_err : (outcome : Result Due Status) (due : Due) (s : Status) → outcome ≡ Ok due → outcome ≡ Err s → ⊥
ok_err outcome due s e f = cc

same_due : (outcome : Result Due Status) (due other : Due) → outcome ≡ Ok due → outcome ≡ Ok other → due ≡ other
same_due outcome due other e f = cc

ends_done : (FR OR : Type 0) (old new : Bytes) (outcome : Result Due Status) (due : Due) (text : List ℕ) (s : Status) → outcome ≡ Ok due → IsTold due text → (OR → ⊥) → EndSays FR OR old new outcome s → (s ≡ Done) ⊎ (s ≡ NoMemory)
ends_done FR OR old new outcome due text Done e told quiet says = inl refl
ends_done FR OR old new outcome due text NoMemory e told quiet says = inr refl
ends_done FR OR old new outcome due text (AuditNo line) e told quiet says =
    absurd (told_or_refuted says.0 text says.2.0 line (subst (λ (d : Due). IsTold d text) (same_due outcome due says.0 e says.1) told) says.2.1)
ends_done FR OR old new outcome due text WriteFault e told quiet says = absurd (quiet says.2.0)
ends_done FR OR old new outcome due text Usage e told quiet says = absurd says.1
ends_done FR OR old new outcome due text (ReadFault file) e told quiet says = absurd (ok_err outcome due (ReadFault file) e says.1.0)
ends_done FR OR old new outcome due text (FileTooLong file) e told quiet says = absurd (ok_err outcome due (FileTooLong file) e says.1)
ends_done FR OR old new outcome due text (Script fault) e told quiet says = absurd (ok_err outcome due (Script fault) e says.1)
ends_done FR OR old new outcome due text (Licence fault) e told quiet says = absurd (ok_err outcome due (Licence fault) e says.1.0)
ends_done FR OR old new outcome due text (Options fault) e told quiet says = absurd (ok_err outcome due (Options fault) e says.1.0)
ends_done FR OR old new outcome due text (MoreOptions set fault) e told quiet says = absurd (ok_err outcome due (MoreOptions set fault) e says.1.0)

pub complete : (command : Option (CommandOf (List ℕ))) (contents : List ℕ → Bytes) (FR OR : Type 0) (old new : Bytes) (s : Status) → Performs command contents FR OR old new s
    → ForFiles command contents (λ told. (due : Due) (text : List ℕ) → IsSure told (Ok due) → IsTold due text → (FR → ⊥) → (OR → ⊥) → (s ≡ Done) ⊎ (s ≡ NoMemory))
complete None contents FR OR old new s p = tt
complete (Some names) contents FR OR old new s p = λ due text sure told calm quiet.
    ends_done FR OR old new (outcome_of p.says.readings) due text s (sure p.says.readings (calm_command FR (told_by contents names) p.says.readings calm p.says.are)) told quiet p.says.says

ends_no : (FR OR : Type 0) (old new : Bytes) (outcome : Result Due Status) (due : Due) (line : ℕ) (text : List ℕ) (s : Status) → outcome ≡ Ok due → IsRefuted due line text → (OR → ⊥) → EndSays FR OR old new outcome s
    → (s ≡ AuditNo line) ⊎ (s ≡ NoMemory)
ends_no FR OR old new outcome due line text (AuditNo at) e refuted quiet says =
    inl (ap AuditNo (refuted_at says.0 says.2.0 text at line says.2.1 (subst (λ (d : Due). IsRefuted d line text) (same_due outcome due says.0 e says.1) refuted)))
ends_no FR OR old new outcome due line text NoMemory e refuted quiet says = inr refl
ends_no FR OR old new outcome due line text Done e refuted quiet says =
    absurd (told_or_refuted says.0 says.2.0 text line says.2.1 (subst (λ (d : Due). IsRefuted d line text) (same_due outcome due says.0 e says.1) refuted))
ends_no FR OR old new outcome due line text WriteFault e refuted quiet says = absurd (quiet says.2.0)
ends_no FR OR old new outcome due line text Usage e refuted quiet says = absurd says.1
ends_no FR OR old new outcome due line text (ReadFault file) e refuted quiet says = absurd (ok_err outcome due (ReadFault file) e says.1.0)
ends_no FR OR old new outcome due line text (FileTooLong file) e refuted quiet says = absurd (ok_err outcome due (FileTooLong file) e says.1)
ends_no FR OR old new outcome due line text (Script fault) e refuted quiet says = absurd (ok_err outcome due (Script fault) e says.1)
ends_no FR OR old new outcome due line text (Licence fault) e refuted quiet says = absurd (ok_err outcome due (Licence fault) e says.1.0)
ends_no FR OR old new outcome due line text (Options fault) e refuted quiet says = absurd (ok_err outcome due (Options fault) e says.1.0)
ends_no FR OR old new outcome due line text (MoreOptions set fault) e refuted quiet says = absurd (ok_err outcome due (MoreOptions set fault) e says.1.0)

pub no_comes : (command : Option (CommandOf (List ℕ))) (contents : List ℕ → Bytes) (FR OR : Type 0) (old new : Bytes) (s : Status) → Performs command contents FR OR old new s
    → ForFiles command contents (λ told. (due : Due) (line : ℕ) (text : List ℕ) → IsSure told (Ok due) → IsRefuted due line text → (FR → ⊥) → (OR → ⊥) → (s ≡ AuditNo line) ⊎ (s ≡ NoMemory))
no_comes None contents FR OR old new s p = tt
no_comes (Some names) contents FR OR old new s p = λ due line text sure refuted calm quiet.
    ends_no FR OR old new (outcome_of p.says.readings) due line text s (sure p.says.readings (calm_command FR (told_by contents names) p.says.readings calm p.says.are)) refuted quiet p.says.says

same_err : (outcome : Result Due Status) (status s : Status) → outcome ≡ Err status → outcome ≡ Err s → (s ≡ status) ⊎ (s ≡ NoMemory)
same_err outcome status s e f = let same : s ≡ status = cc in inl same

ends_refused : (FR OR : Type 0) (old new : Bytes) (outcome : Result Due Status) (status s : Status) → outcome ≡ Err status → EndSays FR OR old new outcome s → (s ≡ status) ⊎ (s ≡ NoMemory)
ends_refused FR OR old new outcome status Done e says = absurd (ok_err outcome says.0 status says.1 e)
ends_refused FR OR old new outcome status NoMemory e says = inr refl
ends_refused FR OR old new outcome status WriteFault e says = absurd (ok_err outcome says.0 status says.1 e)
ends_refused FR OR old new outcome status (AuditNo line) e says = absurd (ok_err outcome says.0 status says.1 e)
ends_refused FR OR old new outcome status Usage e says = absurd says.1
ends_refused FR OR old new outcome status (ReadFault file) e says = same_err outcome status (ReadFault file) e says.1.0
ends_refused FR OR old new outcome status (FileTooLong file) e says = same_err outcome status (FileTooLong file) e says.1
ends_refused FR OR old new outcome status (Script fault) e says = same_err outcome status (Script fault) e says.1
ends_refused FR OR old new outcome status (Licence fault) e says = same_err outcome status (Licence fault) e says.1.0
ends_refused FR OR old new outcome status (Options fault) e says = same_err outcome status (Options fault) e says.1.0
ends_refused FR OR old new outcome status (MoreOptions set fault) e says = same_err outcome status (MoreOptions set fault) e says.1.0

pub refusal_comes : (command : Option (CommandOf (List ℕ))) (contents : List ℕ → Bytes) (FR OR : Type 0) (old new : Bytes) (s : Status) → Performs command contents FR OR old new s
    → ForFiles command contents (λ told. (status : Status) → IsSure told (Err status) → (FR → ⊥) → (s ≡ status) ⊎ (s ≡ NoMemory))
refusal_comes None contents FR OR old new s p = tt
refusal_comes (Some names) contents FR OR old new s p = λ status sure calm.
    ends_refused FR OR old new (outcome_of p.says.readings) status s (sure p.says.readings (calm_command FR (told_by contents names) p.says.readings calm p.says.are)) p.says.says

-- a read fault
pub read_fault : (command : Option (CommandOf (List ℕ))) (contents : List ℕ → Bytes) (FR OR : Type 0) (old new : Bytes) (s : Status) (a0 a1 f0 f1 : List (List ℕ)) → Performs command contents FR OR old new s
    → Asks 1 (files_of command) a0 a1 f0 f1 s → (file : ℕ) → s ≡ ReadFault file
    → FailedAt 1 (files_of command) f0 f1 file × ForFiles command contents (λ told. Comes FR told (Err s))
read_fault None contents FR OR old new s a0 a1 f0 f1 p asks file e = absurd (idle_unread s file (p.idle refl) e)
read_fault (Some names) contents FR OR old new s a0 a1 f0 f1 p asks file e =
    let says = subst (EndSays FR OR old new (outcome_of p.says.readings)) e p.says.says in
    (subst (FailsAt 1 (files_of (Some names)) f0 f1) e asks.fails, record { readings = p.says.readings; are = p.says.are; is = says.1.0 ∙ ap Err (sym e) })
