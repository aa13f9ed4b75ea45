use Rattle.std.proofs.Common.{◌≡◌, ◌⊎◌, ℕ, inl, inr, true, ◌&&◌, List, [], ◌∷◌, None, Some, is_some, Result, Ok, Err, refl, sym, ap, ◌∙◌}
use Rattle.std.specs.List.{list_all}
use Rattle.std.proofs.lemmas.Bool.{and_parts}
use Rattle.door_worker.specs.Visits.{Visit}
use Rattle.licence_tool.proofs.Readings.{wider, wider_all}
use Rattle.licence_tool.specs.Files.{AreReadings, Bytes, IsReading}
use Rattle.licence_tool.specs.Tool.{RefusalSays}
use Rattle.licence_tool.specs.declared.status.Status.{Status}
use Rattle.licence_tool.specs.declared.status.Status.TheVariants as tool
use Rattle.outside.specs.Told.{HasRisen}
use Rattle.licence_daemon.specs.Ends.{IsComplete, IsServed, IsSure, ServeSays, ServedSays, SiteCounts}
use Rattle.licence_daemon.specs.Serve.{ServeFiles}
use Rattle.licence_daemon.specs.Terms.{AreOfServe, TermsRead, are_all_told, terms_heard}
use Rattle.licence_daemon.specs.declared.status.DaemonStatus.{DaemonStatus}
use Rattle.licence_daemon.specs.declared.status.DaemonStatus.TheVariants.{Tool, SiteFault, DoorFault}

-- files of which no reading failed
calm : (Failed : Type 0) (told readings : ServeFiles Bytes) → (Failed → ⊥) → AreOfServe Failed told readings → AreOfServe ⊥ told readings
calm Failed told readings quiet are = record {
  licence = wider Failed ⊥ told.licence told.licence readings.licence refl quiet are.licence;
  options = wider Failed ⊥ told.options told.options readings.options refl quiet are.options;
  more = wider_all Failed ⊥ told.more readings.more quiet are.more;
}

abbrev accepted_as : TermsRead → Result TermsRead Status
accepted_as terms = Ok terms

abbrev refused_for : Status → Result TermsRead Status
refused_for s = Err s

differ : (terms : TermsRead) (s : Status) → accepted_as terms ≡ refused_for s → ⊥
differ terms s e = cc

-- what is read of a file where no reading fails is what it is told to hold
same_reading : (told reading : Bytes) → is_some told ≡ true → IsReading ⊥ told reading → reading ≡ told
same_reading None reading is reads = cc
same_reading (Some held) None is reads = absurd reads
same_reading (Some held) (Some bytes) is reads = ap Some reads

same_readings : (told readings : List Bytes) → list_all is_some told ≡ true → AreReadings ⊥ told readings → readings ≡ told
same_readings [] [] are reads = refl
same_readings [] (reading ∷ readings) are reads = absurd reads
same_readings (told ∷ others) [] are reads = absurd reads
same_readings (told ∷ others) (reading ∷ readings) are reads =
    let parts = and_parts (is_some told) (list_all is_some others) are in
    let first = same_reading told reading parts.0 reads.0 in
    let behind = same_readings others readings parts.1 reads.1 in
    cc

-- where all is told, just that decides
told_decides : (told : ServeFiles Bytes) → are_all_told told ≡ true → IsSure told (terms_heard told)
told_decides told are readings reads =
    let p = and_parts (is_some told.licence) (is_some told.options && list_all is_some told.more) are in
    let q = and_parts (is_some told.options) (list_all is_some told.more) p.1 in
    let e = same_reading told.licence readings.licence p.0 reads.licence in
    let f = same_reading told.options readings.options q.0 reads.options in
    let h = same_readings told.more readings.more q.1 reads.more in
    rw (e, f, h) refl

-- what is accepted isn't refused
accepted_refused : {A : Type 0} (heard : Result TermsRead Status) (terms : TermsRead) (refusal : Status) → heard ≡ Ok terms → heard ≡ Err refusal → A
accepted_refused heard terms refusal p q = absurd (differ terms refusal (sym p ∙ q))

-- there is one refusal at most
same_refusal : (heard : Result TermsRead Status) (a b : Status) → heard ≡ Err a → heard ≡ Err b → b ≡ a
same_refusal heard a b p q = let e : refused_for a ≡ refused_for b = sym p ∙ q in cc

module _ (parties : ℕ) (kept : List (List Visit) → Type 0) (AtPath : Type 0) (old new : SiteCounts) (out_old out_new : Bytes) (OutFailed Failed : Type 0) where
  accepted_at : (heard : Result TermsRead Status) (status : DaemonStatus) → ServeSays parties kept AtPath old new out_old out_new OutFailed Failed heard status
      → (terms : TermsRead) → heard ≡ Ok terms → ¬ OutFailed → ¬ HasRisen old.faults new.faults → ¬ HasRisen old.broken new.broken → (status ≡ Tool tool.Done) ⊎ (status ≡ Tool tool.NoMemory)
  accepted_at heard (Tool tool.Done) says terms is quiet stands whole = inl refl
  accepted_at heard (Tool tool.NoMemory) says terms is quiet stands whole = inr refl
  accepted_at heard (Tool tool.WriteFault) says terms is quiet stands whole = absurd (quiet says.2.1)
  accepted_at heard SiteFault says terms is quiet stands whole = absurd (stands says.2.1)
  accepted_at heard DoorFault says terms is quiet stands whole = absurd (whole says.2.1)
  accepted_at heard (Tool tool.Usage) says terms is quiet stands whole = absurd says
  accepted_at heard (Tool (tool.Script fault)) says terms is quiet stands whole = accepted_refused heard terms (tool.Script fault) is says.1
  accepted_at heard (Tool (tool.AuditNo line)) says terms is quiet stands whole = absurd says
  accepted_at heard (Tool (tool.Licence fault)) says terms is quiet stands whole = accepted_refused heard terms (tool.Licence fault) is says.1.0
  accepted_at heard (Tool (tool.Options fault)) says terms is quiet stands whole = accepted_refused heard terms (tool.Options fault) is says.1.0
  accepted_at heard (Tool (tool.MoreOptions set fault)) says terms is quiet stands whole = accepted_refused heard terms (tool.MoreOptions set fault) is says.1.0
  accepted_at heard (Tool (tool.ReadFault file)) says terms is quiet stands whole = accepted_refused heard terms (tool.ReadFault file) is says.1.0
  accepted_at heard (Tool (tool.FileTooLong file)) says terms is quiet stands whole = accepted_refused heard terms (tool.FileTooLong file) is says.1

  refused_at : (heard : Result TermsRead Status) (status : DaemonStatus) → ServeSays parties kept AtPath old new out_old out_new OutFailed Failed heard status
      → (refusal : Status) → heard ≡ Err refusal → (status ≡ Tool refusal) ⊎ (status ≡ Tool tool.NoMemory)
  refused_at heard (Tool tool.Done) says refusal is = accepted_refused heard says.0 refusal says.1 is
  refused_at heard (Tool tool.NoMemory) says refusal is = inr refl
  refused_at heard (Tool tool.WriteFault) says refusal is = accepted_refused heard says.0 refusal says.1 is
  refused_at heard SiteFault says refusal is = accepted_refused heard says.0 refusal says.1 is
  refused_at heard DoorFault says refusal is = accepted_refused heard says.0 refusal says.1 is
  refused_at heard (Tool tool.Usage) says refusal is = absurd says
  refused_at heard (Tool (tool.Script fault)) says refusal is = inl (ap Tool (same_refusal heard refusal (tool.Script fault) is says.1))
  refused_at heard (Tool (tool.AuditNo line)) says refusal is = absurd says
  refused_at heard (Tool (tool.Licence fault)) says refusal is = inl (ap Tool (same_refusal heard refusal (tool.Licence fault) is says.1.0))
  refused_at heard (Tool (tool.Options fault)) says refusal is = inl (ap Tool (same_refusal heard refusal (tool.Options fault) is says.1.0))
  refused_at heard (Tool (tool.MoreOptions set fault)) says refusal is = inl (ap Tool (same_refusal heard refusal (tool.MoreOptions set fault) is says.1.0))
  refused_at heard (Tool (tool.ReadFault file)) says refusal is = inl (ap Tool (same_refusal heard refusal (tool.ReadFault file) is says.1.0))
  refused_at heard (Tool (tool.FileTooLong file)) says refusal is = inl (ap Tool (same_refusal heard refusal (tool.FileTooLong file) is says.1))

  -- what surely comes of the files comes
  pub completes : (told : ServeFiles Bytes) (status : DaemonStatus) → IsServed parties kept AtPath old new out_old out_new OutFailed Failed told status → IsComplete Failed OutFailed old new told status
  completes told status d = record {
    all_told = told_decides told;
    accepted = λ terms sure calm_files quiet stands whole. accepted_at (terms_heard d.readings) status d.says terms (sure d.readings (calm Failed told d.readings calm_files d.are)) quiet stands whole;
    refused = λ refusal sure calm_files. refused_at (terms_heard d.readings) status d.says refusal (sure d.readings (calm Failed told d.readings calm_files d.are));
  }

  -- a file that is refused ends the command
  pub stops : (heard : Result TermsRead Status) (status : Status) → out_new ≡ out_old → RefusalSays Failed heard status → ServeSays parties kept AtPath old new out_old out_new OutFailed Failed heard (Tool status)
  stops heard tool.NoMemory same says = same
  stops heard (tool.Licence fault) same says = (same, says)
  stops heard (tool.Options fault) same says = (same, says)
  stops heard (tool.MoreOptions set fault) same says = (same, says)
  stops heard (tool.ReadFault file) same says = (same, says)
  stops heard (tool.FileTooLong file) same says = (same, says)
  stops heard (tool.Script fault) same says = (same, says)
  stops heard tool.Done same says = absurd says
  stops heard tool.Usage same says = absurd says
  stops heard tool.WriteFault same says = absurd says
  stops heard (tool.AuditNo line) same says = absurd says

  -- and where all are accepted, it ends as the daemon does
  pub serves : (heard : Result TermsRead Status) (terms : TermsRead) (status : DaemonStatus) → heard ≡ Ok terms → ServedSays parties kept AtPath old new out_old out_new OutFailed terms status → ServeSays parties kept AtPath old new out_old out_new OutFailed Failed heard status
  serves heard terms (Tool tool.Done) is says = (terms, is, says)
  serves heard terms (Tool tool.WriteFault) is says = (terms, is, says)
  serves heard terms SiteFault is says = (terms, is, says)
  serves heard terms DoorFault is says = (terms, is, says)
  serves heard terms (Tool tool.NoMemory) is says = says
  serves heard terms (Tool tool.Usage) is says = absurd says
  serves heard terms (Tool (tool.Licence fault)) is says = absurd says
  serves heard terms (Tool (tool.Options fault)) is says = absurd says
  serves heard terms (Tool (tool.MoreOptions set fault)) is says = absurd says
  serves heard terms (Tool (tool.Script fault)) is says = absurd says
  serves heard terms (Tool (tool.ReadFault file)) is says = absurd says
  serves heard terms (Tool (tool.FileTooLong file)) is says = absurd says
  serves heard terms (Tool (tool.AuditNo line)) is says = absurd says
