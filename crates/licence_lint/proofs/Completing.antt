use Rattle.std.proofs.Common.{◌≡◌, ◌⊎◌, inl, inr, true, ◌&&◌, List, [], ◌∷◌, Option, None, Some, is_some, Result, Ok, Err, refl, sym, ap, ◌∙◌}
use Rattle.licence_tool.specs.Command.{CheckFiles}
use Rattle.licence_tool.specs.Files.{AreOfCheck, Bytes, IsReading}
use Rattle.licence_tool.specs.declared.status.Status.{Status}
use Rattle.licence_tool.specs.declared.status.Status.TheVariants as tool
use Rattle.licence_tool.proofs.Readings.{wider}
use Rattle.lint_advice.specs.declared.advice.Advice.{Advice}
use Rattle.lint_advice.specs.declared.advice.Horizon.{Horizon}
use Rattle.licence_lint.specs.Lint.{ForLint, IsComplete, IsLinted, IsSure, LintSays, advice_heard, end_of}
use Rattle.licence_lint.specs.Words.{LintWords}
use Rattle.licence_lint.specs.declared.status.LintStatus.{LintStatus}
use Rattle.licence_lint.specs.declared.status.LintStatus.TheVariants.{Tool, Advised}
use Rattle.std.specs.Prelude.{ℕ}
use Rattle.std.proofs.lemmas.Bool.{and_parts}

abbrev Heard : Type 0
Heard = Result (List Advice) Status

-- files of which no reading failed
calm : (Failed : Type 0) (told readings : CheckFiles Bytes) → (Failed → ⊥) → AreOfCheck Failed told readings → AreOfCheck ⊥ told readings
calm Failed told readings quiet are = record {
  licence = wider Failed ⊥ told.licence told.licence readings.licence refl quiet are.licence;
  options = wider Failed ⊥ told.options told.options readings.options refl quiet are.options;
}

-- what is read of a file where no reading fails is what it is told to hold
same_reading : (told reading : Bytes) → is_some told ≡ true → IsReading ⊥ told reading → reading ≡ told
same_reading None reading is reads = cc
same_reading (Some held) None is reads = absurd reads
same_reading (Some held) (Some bytes) is reads = ap Some reads

-- where all is told, just that decides
told_decides : (horizon : Option Horizon) (told : CheckFiles Bytes) → (is_some told.licence && is_some told.options) ≡ true → IsSure horizon told (advice_heard horizon told)
unfolding advice_heard
told_decides horizon told are readings reads =
    let p = and_parts (is_some told.licence) (is_some told.options) are in
    let e = same_reading told.licence readings.licence p.0 reads.licence in
    let f = same_reading told.options readings.options p.1 reads.options in
    rw (e, f) refl

abbrev refused_for : Status → Heard
refused_for s = Err s

-- what is accepted isn't refused
accepted_refused : {A : Type 0} (heard : Heard) (advice : List Advice) (refusal : Status) → heard ≡ Ok advice → heard ≡ Err refusal → A
accepted_refused heard advice refusal p q = absurd cc

-- there is one refusal at most
same_refusal : (heard : Heard) (a b : Status) → heard ≡ Err a → heard ≡ Err b → b ≡ a
same_refusal heard a b p q = let e : refused_for a ≡ refused_for b = sym p ∙ q in cc

-- and one list of advice
same_advice : (heard : Heard) (a b : List Advice) → heard ≡ Ok a → heard ≡ Ok b → b ≡ a
same_advice heard a b p q = cc

ends_empty : (advice : List Advice) → advice ≡ [] → end_of advice ≡ Tool tool.Done
ends_empty [] e = refl
ends_empty (x ∷ xs) e = absurd cc

ends_some : (advice : List Advice) → (advice ≡ [] → ⊥) → end_of advice ≡ Advised
ends_some [] e = absurd (e refl)
ends_some (x ∷ xs) e = refl

module _ (Failed OutFailed : Type 0) (old new : Bytes) where
  accepted_at : (heard : Heard) (status : LintStatus) → LintSays Failed OutFailed old new heard status → (advice : List Advice) → heard ≡ Ok advice → ¬ OutFailed → (status ≡ end_of advice) ⊎ (status ≡ Tool tool.NoMemory)
  accepted_at heard (Tool tool.Done) says advice is quiet = inl (sym (ends_empty advice (same_advice heard says.0 advice says.1 is ∙ says.2.0)))
  accepted_at heard Advised says advice is quiet = inl (sym (ends_some advice (λ e. says.2.0 (sym (same_advice heard says.0 advice says.1 is) ∙ e))))
  accepted_at heard (Tool tool.NoMemory) says advice is quiet = inr refl
  accepted_at heard (Tool tool.WriteFault) says advice is quiet = absurd (quiet says.2.1)
  accepted_at heard (Tool tool.Usage) says advice is quiet = absurd says
  accepted_at heard (Tool (tool.AuditNo line)) says advice is quiet = absurd says
  accepted_at heard (Tool (tool.Script fault)) says advice is quiet = accepted_refused heard advice (tool.Script fault) is says.1
  accepted_at heard (Tool (tool.Licence fault)) says advice is quiet = accepted_refused heard advice (tool.Licence fault) is says.1.0
  accepted_at heard (Tool (tool.Options fault)) says advice is quiet = accepted_refused heard advice (tool.Options fault) is says.1.0
  accepted_at heard (Tool (tool.MoreOptions set fault)) says advice is quiet = accepted_refused heard advice (tool.MoreOptions set fault) is says.1.0
  accepted_at heard (Tool (tool.ReadFault file)) says advice is quiet = accepted_refused heard advice (tool.ReadFault file) is says.1.0
  accepted_at heard (Tool (tool.FileTooLong file)) says advice is quiet = accepted_refused heard advice (tool.FileTooLong file) is says.1

  refused_at : (heard : Heard) (status : LintStatus) → LintSays Failed OutFailed old new heard status → (refusal : Status) → heard ≡ Err refusal → (status ≡ Tool refusal) ⊎ (status ≡ Tool tool.NoMemory)
  refused_at heard (Tool tool.Done) says refusal is = accepted_refused heard says.0 refusal says.1 is
  refused_at heard Advised says refusal is = accepted_refused heard says.0 refusal says.1 is
  refused_at heard (Tool tool.WriteFault) says refusal is = accepted_refused heard says.0 refusal says.1 is
  refused_at heard (Tool tool.NoMemory) says refusal is = inr refl
  refused_at heard (Tool tool.Usage) says refusal is = absurd says
  refused_at heard (Tool (tool.AuditNo line)) says refusal is = absurd says
  refused_at heard (Tool (tool.Script fault)) says refusal is = inl (ap Tool (same_refusal heard refusal (tool.Script fault) is says.1))
  refused_at heard (Tool (tool.Licence fault)) says refusal is = inl (ap Tool (same_refusal heard refusal (tool.Licence fault) is says.1.0))
  refused_at heard (Tool (tool.Options fault)) says refusal is = inl (ap Tool (same_refusal heard refusal (tool.Options fault) is says.1.0))
  refused_at heard (Tool (tool.MoreOptions set fault)) says refusal is = inl (ap Tool (same_refusal heard refusal (tool.MoreOptions set fault) is says.1.0))
  refused_at heard (Tool (tool.ReadFault file)) says refusal is = inl (ap Tool (same_refusal heard refusal (tool.ReadFault file) is says.1.0))
  refused_at heard (Tool (tool.FileTooLong file)) says refusal is = inl (ap Tool (same_refusal heard refusal (tool.FileTooLong file) is says.1))

-- what surely comes of the files comes
completes : (horizon : Option Horizon) (Failed OutFailed : Type 0) (told : CheckFiles Bytes) (old new : Bytes) (status : LintStatus) → IsLinted horizon Failed OutFailed told old new status → IsComplete horizon Failed OutFailed told status
completes horizon Failed OutFailed told old new status d = record {
  all_told = told_decides horizon told;
  accepted = λ advice sure quiet_files quiet. accepted_at Failed OutFailed old new (advice_heard horizon d.readings) status d.says advice (sure d.readings (calm Failed told d.readings quiet_files d.are)) quiet;
  refused = λ refusal sure quiet_files. refused_at Failed OutFailed old new (advice_heard horizon d.readings) status d.says refusal (sure d.readings (calm Failed told d.readings quiet_files d.are));
}

-- the same where there is a lint
pub lint_completes : (lint : Option LintWords) (contents : List ℕ → Bytes) (Failed OutFailed : Type 0) (old new : Bytes) (status : LintStatus)
    → ForLint lint contents (λ horizon told. IsLinted horizon Failed OutFailed told old new status) → ForLint lint contents (λ horizon told. IsComplete horizon Failed OutFailed told status)
lint_completes None contents Failed OutFailed old new status d = tt
lint_completes (Some names) contents Failed OutFailed old new status d = completes names.horizon Failed OutFailed (record { licence = contents names.licence; options = contents names.options }) old new status d
