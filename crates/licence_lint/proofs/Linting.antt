use Rattle.std.proofs.Common.{◌≡◌, ℕ, List, Option, None, Some, Result, Ok, refl}
use Rattle.licence_tool.specs.Asked.{Asks}
use Rattle.licence_tool.specs.Files.{Bytes}
use Rattle.licence_tool.specs.Tool.{RefusalSays}
use Rattle.licence_tool.proofs.Hearing.{agreeing, is_agreeing}
use Rattle.licence_tool.specs.declared.status.Status.{Status}
use Rattle.licence_tool.specs.declared.status.Status.TheVariants as tool
use Rattle.lint_advice.specs.declared.advice.Advice.{Advice}
use Rattle.licence_lint.specs.Lint.{AdviceSays, ForLint, IsLinted, LintSays}
use Rattle.licence_lint.specs.Status.{reading_in}
use Rattle.licence_lint.specs.Words.{LintWords}
use Rattle.licence_lint.specs.declared.status.LintStatus.{LintStatus}
use Rattle.licence_lint.specs.declared.status.LintStatus.TheVariants.{Tool, Advised}

-- the files are accepted, and the advice on them was written
pub advice_ends : (Failed OutFailed : Type 0) (old new : Bytes) (heard : Result (List Advice) Status) (advice : List Advice) (status : LintStatus)
    → heard ≡ Ok advice → AdviceSays OutFailed old new advice status → LintSays Failed OutFailed old new heard status
advice_ends Failed OutFailed old new heard advice (Tool tool.Done) is says = (advice, is, says)
advice_ends Failed OutFailed old new heard advice Advised is says = (advice, is, says)
advice_ends Failed OutFailed old new heard advice (Tool tool.WriteFault) is says = (advice, is, says)
advice_ends Failed OutFailed old new heard advice (Tool tool.NoMemory) is says = says
advice_ends Failed OutFailed old new heard advice (Tool tool.Usage) is says = absurd says
advice_ends Failed OutFailed old new heard advice (Tool (tool.Licence fault)) is says = absurd says
advice_ends Failed OutFailed old new heard advice (Tool (tool.Options fault)) is says = absurd says
advice_ends Failed OutFailed old new heard advice (Tool (tool.MoreOptions set fault)) is says = absurd says
advice_ends Failed OutFailed old new heard advice (Tool (tool.Script fault)) is says = absurd says
advice_ends Failed OutFailed old new heard advice (Tool (tool.ReadFault file)) is says = absurd says
advice_ends Failed OutFailed old new heard advice (Tool (tool.FileTooLong file)) is says = absurd says
advice_ends Failed OutFailed old new heard advice (Tool (tool.AuditNo line)) is says = absurd says

-- a file is refused or not read
pub refusal_ends : (Failed OutFailed : Type 0) (held : Bytes) (heard : Result (List Advice) Status) (status : Status) → RefusalSays Failed heard status → LintSays Failed OutFailed held held heard (Tool status)
refusal_ends Failed OutFailed held heard tool.NoMemory says = refl
refusal_ends Failed OutFailed held heard (tool.Licence fault) says = (refl, says)
refusal_ends Failed OutFailed held heard (tool.Options fault) says = (refl, says)
refusal_ends Failed OutFailed held heard (tool.MoreOptions set fault) says = (refl, says)
refusal_ends Failed OutFailed held heard (tool.Script fault) says = (refl, says)
refusal_ends Failed OutFailed held heard (tool.ReadFault file) says = (refl, says)
refusal_ends Failed OutFailed held heard (tool.FileTooLong file) says = (refl, says)
refusal_ends Failed OutFailed held heard tool.Done says = absurd says
refusal_ends Failed OutFailed held heard tool.Usage says = absurd says
refusal_ends Failed OutFailed held heard tool.WriteFault says = absurd says
refusal_ends Failed OutFailed held heard (tool.AuditNo line) says = absurd says

-- where the files are accepted, all were asked for
pub asked_all : (OutFailed : Type 0) (old new : Bytes) (advice : List Advice) (status : LintStatus) (first : ℕ) (names a b f h : List (List ℕ))
    → AdviceSays OutFailed old new advice status → Asks first names a b f h tool.Done → Asks first names a b f h (reading_in status)
asked_all OutFailed old new advice (Tool tool.Done) first names a b f h says asks = asks
asked_all OutFailed old new advice Advised first names a b f h says asks = asks
asked_all OutFailed old new advice (Tool tool.WriteFault) first names a b f h says asks = record { count = asks.count; within = asks.within; asked = asks.asked; ends = asks.ends; fails = asks.fails }
asked_all OutFailed old new advice (Tool tool.NoMemory) first names a b f h says asks = record { count = asks.count; within = asks.within; asked = asks.asked; ends = tt; fails = asks.fails }
asked_all OutFailed old new advice (Tool tool.Usage) first names a b f h says asks = absurd says
asked_all OutFailed old new advice (Tool (tool.Licence fault)) first names a b f h says asks = absurd says
asked_all OutFailed old new advice (Tool (tool.Options fault)) first names a b f h says asks = absurd says
asked_all OutFailed old new advice (Tool (tool.MoreOptions set fault)) first names a b f h says asks = absurd says
asked_all OutFailed old new advice (Tool (tool.Script fault)) first names a b f h says asks = absurd says
asked_all OutFailed old new advice (Tool (tool.ReadFault file)) first names a b f h says asks = absurd says
asked_all OutFailed old new advice (Tool (tool.FileTooLong file)) first names a b f h says asks = absurd says
asked_all OutFailed old new advice (Tool (tool.AuditNo line)) first names a b f h says asks = absurd says

-- where memory was wanted for the words, nothing was written
pub forgotten : (lint : Option LintWords) (contents : List ℕ → Bytes) (Failed OutFailed : Type 0) (held : Bytes) → ForLint lint contents (λ horizon told. IsLinted horizon Failed OutFailed told held held (Tool tool.NoMemory))
forgotten None contents Failed OutFailed held = tt
forgotten (Some names) contents Failed OutFailed held = record {
  readings = record { licence = agreeing (contents names.licence); options = agreeing (contents names.options) };
  are = record { licence = is_agreeing Failed (contents names.licence); options = is_agreeing Failed (contents names.options) };
  says = refl;
}
