-- A trial, which names no file.
use Rattle.std.proofs.Common.{◌≡◌, ℕ, List, [], Option, Some, refl, subst}
use Rattle.options_machine.specs.Run.{IsRun}
use Rattle.trial_replay.specs.Replayed.{run_of, trial_text}
use Rattle.trial_replay.specs.Terms.{bench_sets}
use Rattle.licence_tool.specs.Asked.{Asks, files_of}
use Rattle.licence_tool.specs.Command.{CommandOf, Trial}
use Rattle.licence_tool.specs.Files.{Bytes}
use Rattle.licence_tool.specs.Outcome.{Text}
use Rattle.licence_tool.specs.Tool.{ForFiles, IsDone, WritingSays}
use Rattle.licence_tool.proofs.Asking.{none_asked, wrote_text}
use Rattle.licence_tool.proofs.Ends.{due_written, writes}
use Rattle.licence_tool.specs.declared.status.Status.{Status}
use Rattle.licence_tool.specs.declared.status.Status.TheVariants.{Done}

-- its text is written
pub trial_done : (command : Option (CommandOf (List ℕ))) (contents : List ℕ → Bytes) (events : ℕ) (Failed OutFailed : Type 0) (old new : Bytes) (status : Status) → Some (Trial events) ≡ command
    → IsRun bench_sets (run_of events) → WritingSays OutFailed old new (trial_text events) status → ForFiles command contents (λ told. IsDone Failed OutFailed told old new status)
trial_done command contents events Failed OutFailed old new status is run says =
    subst (λ (c : Option (CommandOf (List ℕ))). ForFiles c contents (λ told. IsDone Failed OutFailed told old new status)) is (record {
      readings = Trial events;
      are = refl;
      says = writes Failed OutFailed old new (Text (trial_text events)) _ status refl (due_written OutFailed old new (trial_text events) status says);
      histories = run;
    })

-- no file is asked for
pub trial_asks : (command : Option (CommandOf (List ℕ))) (events : ℕ) (OutFailed : Type 0) (old new : Bytes) (asked failed : List (List ℕ)) (status : Status) → Some (Trial events) ≡ command
    → WritingSays OutFailed old new (trial_text events) status → Asks 1 (files_of command) asked asked failed failed status
trial_asks command events OutFailed old new asked failed status is says =
    subst (λ (c : Option (CommandOf (List ℕ))). Asks 1 (files_of c) asked asked failed failed status) is
    (wrote_text OutFailed old new (trial_text events) 1 [] asked asked failed failed status says (none_asked 1 [] asked failed Done refl refl))
