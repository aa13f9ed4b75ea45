-- What a command of the tools promises of its end, in one piece, for a program that stands on it.
use Rattle.std.specs.Prelude.{◌≡◌, ◌≢◌, ◌⊎◌, ◌↔◌, ℕ, true, List, Ok, Err}
use Rattle.licence_tool.specs.Asked.{Asks, FailedAt, HasFailed, files_of}
use Rattle.licence_tool.specs.Command.{third_in}
use Rattle.licence_tool.specs.Files.{Bytes, are_told}
use Rattle.licence_tool.specs.Outcome.{Due, IsRefuted, IsTold, outcome_of}
use Rattle.licence_tool.specs.Status.{has_own_fault, is_refusal, line_of}
use Rattle.licence_tool.specs.Tool.{Comes, ForFiles, GainsLine, IsSure, WritesAll, WritesPrefix, WritesHistories, WritesNo}
use Rattle.licence_tool.specs.Words.{IsNoCommand, command_in}
use Rattle.licence_tool.specs.declared.status.Status.{Status}
use Rattle.licence_tool.specs.declared.status.Status.TheVariants.{Done, Usage, ReadFault, WriteFault, NoMemory, AuditNo}
use Rattle.licence_tool.specs.declared.words.Words.{Words}
use Rattle.licence_tool.specs.declared.words.Words.TheVariants.{NoMemory as NoWords}

-- The clauses of `tool`, by their names: of the words; of what the files hold, as far as that is told; of the names that were asked for and of those whose reading failed, before and after; of what standard output and standard error held before and hold now; and of whether their counts of faults rose.
pub record ToolEnds (words : Words) (contents : List ℕ → Bytes) (asked_old asked_new failed_old failed_new : List (List ℕ)) (out_old out_new : Bytes) (OutFailed : Type 0) (err_old err_new : Bytes) (ErrFailed : Type 0) (status : Status) : Type 0 where
  pub usage : (status ≡ Usage) ↔ IsNoCommand words
  pub no_words : words ≡ NoWords → status ≡ NoMemory
  pub asked : Asks 1 (files_of (command_in words)) asked_old asked_new failed_old failed_new status
  pub done : status ≡ Done → ForFiles (command_in words) contents (λ told. WritesAll (HasFailed failed_old failed_new) told out_old out_new)
  pub not_run : (line : ℕ) → status ≡ AuditNo line → ForFiles (command_in words) contents (λ told. WritesNo (HasFailed failed_old failed_new) told line out_old out_new)
  pub histories : status ≡ Done → ForFiles (command_in words) contents (λ told. WritesHistories (HasFailed failed_old failed_new) told out_old out_new)
  pub written : status ≡ WriteFault → ForFiles (command_in words) contents (λ told. WritesPrefix (HasFailed failed_old failed_new) told out_old out_new)
  pub unwritten : status ≢ Done → ((line : ℕ) → status ≢ AuditNo line) → status ≢ WriteFault → out_new ≡ out_old
  pub refused : is_refusal status ≡ true → ForFiles (command_in words) contents (λ told. Comes (HasFailed failed_old failed_new) told (Err status))
  pub own_fault : has_own_fault status ≡ true
  pub read_fault : (file : ℕ) → status ≡ ReadFault file → FailedAt 1 (files_of (command_in words)) failed_old failed_new file × ForFiles (command_in words) contents (λ told. Comes (HasFailed failed_old failed_new) told (Err status))
  pub write_fault : status ≡ WriteFault → OutFailed
  pub err_line : GainsLine err_old err_new ErrFailed (line_of (third_in (command_in words)) status)
  pub all_told : ForFiles (command_in words) contents (λ told. are_told told ≡ true → IsSure told (outcome_of told))
  pub complete : ForFiles (command_in words) contents (λ told. (due : Due) (text : List ℕ) → IsSure told (Ok due) → IsTold due text → ¬ HasFailed failed_old failed_new → ¬ OutFailed → (status ≡ Done) ⊎ (status ≡ NoMemory))
  pub no_comes : ForFiles (command_in words) contents (λ told. (due : Due) (line : ℕ) (text : List ℕ) → IsSure told (Ok due) → IsRefuted due line text → ¬ HasFailed failed_old failed_new → ¬ OutFailed → (status ≡ AuditNo line) ⊎ (status ≡ NoMemory))
  pub refusal_comes : ForFiles (command_in words) contents (λ told. (due : Status) → IsSure told (Err due) → ¬ HasFailed failed_old failed_new → (status ≡ due) ⊎ (status ≡ NoMemory))
