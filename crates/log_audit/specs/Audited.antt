use Rattle.std.specs.Prelude.{◌≡◌, List, map, Result, Ok, Err}
use Rattle.feature_lines.specs.declared.pool.Pool.{Pool}
use Rattle.options_machine.specs.Rules.{Rules}
use Rattle.options_text.specs.Options.{OptionsFile}
use Rattle.policy.specs.Pools.{rules_of}
use Rattle.script_words.specs.declared.fault.ScriptFault.{ScriptFault}
use Rattle.log_audit.specs.Audit.{IsFirstBad, IsRunLog}
use Rattle.log_audit.specs.Summed.{SumsUp}
use Rattle.log_audit.specs.declared.audited.Audited.{Audited}
use Rattle.log_audit.specs.declared.audited.Audited.TheVariants.{Yes, No}
use Rattle.log_audit.specs.declared.fault.AuditFault.{AuditFault}
use Rattle.log_audit.specs.declared.fault.AuditFault.TheVariants.{Log, NoMemory}
use Rattle.log_audit.specs.declared.log.Numbered.{Numbered}

-- the rule sets of a pool, one for each options file
abbrev pub sets_of : List OptionsFile → Pool → List Rules
sets_of files pool = map (rules_of pool) files

-- what an audit shows of entries at pools with these rule sets: Yes where they are a run, with their sums; No where they aren't, with the first line that shows it and what holds there
abbrev pub IsShown : List (List Rules) → List Numbered → Audited → Type 0
IsShown pools xs (Yes sums) = IsRunLog pools xs × SumsUp pools xs sums
IsShown pools xs (No line place moment said) = IsFirstBad pools xs line place moment said

-- what is shown of a log's entries; the log's fault; or want of memory
abbrev pub IsAudited : List (List Rules) → Result (List Numbered) ScriptFault → Result Audited AuditFault → Type 0
IsAudited pools log (Ok audited) = (xs : List Numbered) × (log ≡ Ok xs) × IsShown pools xs audited
IsAudited pools log (Err (Log fault)) = log ≡ Err fault
IsAudited pools log (Err NoMemory) = Unit {0}
