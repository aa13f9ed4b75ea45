use Rattle.std.specs.Prelude.{ℕ, Bool, true, ◌&&◌, not, nat_lt, if◌then◌else◌, List, filter, map, Option, None, Some, Result, Ok, Err}
use Rattle.lic_types.specs.declared.limits.TheConstants.{MOMENT_END, PARTY_LIMIT}
use Rattle.lic_text.specs.Lines.{Worded, lines_of}
use Rattle.lic_text.specs.declared.fault.TextFault.{TextFault}
use Rattle.script_words.specs.Firsts.{all_or_first_fault}
use Rattle.script_words.specs.Texts.{at_its_line}
use Rattle.script_words.specs.declared.fault.ScriptFault.{ScriptFault}
use Rattle.script_words.specs.declared.fault.ScriptWord.TheVariants.{BadNumber}
use Rattle.audit_log.specs.Entries.{logged_at}
use Rattle.audit_log.specs.Summaries.{is_summary}
use Rattle.audit_log.specs.declared.reading.Logged.{Logged}
use Rattle.log_audit.specs.declared.fault.AuditFault.{AuditFault}
use Rattle.log_audit.specs.declared.fault.AuditFault.TheVariants.{Log, NoMemory}
use Rattle.log_audit.specs.declared.log.Numbered.{Numbered}

-- whether a line has an entry, or its lines end there at fault
abbrev pub tells : Result Worded TextFault → Bool
tells (Ok line) = not (is_summary line.1)
tells (Err fault) = true

-- the entry, where its pool is one of so many
abbrev pub in_pools : ℕ → ℕ → Result Logged ScriptFault → Result Numbered ScriptFault
in_pools pools line (Ok x) = if nat_lt x.pool pools then Ok (record { line = line; logged = x }) else Err (record { line = line; fault = BadNumber })
in_pools pools line (Err fault) = Err fault

-- the entry of a line
abbrev pub numbered_or_fault : ℕ → Result Worded TextFault → Result Numbered ScriptFault
numbered_or_fault pools (Ok line) = in_pools pools line.0 (logged_at line)
numbered_or_fault pools (Err fault) = Err (at_its_line fault)

-- the entries of a log of so many pools, or its first line at fault
abbrev pub log_of : ℕ → List ℕ → Result (List Numbered) ScriptFault
log_of pools file = all_or_first_fault (map (numbered_or_fault pools) (filter tells (lines_of file)))

abbrev pub some_or_fault : Result Numbered ScriptFault → Result (Option Numbered) ScriptFault
some_or_fault (Ok x) = Ok (Some x)
some_or_fault (Err fault) = Err fault

-- the entry of a line, where it has one
abbrev pub read_of : ℕ → Result Worded TextFault → Result (Option Numbered) ScriptFault
read_of pools line = if tells line then some_or_fault (numbered_or_fault pools line) else Ok None

-- the fault of a log that a fault tells; want of memory tells none
abbrev pub fault_told : AuditFault → Option ScriptFault
fault_told (Log fault) = Some fault
fault_told NoMemory = None

-- an entry of one of so many pools, at a moment and of a party that there may be
abbrev pub is_fit : ℕ → Numbered → Bool
is_fit pools x = nat_lt x.logged.pool pools && (nat_lt x.logged.entry.moment MOMENT_END && nat_lt x.logged.entry.request.party PARTY_LIMIT)
