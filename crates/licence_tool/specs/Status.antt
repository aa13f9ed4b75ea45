use Rattle.std.specs.Prelude.{ℕ, ◌-◌, Bool, true, false, ◌==◌, if◌then◌else◌, List, [], ◌∷◌, ◌++◌, codes, decimal}
use Rattle.feature_lines.specs.FaultText.{is_of_licence, licence_line, licence_text}
use Rattle.options_text.specs.FaultText.{is_of_options, options_line, options_text}
use Rattle.script_words.specs.Texts.{text_of}
use Rattle.licence_tool.specs.declared.command.Third.{Third}
use Rattle.licence_tool.specs.declared.command.Third.TheVariants.{Script as IsScript, Log as IsLog}
use Rattle.licence_tool.specs.declared.status.Status.{Status}
use Rattle.licence_tool.specs.declared.status.Status.TheVariants.{Done, Usage, Licence, Options, MoreOptions, Script, ReadFault, WriteFault, NoMemory, FileTooLong, AuditNo}

-- the exit status of the program
abbrev pub code_of : Status → ℕ
code_of Done = 0
code_of Usage = 2
code_of (Licence fault) = 3
code_of (Options fault) = 4
code_of (MoreOptions set fault) = 4
code_of (Script fault) = 5
code_of (ReadFault file) = 6
code_of WriteFault = 7
code_of NoMemory = 8
code_of (FileTooLong file) = 10
code_of (AuditNo line) = 11

-- whether a status refuses what a file holds
abbrev pub is_refusal : Status → Bool
is_refusal Done = false
is_refusal Usage = false
is_refusal (Licence fault) = true
is_refusal (Options fault) = true
is_refusal (MoreOptions set fault) = true
is_refusal (Script fault) = true
is_refusal (ReadFault file) = false
is_refusal WriteFault = false
is_refusal NoMemory = false
is_refusal (FileTooLong file) = true
is_refusal (AuditNo line) = false

-- whether a fault in a status, if it has one, is one of its file, and not want of memory
abbrev pub has_own_fault : Status → Bool
has_own_fault Done = true
has_own_fault Usage = true
has_own_fault (Licence fault) = is_of_licence fault
has_own_fault (Options fault) = is_of_options fault
has_own_fault (MoreOptions set fault) = is_of_options fault
has_own_fault (Script fault) = true
has_own_fault (ReadFault file) = true
has_own_fault WriteFault = true
has_own_fault NoMemory = true
has_own_fault (FileTooLong file) = true
has_own_fault (AuditNo line) = true

-- what the options file of a rule set behind the first is called
abbrev pub set_called : ℕ → List ℕ
set_called set = codes "options " ++ decimal set

-- what the third file is called
abbrev pub third_called : Third → List ℕ
third_called IsScript = codes "script"
third_called IsLog = codes "log"

-- what a file is called, by its position: 1 is the licence, 2 the options file, 3 the script or the log, and the further options files stand behind
abbrev pub file_called : Third → ℕ → List ℕ
file_called third file =
    if file == 1 then codes "licence"
    else (if file == 2 then codes "options"
    else (if file == 3 then third_called third
    else set_called (file - 3)))

-- the line that tells of a fault in a line of a file
abbrev pub fault_line : List ℕ → ℕ → List ℕ → List ℕ
fault_line called line text = called ++ codes ": line " ++ decimal line ++ codes ": " ++ text ++ 10 ∷ []

-- the line on standard error, by what the third file is
abbrev pub line_of : Third → Status → List ℕ
line_of third Done = []
line_of third Usage = codes "usage\n"
line_of third (Licence fault) = fault_line (codes "licence") (licence_line fault) (licence_text fault)
line_of third (Options fault) = fault_line (codes "options") (options_line fault) (options_text fault)
line_of third (MoreOptions set fault) = fault_line (set_called set) (options_line fault) (options_text fault)
line_of third (Script fault) = fault_line (third_called third) fault.line (text_of fault.fault)
line_of third (ReadFault file) = file_called third file ++ codes ": read fault\n"
line_of third WriteFault = codes "write fault\n"
line_of third NoMemory = codes "no memory\n"
line_of third (FileTooLong file) = file_called third file ++ codes ": longer than 1048576 bytes\n"
line_of third (AuditNo line) = codes "log: not a run\n"
