-- How the program ends.
use Rattle.std.specs.Prelude.{ℕ, List, []}
use Rattle.licence_tool.specs.Status.{code_of, line_of}
use Rattle.licence_tool.specs.declared.command.Third.TheVariants.{Script}
use Rattle.licence_tool.specs.declared.status.Status.{Status}
use Rattle.licence_tool.specs.declared.status.Status.TheVariants as tool
use Rattle.licence_lint.specs.declared.status.LintStatus.{LintStatus}
use Rattle.licence_lint.specs.declared.status.LintStatus.TheVariants.{Tool, Advised}

-- the exit status of the program
abbrev pub lint_code : LintStatus → ℕ
lint_code (Tool status) = code_of status
lint_code Advised = 1

-- the line on standard error; there is no third file
abbrev pub lint_line : LintStatus → List ℕ
lint_line (Tool status) = line_of Script status
lint_line Advised = []

-- the status of the reading of the files, which are all accepted where there is advice
abbrev pub reading_in : LintStatus → Status
reading_in (Tool status) = status
reading_in Advised = tool.Done
