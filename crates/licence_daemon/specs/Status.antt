-- How the program ends.
use Rattle.std.specs.Prelude.{ℕ, List, codes}
use Rattle.licence_tool.specs.Status.{code_of, line_of}
use Rattle.licence_tool.specs.declared.command.Third.TheVariants.{Script}
use Rattle.licence_daemon.specs.declared.status.DaemonStatus.{DaemonStatus}
use Rattle.licence_daemon.specs.declared.status.DaemonStatus.TheVariants.{Tool, SiteFault, DoorFault}

-- the exit status of the program
abbrev pub daemon_code : DaemonStatus → ℕ
daemon_code (Tool status) = code_of status
daemon_code SiteFault = 9
daemon_code DoorFault = 13

-- the line that a `serve` writes on standard error; it has no third file
abbrev pub serve_line : DaemonStatus → List ℕ
serve_line (Tool status) = line_of Script status
serve_line SiteFault = codes "site fault\n"
serve_line DoorFault = codes "door fault\n"
