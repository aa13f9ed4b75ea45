use Rattle.std.proofs.Common.{◌≡◌, ◌++◌, take}
use Rattle.std.specs.List.{flat_map}
use Rattle.licence_tool.specs.AuditText.{user_line}
use Rattle.licence_tool.proofs.audit_text.put_users.Given as goal

-- the users so far are written
abbrev pub invariant-loop-user : goal.invariant-loop-user
invariant-loop-user l = l.text.items ≡ l.fn.text.items ++ flat_map user_line (take l.user-index l.users)
