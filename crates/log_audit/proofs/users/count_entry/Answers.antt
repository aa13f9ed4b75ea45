use Rattle.std.proofs.Common.{sym, ◌∙◌}
use Rattle.log_audit.proofs.Grants.{granted}
use Rattle.log_audit.proofs.users.count_entry.Goals as goal

pub returns-in_ok-count_one : goal.returns-in_ok-count_one
returns-in_ok-count_one c =
    granted c.args.entry.now c.args.counts.now.entries c.count_one.new.counts.entries (sym c.is_grant.ensures ∙ c.if-is_grant.true) c.requires.some c.in_ok-count_one.ensures
