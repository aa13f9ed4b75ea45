use Rattle.std.proofs.Common.{append_assoc, length}
use Rattle.std.proofs.lemmas.Result.{err_from_is_err_and}
use Rattle.audit_log.specs.Summaries.{log_text}
use Rattle.desk_logs.specs.Text.{entries_from}
use Rattle.desk_logs.proofs.Gathering.{cut_short, joined}
use Rattle.desk_logs.proofs.pools.put_log.Goals as goal

pub returns-in_err-put_entries : goal.returns-in_err-put_entries
returns-in_err-put_entries g c =
    let p = err_from_is_err_and c.from_residual.result c.from_residual.ensures.1 in
    rw p.1 (cut_short (log_text c.args.pool (length c.args.log.now.entries.items) c.args.log.now.cut) p.0 (rw c.as_slice-entries.ensures.value at c.in_err-put_entries.ensures)
    (append_assoc c.args.gathered.now.items (entries_from c.args.pool 0 c.args.log.now.entries.items) (log_text c.args.pool (length c.args.log.now.entries.items) c.args.log.now.cut)))

pub returns : goal.returns
returns g c =
    joined (entries_from c.args.pool 0 c.args.log.now.entries.items) (log_text c.args.pool (length c.args.log.now.entries.items) c.args.log.now.cut) c.gather.result
    (rw c.as_slice-entries.ensures.value at c.in_ok-put_entries.ensures)
    (rw (c.write_log-at.ensures.written, c.as_slice-entries.ensures.value) at c.gather.ensures)
