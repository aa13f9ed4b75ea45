use Rattle.std.proofs.Common.{drop, ◌+◌}
use Rattle.std.proofs.lemmas.Result.{err_from_is_err_and}
use Rattle.audit_log.specs.Entries.{entry_text}
use Rattle.desk_logs.specs.Text.{entries_from}
use Rattle.desk_logs.proofs.Gathering.{breaks_off, goes_on}
use Rattle.desk_logs.proofs.Numbered.{next_text}
use Rattle.desk_logs.proofs.pools.put_entries.Goals as goal

pub returns-in_err-put_entry : goal.returns-in_err-put_entry
returns-in_err-put_entry g c =
    let i = c.loop-place.place in
    let p = err_from_is_err_and c.from_residual.result c.from_residual.ensures.1 in
    rw p.1 (breaks_off (entry_text c.args.pool i c.index-entries-place.result) (entries_from c.args.pool (i + 1) (drop (i + 1) c.args.entries.now)) p.0
    c.loop-place.invariant
    (next_text (entry_text c.args.pool) c.args.entries.now i c.index-entries-place.result c.loop-place-test.true c.index-entries-place.is)
    c.in_err-put_entry.ensures)

pub loop-place-preserved : goal.loop-place-preserved
loop-place-preserved g c =
    let i = c.loop-place.place in
    goes_on (entry_text c.args.pool i c.index-entries-place.result) (entries_from c.args.pool (i + 1) (drop (i + 1) c.args.entries.now))
    c.loop-place.invariant
    (next_text (entry_text c.args.pool) c.args.entries.now i c.index-entries-place.result c.loop-place-test.true c.index-entries-place.is)
    c.in_ok-put_entry.ensures
