use Rattle.std.proofs.Common.{drop, ◌+◌}
use Rattle.std.proofs.lemmas.Result.{err_from_is_err_and}
use Rattle.desk_logs.specs.Text.{numbered_texts, log_of}
use Rattle.desk_logs.proofs.Gathering.{breaks_off, goes_on}
use Rattle.desk_logs.proofs.Numbered.{next_text}
use Rattle.desk_logs.proofs.pools.put_logs.Goals as goal

pub returns-in_err-put_log : goal.returns-in_err-put_log
returns-in_err-put_log g c =
    let i = c.loop-pool.pool in
    let p = err_from_is_err_and c.from_residual.result c.from_residual.ensures.1 in
    rw p.1 (breaks_off (log_of i c.index-logs-pool.result) (numbered_texts log_of (i + 1) (drop (i + 1) c.args.logs.now)) p.0
    c.loop-pool.invariant
    (next_text log_of c.args.logs.now i c.index-logs-pool.result c.loop-pool-test.true c.index-logs-pool.is)
    c.in_err-put_log.ensures)

pub loop-pool-preserved : goal.loop-pool-preserved
loop-pool-preserved g c =
    let i = c.loop-pool.pool in
    goes_on (log_of i c.index-logs-pool.result) (numbered_texts log_of (i + 1) (drop (i + 1) c.args.logs.now))
    c.loop-pool.invariant
    (next_text log_of c.args.logs.now i c.index-logs-pool.result c.loop-pool-test.true c.index-logs-pool.is)
    c.in_ok-put_log.ensures
