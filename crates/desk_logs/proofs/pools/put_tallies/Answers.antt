use Rattle.std.proofs.Common.{drop, get_or, ◌+◌}
use Rattle.std.proofs.lemmas.Result.{err_from_is_err_and}
use Rattle.feature_desk.specs.declared.closing.DeskTally.{DeskTally}
use Rattle.desk_logs.specs.Text.{numbered_texts, tally_of}
use Rattle.desk_logs.proofs.Gathering.{breaks_off, goes_on}
use Rattle.desk_logs.proofs.Numbered.{next_at}
use Rattle.desk_logs.proofs.pools.put_tallies.Goals as goal

nothing : DeskTally
nothing = record { calls = 0; grants = 0; uses = 0 }

pub returns-in_err-put_tally : goal.returns-in_err-put_tally
unfolding nothing
returns-in_err-put_tally g c =
    let i = c.loop-pool.pool in
    let p = err_from_is_err_and c.from_residual.result c.from_residual.ensures.1 in
    rw p.1 (breaks_off (tally_of i (get_or c.args.tallies.now i nothing)) (numbered_texts tally_of (i + 1) (drop (i + 1) c.args.tallies.now)) p.0
    c.loop-pool.invariant
    (next_at tally_of c.args.tallies.now i nothing c.loop-pool-test.true)
    c.in_err-put_tally.ensures)

pub loop-pool-preserved : goal.loop-pool-preserved
unfolding nothing
loop-pool-preserved g c =
    let i = c.loop-pool.pool in
    goes_on (tally_of i (get_or c.args.tallies.now i nothing)) (numbered_texts tally_of (i + 1) (drop (i + 1) c.args.tallies.now))
    c.loop-pool.invariant
    (next_at tally_of c.args.tallies.now i nothing c.loop-pool-test.true)
    c.in_ok-put_tally.ensures
