use Rattle.std.proofs.Common.{[], append-nil, refl}
use Rattle.std.proofs.lemmas.Result.{err_from_is_err_and}
use Rattle.desk_logs.specs.Text.{log_of, numbered_texts, tally_of}
use Rattle.desk_logs.proofs.Gathering.{joined, unwritten, written}
use Rattle.desk_logs.proofs.pools.write_logs.Goals as goal

pub returns-in_err-put_logs : goal.returns-in_err-put_logs
returns-in_err-put_logs g c =
    let p = err_from_is_err_and c.from_residual.result c.from_residual.ensures.1 in
    rw p.1 (unwritten (numbered_texts tally_of 0 c.args.tallies.now) p.0 c.in_err-put_logs.ensures (rw c.requires.empty refl))

pub returns-in_err-put_tallies : goal.returns-in_err-put_tallies
returns-in_err-put_tallies g c =
    let p = err_from_is_err_and c.from_residual-in_err-put_tallies.result c.from_residual-in_err-put_tallies.ensures.1 in
    rw p.1 (rw c.requires.empty at (unwritten [] p.0 (joined (numbered_texts log_of 0 c.args.logs.now) (numbered_texts tally_of 0 c.args.tallies.now) _ c.in_ok-put_logs.ensures c.in_err-put_tallies.ensures) (append-nil _)))

pub returns : goal.returns
returns g c =
    rw c.requires.empty at (written c.flush.result
    (joined (numbered_texts log_of 0 c.args.logs.now) (numbered_texts tally_of 0 c.args.tallies.now) _ c.in_ok-put_logs.ensures c.in_ok-put_tallies.ensures) c.flush.ensures.wrote)
