use Rattle.std.proofs.lemmas.Result.{err_from_is_err_and}
use Rattle.client_talk.specs.Talks.{beat_line}
use Rattle.client_talk.proofs.keeping.beat.Goals as goal

pub returns-in_err-reply : goal.returns-in_err-reply
returns-in_err-reply g c =
    let p = err_from_is_err_and c.from_residual.result c.from_residual.ensures.1 in
    rw (p.1, p.2) (c.in_err-reply.ensures (beat_line c.args.feature.now) c.beat_want.result c.beat.ensures)
