use Rattle.std.proofs.Common.{subst}
use Rattle.std.proofs.lemmas.Result.{err_from_is_err_and}
use Rattle.client_talk.specs.Exchange.{Asks}
use Rattle.client_talk.proofs.Talkings.{halts_unmade}
use Rattle.client_talk.proofs.exchange.ask_made.Goals as goal

pub returns-in_err-made : goal.returns-in_err-made
returns-in_err-made g c words want m =
    let made = rw c.in_err-made.was at m in
    let p = err_from_is_err_and c.from_residual.result c.from_residual.ensures.1 in
    rw (p.1, p.2) (halts_unmade g.L.Link.tells c.args.link.now words want c.in_err-made.field-0.0 made)

pub returns : goal.returns
returns g c words want m =
    let made = rw c.in_ok-made.was at m in
    subst (λ w. Asks g.L.Link.tells c.args.link.now c.ask_for.new.link words w c.ask_for.result) made.1 (c.ask_for.ensures words made.0)
