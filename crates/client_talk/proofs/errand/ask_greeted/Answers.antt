use Rattle.std.proofs.Common.{[], ◌∷◌}
use Rattle.std.proofs.lemmas.Result.{err_from_is_err_and}
use Rattle.client_talk.specs.Talks.{hello_line}
use Rattle.client_talk.proofs.Showings.{answered_after, stopped_first}
use Rattle.client_talk.proofs.errand.ask_greeted.Goals as goal

pub returns : goal.returns
returns g c words want m =
    answered_after g.L.Link.tells c.args.link.now c.greet.new.link c.ask_made.new.link (hello_line c.args.client.now) words want c.in_ok-greet.field-0 c.ask_made.result c.in_ok-greet.ensures (c.ask_made.ensures words want m)

pub returns-in_err-greet : goal.returns-in_err-greet
returns-in_err-greet g c words want m =
    let p = err_from_is_err_and c.from_residual.result c.from_residual.ensures.1 in
    rw (p.1, p.2) (stopped_first g.L.Link.tells c.args.link.now c.greet.new.link (hello_line c.args.client.now) (words ∷ []) c.in_err-greet.field-0.0 c.in_err-greet.ensures)
