use Rattle.std.proofs.Common.{subst}
use Rattle.client_talk.specs.Requests.{Makes}
use Rattle.client_talk.specs.Standing.{return_want}
use Rattle.client_talk.specs.Talks.{checkin_line}
use Rattle.client_talk.proofs.keeping.give_back.Goals as goal

pub returns : goal.returns
returns g c =
    let line = checkin_line c.args.feature.now in
    c.ask_made.ensures line (return_want c.args.standing) (subst (λ w. Makes line w c.checkin.result) c.return_want.ensures c.checkin.ensures)
