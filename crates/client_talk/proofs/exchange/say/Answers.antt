use Rattle.std.proofs.lemmas.Result.{err_from_is_err_and}
use Rattle.client_talk.proofs.Talkings.{says, says_fault}
use Rattle.client_talk.proofs.exchange.say.Goals as goal

pub returns-in_err-write : goal.returns-in_err-write
returns-in_err-write g c =
    let p = err_from_is_err_and c.from_residual.result c.from_residual.ensures.1 in
    rw (p.1, p.2) (says_fault g.L.Link.tells c.args.link.now c.write.new.self c.args.line.now c.in_err-write.ensures.told.0 c.in_err-write.ensures.told.2)

pub returns : goal.returns
returns g c = says g.L.Link.tells c.args.link.now c.write.new.self c.hear.new.link c.args.line.now c.hear.result c.in_ok-write.ensures.told.2 c.hear.ensures
