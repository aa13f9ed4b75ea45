use Rattle.turn_lock.specs.Entries.{entry}
use Rattle.session_rows.proofs.Stepping.{moment_more, runs_more, stands_more}
use Rattle.session_rows.proofs.book.LoggedBookKept.step.Goals as goal

pub returns-clause-stands : goal.returns-clause-stands
returns-clause-stands g c h stood ran =
    let s = c.step-answer.ensures in
    stands_more c.args.self.now.book c.step-answer.new.self (entry c.args.request.now c.step-answer.result.1 c.step-answer.result.0) c.args.moment h
    c.requires.set s.step s.moment s.same.0 stood ran

pub returns-clause-runs : goal.returns-clause-runs
returns-clause-runs g c h stood ran =
    let s = c.step-answer.ensures in
    runs_more c.args.self.now.book c.step-answer.new.self (entry c.args.request.now c.step-answer.result.1 c.step-answer.result.0) c.args.moment h
    c.requires.set s.step s.moment s.same.0 stood ran

pub returns-clause-moment : goal.returns-clause-moment
returns-clause-moment g c h stood ran =
    let s = c.step-answer.ensures in
    moment_more c.args.self.now.book c.step-answer.new.self (entry c.args.request.now c.step-answer.result.1 c.step-answer.result.0) c.args.moment h
    c.requires.set s.step s.moment s.same.0 stood ran
