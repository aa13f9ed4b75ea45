use Rattle.std.proofs.Common.{arith}
use Rattle.trial_link.proofs.Playing.{last_told, left_long, more_told}
use Rattle.trial_link.proofs.link.TrialLink.give.Goals as goal

pub returns-then-count-rest-clause-told : goal.returns-then-count-rest-clause-told
returns-then-count-rest-clause-told c = λ told h.
    let s = c.args.self.now in
    more_told s.number s.rounds s.played s.grants s.stage c.args.call s.given c.put-count.result c.line.result.now _ told c.requires.stage c.line.ensures
    c.put-count.ensures.bytes (omega (arith, c.put-count.ensures.count, c.requires.room, c.if-count-rest.true)) c.if-count-rest.true h

pub returns-else-count-rest-clause-told : goal.returns-else-count-rest-clause-told
returns-else-count-rest-clause-told c = λ told h.
    let s = c.args.self.now in
    let some = left_long s.number s.stage c.args.call s.given c.line.result.now c.requires.stage c.line.ensures s.more in
    last_told s.number s.rounds s.played s.grants s.stage c.args.call s.given c.put-count.result c.line.result.now _ told c.requires.stage c.line.ensures
    c.put-count.ensures.bytes (omega (arith, c.put-count.ensures.count, c.requires.room, some)) c.if-count-rest.false some h
