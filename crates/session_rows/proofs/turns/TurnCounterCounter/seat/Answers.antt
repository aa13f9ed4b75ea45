use Rattle.std.proofs.Common.{◌∙◌, ap}
use Rattle.counter.specs.Account.{seat_of}
use Rattle.options_machine.specs.declared.reply.Reply.{Reply}
use Rattle.options_machine.specs.declared.reply.Request.{Request}
use Rattle.turn_lock.specs.Passes.{Pass}
use Rattle.session_rows.specs.declared.book.BookLaw.{BookLaw}
use Rattle.session_rows.specs.Turns.{account_of}
use Rattle.session_rows.proofs.Entered.{seat_is}
use Rattle.session_rows.proofs.turns.TurnCounterCounter.seat.Goals as goal

pub returns-then-self-2 : goal.returns-then-self-2
returns-then-self-2 c =
    seat_is c.self.inside.pass c.self.inside.held c.self.inside.granted c.self.invariant.held c.self.invariant.granted c.if-self.true c.if-self-2.true
    ∙ ap (λ (p : Pass BookLaw Request Reply). seat_of (account_of p)) c.self.view_is
