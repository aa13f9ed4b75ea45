use Rattle.std.proofs.Common.{Ok, ◌∙◌, ap, subst}
use Rattle.outside.specs.Told.{HasRisen}
use Rattle.client_talk.specs.Holding.{waits_by}
use Rattle.client_talk.specs.Running.{Goes}
use Rattle.client_talk.proofs.Showings.{reply_printed}
use Rattle.client_talk.proofs.holding.hold_seat.Goals as goal

pub returns : goal.returns
returns g c =
    let faults = g.O.Sink.faults in
    let held = g.O.Sink.held in
    let waiting = c.waits_by-waiting.ensures ∙ ap (waits_by c.args.hold.now.pace) c.line.ensures in
    let went = subst
    (λ n. Goes g.L.Link.tells g.K.Clock.gave g.B.Bell.answered c.take.new.link c.go_on.new.link c.args.clock.now c.go_on.new.clock c.args.bell.now c.go_on.new.bell c.args.hold.now c.waits_by-waiting.result (HasRisen n (faults c.go_on.new.out))
    (held c.print_reply.new.out) (held c.go_on.new.out) c.go_on.result)
    c.in_ok-print_reply.ensures.steady c.go_on.ensures in
    record {
      at = c.take.new.link;
      said = Ok c.in_ok-reply.reply;
      asked = c.in_ok-reply.ensures;
      begins = (
        held c.print_reply.new.out,
        Ok tt,
        reply_printed _ _ _ _ (Ok c.in_ok-reply.reply) tt c.in_ok-print_reply.ensures.printed,
        subst
            (λ w. Goes g.L.Link.tells g.K.Clock.gave g.B.Bell.answered c.take.new.link c.go_on.new.link c.args.clock.now c.go_on.new.clock c.args.bell.now c.go_on.new.bell c.args.hold.now w (HasRisen (faults c.args.out.now) (faults c.go_on.new.out))
            (held c.print_reply.new.out) (held c.go_on.new.out) c.go_on.result)
            waiting went,
      );
    }
