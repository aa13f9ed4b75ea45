use Rattle.std.proofs.Common.{Ok, Some, subst}
use Rattle.outside.specs.Told.{HasRisen}
use Rattle.client_talk.specs.Running.{Keeps}
use Rattle.client_talk.proofs.Showings.{reply_printed}
use Rattle.client_talk.proofs.holding.wait_for_seat.Goals as goal

pub returns-in_ok-print_reply-in-Some : goal.returns-in_ok-print_reply-in-Some
returns-in_ok-print_reply-in-Some g c =
    let faults = g.O.Sink.faults in
    let held = g.O.Sink.held in
    record {
      at = c.wait.new.link;
      when = c.wait.new.clock;
      rope = c.wait.new.bell;
      came = Ok (Some c.in-Some.seat);
      stays = rw c.in-Some.is at c.in_ok-seat.ensures;
      comes = (
        held c.print_reply.new.out,
        Ok tt,
        reply_printed _ _ _ _ (Ok c.in-Some.seat) tt c.in_ok-print_reply-in-Some.ensures.printed,
        subst
            (λ n. Keeps g.L.Link.tells g.K.Clock.gave g.B.Bell.answered c.wait.new.link c.keep_seat.new.link c.wait.new.clock c.keep_seat.new.clock c.wait.new.bell c.keep_seat.new.bell c.args.hold.now (HasRisen n (faults c.keep_seat.new.out))
            (held c.print_reply.new.out) (held c.keep_seat.new.out) c.keep_seat.result)
            c.in_ok-print_reply-in-Some.ensures.steady c.keep_seat.ensures,
      );
    }
