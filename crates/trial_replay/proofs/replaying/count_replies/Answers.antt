use Rattle.std.proofs.Common.{◌≡◌, ◌∙◌, ap, arith}
use Rattle.trial_replay.specs.Counts.{counts_of, total_of}
use Rattle.trial_replay.specs.Replayed.{replies_of}
use Rattle.trial_replay.proofs.Playing.{no_counts, played_first, played_more}
use Rattle.trial_replay.proofs.Running.{event_asks, event_party}
use Rattle.trial_replay.proofs.Sums.{all_counted}
use Rattle.trial_replay.proofs.replaying.count_replies.Goals as goal

pub loop-event-init : goal.loop-event-init
loop-event-init c =
    let zeros = c.default-counts.ensures in
    rw (no_counts c.default-counts.result zeros.0 zeros.1.0 zeros.1.1.0 zeros.1.1.1.0 zeros.1.1.1.1.0 zeros.1.1.1.1.1.0 zeros.1.1.1.1.1.1.0 zeros.1.1.1.1.1.1.1.0 zeros.1.1.1.1.1.1.1.1.0 zeros.1.1.1.1.1.1.1.1.1) (played_first c.args.book.now c.requires.book)

pub step-reply-requires-clause-party : goal.step-reply-requires-clause-party
step-reply-requires-clause-party c = rw (c.request_of-request.ensures, c.loop-event.invariant.parties) (event_party c.loop-event.event)

pub step-reply-requires-clause-fits : goal.step-reply-requires-clause-fits
step-reply-requires-clause-fits c = rw (c.request_of-request.ensures, c.loop-event.invariant.sets) (event_asks c.loop-event.event)

pub count-requires : goal.count-requires
count-requires c = let few = c.loop-event.invariant.few in omega (arith, few, c.loop-event-test.true)

pub loop-event-preserved : goal.loop-event-preserved
loop-event-preserved c =
    played_more c.loop-event.book c.step-reply.new.self c.loop-event.counts c.count.new.self c.loop-event.event c.step-reply.result.0 c.loop-event.invariant
    (rw (c.request_of-request.ensures, c.moment_of.ensures) at c.step-reply.ensures.step) c.step-reply.ensures.same c.count.ensures

pub returns-clause-counts : goal.returns-clause-counts
returns-clause-counts c =
    let at_end : c.loop-event.event ≡ c.args.events = omega arith in
    c.loop-event.invariant.counted ∙ ap (λ n. counts_of (replies_of n)) at_end

pub returns-clause-total : goal.returns-clause-total
returns-clause-total c =
    let at_end : c.loop-event.event ≡ c.args.events = omega arith in
    ap total_of c.loop-event.invariant.counted ∙ (all_counted c.loop-event.event ∙ at_end)
