use Rattle.std.proofs.Common.{◌∙◌, ◌++◌, ◌||◌, ℕ, cond, nat_lt, ap, sym, subst, arith}
use Rattle.counter.specs.Account.{Asking, Asks, grants, brings_seat}
use Rattle.options_machine.specs.State.{set_at}
use Rattle.options_machine.specs.declared.reply.Reply.{Reply}
use Rattle.options_machine.specs.declared.reply.Request.{Request}
use Rattle.turn_lock.specs.Passes.{Pass}
use Rattle.session_rows.specs.declared.book.BookLaw.{BookLaw}
use Rattle.session_rows.specs.Books.{entries_of}
use Rattle.session_rows.specs.Turns.{account_of}
use Rattle.session_rows.proofs.Entered.{asks, granted_more, grants_now, held_now, queued_now}
use Rattle.session_rows.proofs.turns.TurnCounterCounter.ask.Goals as goal

pub invariant_of-self : goal.invariant_of-self
invariant_of-self g c =
    let s = c.self in let told = c.ask-told.result in let a = c.ask-told.ensures in let t = s.inside.pass in let u = c.ask-told.new.pass in
    let held_is = c.standing-self-inside.ensures ∙ (λ i. cond (c.answers-stands.ensures i) (c.is_of_holding.ensures i) s.inside.held) in
    let queued_is = c.standing-self-inside-2.ensures ∙ (λ i. cond (c.answers-stands.ensures i) (c.is_of_queueing.ensures i) s.inside.queued) in
    let more = grants_now t u c.args.client.now c.args.kind c.args.moment told.used told.answer told.place a.same.1 a.same.2 a.seen.0 c.number-party.result c.number-party.ensures.is a.seen.1 a.runs a.mine a.own in
    record {
      party = (let l = ap (λ (x : BookLaw). x.parties) a.same.2 in omega (arith, s.invariant.party, a.same.1, l));
      held = held_now t u c.args.client.now c.args.kind c.args.moment told.used told.answer told.place a.same.1 a.same.2 a.seen.0 c.number-party.result c.number-party.ensures.is a.seen.1 a.runs a.mine a.own
          s.inside.held s.inside.queued s.invariant.held s.invariant.queued c.standing-self-inside.result c.standing-self-inside-2.result held_is queued_is;
      queued = queued_now t u c.args.client.now c.args.kind c.args.moment told.used told.answer told.place a.same.1 a.same.2 a.seen.0 c.number-party.result c.number-party.ensures.is a.seen.1 a.runs a.mine a.own
          s.inside.held s.inside.queued s.invariant.held s.invariant.queued c.standing-self-inside.result c.standing-self-inside-2.result held_is queued_is;
      granted = c.either-self-inside.ensures ∙ (λ i. s.invariant.granted i || c.brings_seat.ensures i) ∙ granted_more (grants (entries_of t.mine)) (brings_seat told.answer) ∙ ap (λ (n : ℕ). nat_lt 0 n) (sym more);
      free = s.invariant.free ∙ ap (λ (l : BookLaw). (set_at l.sets 0).free) (sym a.same.2);
    }

pub returns-clause-asks : goal.returns-clause-asks
returns-clause-asks g c =
    let s = c.self in let told = c.ask-told.result in let a = c.ask-told.ensures in let t = s.inside.pass in let u = c.ask-told.new.pass in
    let held_is = c.standing-self-inside.ensures ∙ (λ i. cond (c.answers-stands.ensures i) (c.is_of_holding.ensures i) s.inside.held) in
    let queued_is = c.standing-self-inside-2.ensures ∙ (λ i. cond (c.answers-stands.ensures i) (c.is_of_queueing.ensures i) s.inside.queued) in
    subst (λ (p : Pass BookLaw Request Reply). (x : Asking) × Asks (account_of p) (account_of u) c.args.kind c.args.client.now c.args.moment (record { reply = told.answer; place = told.place; moment = told.used; held = c.standing-self-inside.result }) x) s.view_is
    (asks t u c.args.client.now c.args.kind c.args.moment told.used told.answer told.place a.same.1 a.same.2 a.seen.0 c.number-party.result c.number-party.ensures.is a.seen.1 a.runs a.mine a.own
    s.inside.held s.inside.queued s.invariant.held s.invariant.queued c.standing-self-inside.result c.standing-self-inside-2.result held_is queued_is
    (a.moment (t.seen ++ a.seen.0) a.seen.1) (a.place (t.seen ++ a.seen.0) a.seen.1))
