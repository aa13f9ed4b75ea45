use Rattle.std.proofs.Common.{◌∙◌, ◌≤◌, length, cond, ap, refl, subst}
use Rattle.std.specs.Option.{is_none}
use Rattle.options_machine.specs.Own.{is_of_holding}
use Rattle.options_machine.specs.Step.{set_asked}
use Rattle.counter.specs.Account.{Extends}
use Rattle.feature_desk.specs.Sitters.{Sitter}
use Rattle.feature_desk.specs.Sittings.{is_entering, pass_in}
use Rattle.feature_desk.proofs.Asked.{asks_so}
use Rattle.feature_desk.proofs.Entered.{enters_as, waits}
use Rattle.feature_desk.proofs.Seated.{agrees_so}
use Rattle.feature_desk.proofs.counting.DeskPassCounter.ask.Goals as goal

pub reseat-requires : goal.reseat-requires
reseat-requires g c =
    let t = c.self.inside.ticket in let asked = c.enter-asked.result in let a = c.enter-asked.ensures in let answers = c.answers.ensures in
    let w = waits t c.enter-asked.new.ticket c.args.client.now c.args.kind c.args.moment asked.moment asked.reply asked.place a.same.1 a.same.2 c.number.result c.number.ensures a.makes.0 a.makes.1
    c.self.inside.chair c.self.inside.queued c.self.invariant asked.held c.standing-self-inside.result
    (a.held ∙ (λ i. cond (is_none (set_asked c.args.kind)) (is_of_holding asked.reply) (c.is_hold-held.ensures i))) (c.standing-self-inside.ensures ∙ (λ i. cond (answers i) (c.is_of_queueing.ensures i) c.self.inside.queued)) in
    record { own = ap (λ (s : Sitter). s.seat.table) c.self.view_is ∙ c.requires.of.seats; sits = w.sits; way = w.way; stays = w.stays }

pub invariant_of-self : goal.invariant_of-self
invariant_of-self g c =
    let t = c.self.inside.ticket in let asked = c.enter-asked.result in let a = c.enter-asked.ensures in let answers = c.answers.ensures in let r = c.reseat.ensures in
    agrees_so c.enter-asked.new.ticket c.self.inside.chair c.reseat.new.chair c.standing-self-inside.result asked c.args.desk.now.seats
    (waits t c.enter-asked.new.ticket c.args.client.now c.args.kind c.args.moment asked.moment asked.reply asked.place a.same.1 a.same.2 c.number.result c.number.ensures a.makes.0 a.makes.1
    c.self.inside.chair c.self.inside.queued c.self.invariant asked.held c.standing-self-inside.result
    (a.held ∙ (λ i. cond (is_none (set_asked c.args.kind)) (is_of_holding asked.reply) (c.is_hold-held.ensures i))) (c.standing-self-inside.ensures ∙ (λ i. cond (answers i) (c.is_of_queueing.ensures i) c.self.inside.queued)))
    (ap (λ (s : Sitter). s.seat.table) c.self.view_is ∙ c.requires.of.seats) r.own r.sits r.matched r.low

pub returns-clause-asks : goal.returns-clause-asks
returns-clause-asks g c =
    let t = c.self.inside.ticket in let u = c.enter-asked.new.ticket in let asked = c.enter-asked.result in let a = c.enter-asked.ensures in let answers = c.answers.ensures in let r = c.reseat.ensures in
    let same = c.self.view_is in
    asks_so c.args.self.now (record { sitter = record { ticket = u; seat = pass_in c.self.inside.chair }; asked = asked; entering = is_entering c.self.inside.chair })
    (record { ticket = u; seat = pass_in c.reseat.new.chair }) c.args.kind c.args.client.now c.args.moment asked refl
    (enters_as t u c.args.client.now c.args.kind c.args.moment asked.moment asked.reply asked.place a.same.1 a.same.2 c.number.result c.number.ensures a.makes.0 a.makes.1
    c.self.inside.chair c.self.inside.queued c.self.invariant asked.held c.standing-self-inside.result
    (a.held ∙ (λ i. cond (is_none (set_asked c.args.kind)) (is_of_holding asked.reply) (c.is_hold-held.ensures i))) (c.standing-self-inside.ensures ∙ (λ i. cond (answers i) (c.is_of_queueing.ensures i) c.self.inside.queued))
    c.args.self.now same)
    (ap (λ (s : Sitter). s.seat) same) (subst (λ (s : Sitter). Extends s.ticket.known.list u.known.list) same a.known)
    (subst (λ (s : Sitter). (s.ticket.board ≤ u.board) × (u.board ≤ length u.seen)) same a.board)
    (record { ticket = refl; seat = r.matched; goes = r.goes })
