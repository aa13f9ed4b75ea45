use Rattle.std.proofs.Common.{◌∙◌, cond}
use Rattle.std.specs.Option.{is_none}
use Rattle.options_machine.specs.Own.{is_of_holding}
use Rattle.options_machine.specs.Step.{set_asked}
use Rattle.feature_desk.proofs.Entered.{enters_as, waits}
use Rattle.feature_desk.proofs.desk.Desk.enter_book.Goals as goal

pub invariant_of-result : goal.invariant_of-result
invariant_of-result g c =
    let t = c.pass.inside.ticket in let asked = c.enter-asked.result in let a = c.enter-asked.ensures in let answers = c.answers.ensures in
    waits t c.enter-asked.new.ticket c.args.client.now c.args.kind c.args.moment asked.moment asked.reply asked.place a.same.1 a.same.2 c.number.result c.number.ensures a.makes.0 a.makes.1
    c.pass.inside.chair c.pass.inside.queued c.pass.invariant asked.held c.standing-queued.result
    (a.held ∙ (λ i. cond (is_none (set_asked c.args.kind)) (is_of_holding asked.reply) (c.is_hold.ensures i))) (c.standing-queued.ensures ∙ (λ i. cond (answers i) (c.is_of_queueing.ensures i) c.pass.inside.queued))

pub returns-clause-entry : goal.returns-clause-entry
returns-clause-entry g c =
    let t = c.pass.inside.ticket in let asked = c.enter-asked.result in let a = c.enter-asked.ensures in let answers = c.answers.ensures in
    enters_as t c.enter-asked.new.ticket c.args.client.now c.args.kind c.args.moment asked.moment asked.reply asked.place a.same.1 a.same.2 c.number.result c.number.ensures a.makes.0 a.makes.1
    c.pass.inside.chair c.pass.inside.queued c.pass.invariant asked.held c.standing-queued.result
    (a.held ∙ (λ i. cond (is_none (set_asked c.args.kind)) (is_of_holding asked.reply) (c.is_hold.ensures i))) (c.standing-queued.ensures ∙ (λ i. cond (answers i) (c.is_of_queueing.ensures i) c.pass.inside.queued))
    c.args.pass c.pass.view_is
