use Rattle.std.proofs.Common.{subst, sym}
use Rattle.options_machine.specs.declared.effect.Effect.{Effect}
use Rattle.options_machine.specs.declared.reply.Reply.{Reply}
use Rattle.options_machine.specs.State.{State, place}
use Rattle.options_machine.specs.Apply.{Fits}
use Rattle.options_machine.proofs.Steps.{answer_fits, place_is}
use Rattle.policy.specs.Books.{Book, rules_now}
use Rattle.policy.proofs.answers.step.Goals as goal

pub apply-requires-clause-fits : goal.apply-requires-clause-fits
apply-requires-clause-fits g c =
    let b : Book = g.B.Rows.seen c.settle.new.self in
    let s : State = b.state in
    subst (λ (x : Reply × Effect). Fits (rules_now b) s c.args.request.now.party c.args.request.now.client x.1) (sym c.answer_of-reply.ensures)
    (answer_fits (rules_now b) s c.args.request.now.party c.args.request.now.client c.in-Answer.ask (place s c.args.request.now.party) (place_is s c.args.request.now.party))
