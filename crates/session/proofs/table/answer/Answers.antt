use Rattle.std.proofs.Common.{◌∙◌, Option, Some, Result, refl, sym, subst}
use Rattle.lic_types.specs.declared.client.Client.{Client}
use Rattle.line_protocol.specs.declared.wire.Wire.{Wire}
use Rattle.line_protocol.specs.declared.wire.WireFault.{WireFault}
use Rattle.session.specs.Table.{Answers, AsksNoSet, Does, Meets, Obeys, input_of}
use Rattle.session.specs.declared.asked.Input.{Input}
use Rattle.session.proofs.Steps.{no_set_asked}
use Rattle.session.proofs.table.answer.Goals as goal

pub obey-requires-clause-fits : goal.obey-requires-clause-fits
obey-requires-clause-fits g c = subst (λ (i : Input). AsksNoSet i) (sym c.input_of-input.ensures) (no_set_asked c.in-Ok.request)

pub returns-in-None-clause-answered : goal.returns-in-None-clause-answered
returns-in-None-clause-answered g c = λ o before agrees.
    let l = c.meet.ensures.met o before agrees in (
      l.0,
      l.1,
      subst (λ (r : Result Wire WireFault). Answers o before c.args.client.now r l.0 c.meet.new.client c.meet.result) (sym c.in-Ok.is ∙ c.read_request.ensures)
          (subst (λ (client : Option Client). Obeys o before client (input_of c.in-Ok.request) l.0 c.meet.new.client c.meet.result) (sym c.in-None.is)
          (subst (λ (i : Input). Meets o before i l.0 c.meet.new.client c.meet.result) c.input_of-input.ensures l.2)),
    )

pub returns-in-Some-clause-answered : goal.returns-in-Some-clause-answered
returns-in-Some-clause-answered g c = λ o before agrees.
    let l = c.obey.ensures.done o before agrees in (
      l.0,
      l.1,
      subst (λ (r : Result Wire WireFault). Answers o before c.args.client.now r l.0 (Some c.in-Some.known) c.obey.result) (sym c.in-Ok.is ∙ c.read_request.ensures)
          (subst (λ (client : Option Client). Obeys o before client (input_of c.in-Ok.request) l.0 (Some c.in-Some.known) c.obey.result) (sym c.in-Some.is)
          (refl, subst (λ (i : Input). Does o before c.in-Some.known i l.0 c.obey.result) c.input_of-input.ensures l.2)),
    )
