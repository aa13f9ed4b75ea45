use Rattle.std.proofs.Common.{◌≡◌, ◌∙◌, Some, None, ap, sym, subst}
use Rattle.lic_types.specs.declared.client.Client.{Client}
use Rattle.line_protocol.specs.declared.told.Told.TheVariants as told
use Rattle.session.specs.Table.{Meets, party_at, Writes}
use Rattle.session.specs.declared.asked.Input.{Input}
use Rattle.session.proofs.Doings.{did_writes}
use Rattle.session.proofs.Steps.{first_is}
use Rattle.session.proofs.table.meet.Goals as goal

pub returns-in-Hello-clause-met : goal.returns-in-Hello-clause-met
returns-in-Hello-clause-met g c = λ o before agrees.
    let w = c.say.ensures in
    let party : c.first_party-party.result ≡ party_at o 0 = c.first_party-party.ensures ∙ first_is g.C.Counter.account c.args.office.now o before c.args.pass.now agrees in
    let written : Writes (told.Welcome (party_at o 0)) None w.0 c.say.result = subst (λ n. Writes (told.Welcome n) None w.0 c.say.result) party w.1 in (
      w.0,
      did_writes g.C.Counter.account g.L.Link.tells g.L.Link.faults g.L.Link.quiets g.K.Clock.gave g.B.Bell.answered g.B.Bell.tolls g.B.Bell.rings (told.Welcome (party_at o 0)) None c.say.result w.0 c.args.pass.now c.args.link.now c.say.new.link c.args.clock.now c.args.bell.now written w.2 w.3,
      subst (λ (i : Input). Meets o before i w.0 (Some c.client.result) c.say.result) (sym c.in-Hello.is) (ap (λ (who : Client). Some who) c.client.ensures, written),
    )

pub returns-in-Quit-clause-met : goal.returns-in-Quit-clause-met
returns-in-Quit-clause-met g c = λ o before agrees.
    let l = c.leave.ensures.left o before agrees in (
      l.0,
      l.1,
      subst (λ (i : Input). Meets o before i l.0 c.args.client.now c.leave.result) (sym c.in-Quit.is)
          (c.requires.stranger, l.2),
    )

pub returns-in-Shutdown-clause-met : goal.returns-in-Shutdown-clause-met
returns-in-Shutdown-clause-met g c = λ o before agrees.
    let l = c.shut_down.ensures.down o before agrees in (
      l.0,
      l.1,
      subst (λ (i : Input). Meets o before i l.0 c.args.client.now c.shut_down.result) (sym c.in-Shutdown.is)
          (c.requires.stranger, l.2),
    )
