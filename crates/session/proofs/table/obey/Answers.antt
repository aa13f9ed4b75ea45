use Rattle.std.proofs.Common.{sym, subst}
use Rattle.session.specs.Table.{AsksNoSet, Does}
use Rattle.session.specs.declared.asked.Input.{Input}
use Rattle.session.proofs.table.obey.Goals as goal

pub serve_feature-requires-clause-fits : goal.serve_feature-requires-clause-fits
serve_feature-requires-clause-fits g c = subst (λ (i : Input). AsksNoSet i) c.in-Ask.is c.requires.fits

pub returns-in-Ask-clause-done : goal.returns-in-Ask-clause-done
returns-in-Ask-clause-done g c = λ o before agrees.
    let l = c.serve_feature.ensures.served o before agrees in
    (l.0, l.1, subst (λ (i : Input). Does o before c.args.client.now i l.0 c.serve_feature.result) (sym c.in-Ask.is) l.2)

pub returns-in-Glance-clause-done : goal.returns-in-Glance-clause-done
returns-in-Glance-clause-done g c = λ o before agrees.
    let l = c.show.ensures.shown o before agrees in
    (l.0, l.1, subst (λ (i : Input). Does o before c.args.client.now i l.0 c.show.result) (sym c.in-Glance.is) l.2)

pub returns-in-Reread-clause-done : goal.returns-in-Reread-clause-done
returns-in-Reread-clause-done g c = λ o before agrees.
    let l = c.reread.ensures.reread o before agrees in
    (l.0, l.1, subst (λ (i : Input). Does o before c.args.client.now i l.0 c.reread.result) (sym c.in-Reread.is) l.2)

pub returns-in-Quit-clause-done : goal.returns-in-Quit-clause-done
returns-in-Quit-clause-done g c = λ o before agrees.
    let l = c.leave.ensures.left o before agrees in
    (l.0, l.1, subst (λ (i : Input). Does o before c.args.client.now i l.0 c.leave.result) (sym c.in-Quit.is) l.2)

pub returns-in-Shutdown-clause-done : goal.returns-in-Shutdown-clause-done
returns-in-Shutdown-clause-done g c = λ o before agrees.
    let l = c.shut_down.ensures.down o before agrees in
    (l.0, l.1, subst (λ (i : Input). Does o before c.args.client.now i l.0 c.shut_down.result) (sym c.in-Shutdown.is) l.2)
