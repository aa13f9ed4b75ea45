use Rattle.std.proofs.Common.{◌≡◌, ◌∙◌, ◌<◌, ◌++◌, All, List, Vec, Global, get_or, length, ap, sym, subst, arith, false, vec_items}
use Rattle.std.specs.List.{list_any}
use Rattle.feature_desk.specs.Sitters.{DeskView, IsOf, Sitter, account_of}
use Rattle.licence_office.specs.Offices.{AreAt}
use Rattle.office_view.specs.View.{View}
use Rattle.session.specs.Pass.{AreOf}
use Rattle.daemon_run.specs.Gives.{is_broken, passes_of}
use Rattle.daemon_run.specs.Work.{AllWorked}
use Rattle.daemon_run.specs.declared.worker.Worker.{Worker}
use Rattle.daemon_run.proofs.Dealing.{at_end, dealt_idle, dealt_of, still_logs}
use Rattle.daemon_run.proofs.Ending.{Closed, broken_tells, dealt_each, heard_where_rung, ran, the_pass}
use Rattle.daemon_run.proofs.serving.serve_all.Goals as goal

pub run_audited-workers-requires-clause-of : goal.run_audited-workers-requires-clause-of
run_audited-workers-requires-clause-of g c κs within = λ k d l.
    let o = c.args.office.view in
    let paired = subst (λ (v : View DeskView). length v.desks ≡ length v.pools) c.view-view.ensures c.pair.ensures in
    let pass = (get_or c.args.workers.items k d).pass in
    subst (λ (v : View DeskView). AreOf IsOf account_of pass.items v) (sym c.view-view.ensures)
    (dealt_of o k pass.items paired c.requires.sets (dealt_each o.desks c.args.workers.items c.requires.dealt k d l))

pub run_audited-workers-requires-clause-idle : goal.run_audited-workers-requires-clause-idle
run_audited-workers-requires-clause-idle g c κs within = λ k d l.
    let o = c.args.office.view in
    dealt_idle o.desks k (get_or c.args.workers.items k d).pass.items (dealt_each o.desks c.args.workers.items c.requires.dealt k d l)

pub run_audited-workers-requires-clause-fails : goal.run_audited-workers-requires-clause-fails
run_audited-workers-requires-clause-fails g c κs within = λ k d l. (c.requires.unused k d l).no_fails

pub give_back-requires-clause-lent : goal.give_back-requires-clause-lent
give_back-requires-clause-lent g c κs within = λ k d l.
    let m : k < length c.args.workers.items = subst (λ n. k < n) c.run_audited-workers.ensures.len l in
    (c.run_audited-workers.ensures.worked k d m).lent_is ∙ (c.requires.unused k d m).none_lent

pub close_with_log-end-requires-clause-ready : goal.close_with_log-end-requires-clause-ready
close_with_log-end-requires-clause-ready g c =
    let o = c.args.office.view in
    let ws = c.run_audited-workers.result.0.items in
    let paired = subst (λ (v : View DeskView). length v.desks ≡ length v.pools) c.view-view.ensures c.pair.ensures in
    let e : c.give_back.new.passes.items ≡ passes_of ws = c.give_back.ensures.passes ∙ ap (λ ps. ps ++ passes_of ws) c.requires.empty in
    subst (λ ps. All (λ (v : Vec Sitter Global). AreAt o.desks v.items) ps) (sym e)
    (the_pass (λ (v : Vec Sitter Global). AreAt o.desks v.items) ws
    (λ k d l. at_end o (get_or ws k d).pass.items paired (subst (λ (v : View DeskView). AreOf IsOf account_of (get_or ws k d).pass.items v) c.view-view.ensures (c.run_audited-workers.ensures.of k d l)) (c.run_audited-workers.ensures.idle k d l)))

pub close_with_log-end-requires-clause-logs : goal.close_with_log-end-requires-clause-logs
close_with_log-end-requires-clause-logs g c = still_logs c.args.logs c.run_audited-workers.result.1 c.args.office c.run_audited-workers.ensures.logs.0 c.run_audited-workers.ensures.logs.1 c.requires.logs

pub returns-clause-rung : goal.returns-clause-rung
returns-clause-rung g c = λ none.
    let o = c.args.office.view in
    let ws = c.run_audited-workers.result.0.items in
    let worked = subst (λ (v : View DeskView). AllWorked vec_items account_of v g.T.Door.Door.talks g.T.Clock.Clock.gave g.T.Door.Door.faults g.T.Door.Door.quiets g.T.Door.Door.fails g.T.Door.Door.lent g.T.Bell.Bell.tolls g.T.Bell.Bell.rings c.args.workers.items ws) c.view-view.ensures c.run_audited-workers.ensures.worked in
    let n : list_any (λ (w : Worker (Vec Sitter Global) g.row.T-Door.Denot g.row.T-Clock.Denot g.row.T-Bell.Denot g.row.T-Gate.Denot). is_broken w.end) ws ≡ false = ap (list_any (λ (w : Worker (Vec Sitter Global) g.row.T-Door.Denot g.row.T-Clock.Denot g.row.T-Bell.Denot g.row.T-Gate.Denot). is_broken w.end)) (sym c.as_slice.ensures.value) ∙ sym c.any_broken-broken.ensures ∙ none in (
      c.give_back.ensures.tolls.rises (heard_where_rung o g.T.Door.Door.talks g.T.Clock.Clock.gave g.T.Door.Door.faults g.T.Door.Door.quiets g.T.Door.Door.fails g.T.Door.Door.lent g.T.Bell.Bell.tolls g.T.Bell.Bell.rings c.args.workers.items ws c.run_audited-workers.ensures.len worked c.requires.unused (omega arith) n),
      c.give_back.ensures.broken.stands (sym (broken_tells o g.T.Door.Door.talks g.T.Clock.Clock.gave g.T.Door.Door.faults g.T.Door.Door.quiets g.T.Door.Door.fails g.T.Door.Door.lent g.T.Bell.Bell.tolls g.T.Bell.Bell.rings c.args.workers.items ws c.run_audited-workers.ensures.len worked c.requires.unused) ∙ n),
    )

pub returns-clause-broken : goal.returns-clause-broken
returns-clause-broken g c = λ some.
    let o = c.args.office.view in
    let ws = c.run_audited-workers.result.0.items in
    let worked = subst (λ (v : View DeskView). AllWorked vec_items account_of v g.T.Door.Door.talks g.T.Clock.Clock.gave g.T.Door.Door.faults g.T.Door.Door.quiets g.T.Door.Door.fails g.T.Door.Door.lent g.T.Bell.Bell.tolls g.T.Bell.Bell.rings c.args.workers.items ws) c.view-view.ensures c.run_audited-workers.ensures.worked in
    c.give_back.ensures.broken.rises (sym (broken_tells o g.T.Door.Door.talks g.T.Clock.Clock.gave g.T.Door.Door.faults g.T.Door.Door.quiets g.T.Door.Door.fails g.T.Door.Door.lent g.T.Bell.Bell.tolls g.T.Bell.Bell.rings c.args.workers.items ws c.run_audited-workers.ensures.len worked c.requires.unused)
    ∙ ap (list_any (λ (w : Worker (Vec Sitter Global) g.row.T-Door.Denot g.row.T-Clock.Denot g.row.T-Bell.Denot g.row.T-Gate.Denot). is_broken w.end)) (sym c.as_slice.ensures.value) ∙ sym c.any_broken-broken.ensures ∙ some)

pub returns-clause-ran : goal.returns-clause-ran
returns-clause-ran g c =
    let o = c.args.office.view in
    let ws = c.run_audited-workers.result.0.items in
    let worked = subst (λ (v : View DeskView). AllWorked vec_items account_of v g.T.Door.Door.talks g.T.Clock.Clock.gave g.T.Door.Door.faults g.T.Door.Door.quiets g.T.Door.Door.fails g.T.Door.Door.lent g.T.Bell.Bell.tolls g.T.Bell.Bell.rings c.args.workers.items ws) c.view-view.ensures c.run_audited-workers.ensures.worked in
    let e : c.give_back.new.passes.items ≡ passes_of ws = c.give_back.ensures.passes ∙ ap (λ ps. ps ++ passes_of ws) c.requires.empty in
    ran o g.T.Door.Door.talks g.T.Clock.Clock.gave g.T.Door.Door.faults g.T.Door.Door.quiets g.T.Door.Door.fails g.T.Door.Door.lent g.T.Bell.Bell.tolls g.T.Bell.Bell.rings c.args.workers.items ws c.run_audited-workers.ensures.len worked c.requires.unused (omega arith)
    g.row.T.Denot g.T.Site.keeps c.args.site.now c.give_back.new.site (g.T.Site.rings c.args.site.now) (g.T.Site.rings c.give_back.new.site) c.close_with_log-end.result
    c.requires.dealt c.give_back.ensures.keeps c.give_back.ensures.rings
    (subst (λ (ps : List (Vec Sitter Global)). Closed o.desks ps c.close_with_log-end.result) e c.close_with_log-end.ensures)
