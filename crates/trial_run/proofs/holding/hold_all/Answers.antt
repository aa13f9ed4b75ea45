use Rattle.std.proofs.Common.{◌≡◌, ◌∙◌, ◌<◌, ◌++◌, All, List, get_or, length, ap, sym, subst, arith}
use Rattle.feature_desk.specs.Sitters.{DeskView, IsOf, account_of}
use Rattle.licence_office.specs.Offices.{AreAt}
use Rattle.office_view.specs.View.{View}
use Rattle.session.specs.Pass.{AreOf}
use Rattle.session_outside.specs.Talk.{Follows}
use Rattle.daemon_run.specs.Gives.{passes_of}
use Rattle.daemon_run.proofs.Dealing.{at_end, dealt_idle, dealt_of}
use Rattle.trial_run.specs.Closed.{HasClosed}
use Rattle.trial_run.specs.Played.{AllPlayed, counters_of}
use Rattle.trial_run.specs.declared.player.Player.{Player}
use Rattle.trial_run.proofs.Trying.{dealt_each, held, the_players}
use Rattle.trial_run.proofs.holding.hold_all.Goals as goal

pub play_all-requires-clause-of : goal.play_all-requires-clause-of
play_all-requires-clause-of g c κs within = λ k d l.
    let o = c.args.office.view in
    let paired = subst (λ (v : View DeskView). length v.desks ≡ length v.pools) c.view-view.ensures c.pair.ensures in
    let pass = (get_or c.args.workers.items k d).pass.counters in
    subst (λ (v : View DeskView). AreOf IsOf account_of pass.items v) (sym c.view-view.ensures)
    (dealt_of o k pass.items paired c.requires.sets (dealt_each o.desks c.args.workers.items c.requires.dealt k d l))

pub play_all-requires-clause-idle : goal.play_all-requires-clause-idle
play_all-requires-clause-idle g c κs within = λ k d l.
    let o = c.args.office.view in
    dealt_idle o.desks k (get_or c.args.workers.items k d).pass.counters.items (dealt_each o.desks c.args.workers.items c.requires.dealt k d l)

pub give_back-requires-clause-lent : goal.give_back-requires-clause-lent
give_back-requires-clause-lent g c κs within = λ k d l.
    let m : k < length c.args.workers.items = subst (λ n. k < n) c.play_all.ensures.len l in
    ap g.T.Door.Door.lent (c.play_all.ensures.played k d m).door ∙ (c.requires.unused k d m).none_lent

pub close-requires-clause-one : goal.close-requires-clause-one
close-requires-clause-one g c =
    let paired = subst (λ (v : View DeskView). length v.desks ≡ length v.pools) c.view-view.ensures c.pair.ensures in
    paired ∙ c.requires.one

pub close-requires-clause-ready : goal.close-requires-clause-ready
close-requires-clause-ready g c =
    let o = c.args.office.view in
    let ws = c.play_all.new.workers.items in
    let paired = subst (λ (v : View DeskView). length v.desks ≡ length v.pools) c.view-view.ensures c.pair.ensures in
    let e : c.give_back.new.passes.items ≡ passes_of ws = c.give_back.ensures.passes ∙ ap (λ ps. ps ++ passes_of ws) c.requires.empty.0 in
    subst (λ ps. All (λ (p : Player). AreAt o.desks p.counters.items) ps) (sym e)
    (the_players (λ (p : Player). AreAt o.desks p.counters.items) ws
    (λ k d l. at_end o (get_or ws k d).pass.counters.items paired (subst (λ (v : View DeskView). AreOf IsOf account_of (get_or ws k d).pass.counters.items v) c.view-view.ensures (c.play_all.ensures.of k d l)) (c.play_all.ensures.idle k d l)))

pub returns-clause-held : goal.returns-clause-held
returns-clause-held g c = λ base rounds d numbers fresh.
    let o = c.args.office.view in
    let ws = c.play_all.new.workers.items in
    let paired = subst (λ (v : View DeskView). length v.desks ≡ length v.pools) c.view-view.ensures c.pair.ensures in
    let played = subst (λ (v : View DeskView). AllPlayed account_of v g.T.Clock.Clock.gave c.args.workers.items ws) c.view-view.ensures c.play_all.ensures.played in
    let e : c.give_back.new.passes.items ≡ passes_of ws = c.give_back.ensures.passes ∙ ap (λ ps. ps ++ passes_of ws) c.requires.empty.0 in
    let closed = subst (λ (ps : List Player). HasClosed (get_or o.desks 0 d) (counters_of ps) c.close.result) e (c.close.ensures d) in
    let below : 0 < length o.desks = let n = paired ∙ c.requires.one in omega arith in
    held o g.T.Door.Door.talks g.T.Clock.Clock.gave g.T.Door.Door.faults g.T.Door.Door.quiets g.T.Door.Door.fails g.T.Door.Door.lent g.T.Bell.Bell.tolls g.T.Bell.Bell.rings c.args.workers.items ws c.play_all.ensures.len played c.requires.unused rounds fresh c.requires.dealt (omega arith)
    base d c.close.result (λ ks. Follows g.T.Site.keeps c.args.site.now c.give_back.new.site ks) below numbers (λ new a. λ told t. c.give_back.ensures.keeps told new t a) closed
