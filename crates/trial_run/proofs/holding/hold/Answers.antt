use Rattle.std.proofs.Common.{◌∙◌, All, length, get_or, map, ap, sym, subst}
use Rattle.std.proofs.lemmas.List.{append-nil, length-map}
use Rattle.feature_desk.specs.Sitters.{DeskView, account_of, newcomer}
use Rattle.licence_office.specs.Offices.{AreAt, AreDealt}
use Rattle.session.specs.Session.{setup_of}
use Rattle.session_outside.specs.Talk.{Follows}
use Rattle.daemon_run.specs.Gives.{kept_from, no_sessions, passes_of}
use Rattle.daemon_run.specs.declared.worker.Worker.{Worker}
use Rattle.daemon_run.proofs.Dealing.{all_parts, dealt_at}
use Rattle.daemon_run.proofs.Splitting.{whole_in}
use Rattle.daemon_run.proofs.Unserved.{all_unused}
use Rattle.trial_run.specs.Fresh.{AreFresh}
use Rattle.trial_run.specs.Played.{counters_of, links_of}
use Rattle.trial_run.specs.Tried.{kept_of}
use Rattle.trial_run.specs.declared.player.Player.{Player}
use Rattle.trial_run.proofs.Trying.{dealt_player, held_kept}
use Rattle.trial_run.proofs.holding.hold.Goals as goal

pub give_back-requires-clause-lent : goal.give_back-requires-clause-lent
give_back-requires-clause-lent g c κs within = λ k d l. (c.post_all.ensures.started k d l).unused.none_lent

pub close-trial-requires-clause-ready : goal.close-trial-requires-clause-ready
close-trial-requires-clause-ready g c =
    let desks = c.args.office.view.desks in
    subst (λ ps. All (λ (p : Player). AreAt desks p.counters.items) ps) (sym c.give_back.ensures.passes)
    (all_parts (λ (p : Player). AreAt desks p.counters.items) (passes_of c.post_all.new.workers.items) c.post_all.new.passes.items c.args.players.items c.post_all.ensures.passes
    (λ k d l. dealt_at desks k (get_or c.args.players.items k d).counters.items (dealt_player desks c.args.players.items c.requires.dealt k d l)))

pub hold_all-requires-clause-dealt : goal.hold_all-requires-clause-dealt
hold_all-requires-clause-dealt g c κs within =
    subst (λ ps. AreDealt c.args.office.view.desks (counters_of ps)) (sym (whole_in (passes_of c.post_all.new.workers.items) c.post_all.new.passes.items c.args.players.items c.post_all.ensures.passes c.in-Ok.ensures.all)) c.requires.dealt

pub hold_all-requires-clause-unused : goal.hold_all-requires-clause-unused
hold_all-requires-clause-unused g c κs within = λ k d l. (c.post_all.ensures.started k d l).unused

pub returns-clause-held : goal.returns-clause-held
returns-clause-held g c = λ rounds d fresh.
    let o = c.args.office.view in
    let base = g.T.Site.made c.args.site.now in
    let ws = c.post_all.new.workers.items in
    let whole = whole_in (passes_of ws) c.post_all.new.passes.items c.args.players.items c.post_all.ensures.passes c.in-Ok.ensures.all in
    held_kept (get_or o.desks 0 d) (λ p. setup_of account_of o (map (λ (desk : DeskView). newcomer desk p) o.desks)) (length ws) (length c.args.players.items) rounds
    (λ sessions. Follows g.T.Site.keeps c.post_all.new.site c.hold_all.new.site (kept_of base sessions))
    (λ sessions. Follows g.T.Site.keeps c.args.site.now c.hold_all.new.site (kept_of base sessions))
    c.hold_all.result
    (sym (length-map ws (λ (w : Worker Player g.row.T-Door.Denot g.row.T-Clock.Denot g.row.T-Bell.Denot g.row.T-Gate.Denot). w.pass)) ∙ ap length whole)
    (λ sessions k. λ told t. k told (subst (λ ts. g.T.Site.keeps c.post_all.new.site ts) (append-nil told) (c.post_all.ensures.keeps told t)))
    (c.hold_all.ensures.held base rounds d (λ i e l. (c.post_all.ensures.started i e l).number_is) (subst (λ ps. AreFresh rounds (links_of ps)) (sym whole) fresh))

pub returns-in_default-clause-unheld : goal.returns-in_default-clause-unheld
returns-in_default-clause-unheld g c =
    let workers = c.post_all.new.workers.items in
    let silent = no_sessions (length workers) in
    let unused = all_unused g.T.Door.Door.talks g.T.Clock.Clock.gave g.T.Door.Door.faults g.T.Door.Door.quiets g.T.Door.Door.fails g.T.Door.Door.lent g.T.Bell.Bell.tolls g.T.Bell.Bell.rings
    (g.T.Site.made c.args.site.now) workers c.post_all.ensures.started in (
      length workers,
      λ told t.
          c.give_back.ensures.keeps told (kept_from (g.T.Site.made c.args.site.now) silent)
          (subst (λ ts. g.T.Site.keeps c.post_all.new.site ts) (append-nil told) (c.post_all.ensures.keeps told t))
          unused,
    )
