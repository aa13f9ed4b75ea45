use Rattle.std.proofs.Common.{◌≡◌, ◌∙◌, List, Vec, Global, get_or, length, map, sym, subst, arith}
use Rattle.stat_board.specs.Fronts.{the_first}
use Rattle.feature_desk.specs.Sitters.{DeskView, Sitter, account_of, newcomer}
use Rattle.licence_office.specs.Offices.{AreDealt}
use Rattle.session.specs.Session.{setup_of}
use Rattle.session_outside.specs.Talk.{Follows}
use Rattle.door_worker.specs.Visits.{Visit}
use Rattle.trial_rounds.specs.Rounds.{trial_setup}
use Rattle.trial_run.specs.Fresh.{AreFresh}
use Rattle.trial_run.specs.Tried.{kept_of}
use Rattle.trial_run.proofs.Granting.{tried}
use Rattle.trial_run.proofs.TrialOffice.{has_sets, one_pool, held_as, same_setup}
use Rattle.trial_run.proofs.opening.try_out.Goals as goal

pub hold-requires-clause-one : goal.hold-requires-clause-one
hold-requires-clause-one g c κs within =
    let e = c.in_ok-office.ensures in
    one_pool c.in_ok-office.office.view c.args.clients c.args.seats e.view.0 e.view.1 e.desk

pub hold-requires-clause-sets : goal.hold-requires-clause-sets
hold-requires-clause-sets g c κs within =
    let e = c.in_ok-office.ensures in
    has_sets c.in_ok-office.office.view c.args.clients c.args.seats e.view.0 e.view.1 e.desk

pub hold-requires-clause-dealt : goal.hold-requires-clause-dealt
hold-requires-clause-dealt g c κs within =
    subst (λ (ps : List (Vec Sitter Global)). AreDealt c.in_ok-office.office.view.desks ps) (sym c.seat.ensures.counters) c.in_ok-office.ensures.counters.1

pub returns-clause-tried : goal.returns-clause-tried
returns-clause-tried g c =
    let e = c.in_ok-office.ensures in
    let o = c.in_ok-office.office.view in
    let clients = c.args.clients in
    let seats = c.args.seats in
    let rounds = c.args.rounds in
    let players = c.seat.new.players in
    let one : length o.desks ≡ 1 = c.in_ok-hold.ensures.paired ∙ one_pool o clients seats e.view.0 e.view.1 e.desk in
    let d : DeskView = the_first o.desks (omega arith) in
    let all : length players.items ≡ clients = sym players.ok.0 ∙ c.seat.ensures.count ∙ e.counters.0 in
    let fresh = subst (λ links. AreFresh rounds links) (sym c.seat.ensures.links) c.in_ok-links.ensures.fresh in
    let kept : List Visit → Type 0 = λ sessions. Follows g.T.Site.keeps c.args.site.now c.hold.new.site (kept_of (g.T.Site.made c.args.site.now) sessions) in
    let held = held_as (get_or o.desks 0 d) (λ p. setup_of account_of o (map (λ (desk : DeskView). newcomer desk p) o.desks)) (trial_setup seats) (length players.items) clients rounds kept
    c.in_ok-hold.field-0 all (same_setup o clients seats e.view.0 e.view.1 e.desk one) (c.in_ok-hold.ensures.held rounds d fresh) in (
      get_or o.desks 0 d,
      e.desk d,
      tried (get_or o.desks 0 d) seats clients rounds kept c.in_ok-hold.field-0 (e.desk d) (omega (arith, c.requires.seats.1)) c.requires.clients.1 c.requires.rounds.0 c.requires.rounds.1 held,
    )
