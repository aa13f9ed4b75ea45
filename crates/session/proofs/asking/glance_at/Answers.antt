use Rattle.std.proofs.Common.{◌<◌, get_or, sym, refl, subst}
use Rattle.session.proofs.Gaining.{gains_sight}
use Rattle.session.proofs.Setting.{of_set}
use Rattle.session.proofs.asking.glance_at.Goals as goal

pub desk-desk-requires : goal.desk-desk-requires
desk-desk-requires g c = subst (λ n. c.args.i < n) c.requires.of.long c.requires.within

pub glance-requires : goal.glance-requires
glance-requires g c = record { of = subst (λ d. g.C.Counter.is_of (get_or c.args.pass.now c.args.i c.index-pass-i.result) d) (sym c.desk-desk.ensures) (c.requires.of.each c.args.i c.index-pass-i.result c.desk-desk.result.now c.requires.within) }

pub returns-clause-shown : goal.returns-clause-shown
returns-clause-shown g c = (
  record { glance = c.glance.result; list = (g.C.Counter.account c.glance.new.self).board_seen },
  gains_sight g.C.Counter.account c.args.pass.now c.args.i c.index-pass-i.result c.glance.new.self c.glance.result c.requires.within c.glance.ensures.glances,
  refl,
)

pub returns-clause-of : goal.returns-clause-of
returns-clause-of g c =
    of_set c.args.pass.now c.args.i c.glance.new.self c.requires.within g.C.Counter.is_of g.C.Counter.account c.args.office.now c.index-pass-i.result c.requires.of c.glance.ensures.same_desk c.glance.ensures.glances.sets
