use Rattle.std.proofs.Common.{sym, subst}
use Rattle.feature_desk.specs.Sitters.{IsOf, Sitter}
use Rattle.desk_rows.proofs.tests.desks.told_glance.Goals as goal

pub returns : goal.returns
returns c =
    let own = c.requires.two in
    c.glance.ensures.same_desk c.args.desk.now (subst (λ (s : Sitter). IsOf s c.args.desk.now) (sym c.hear-2.ensures.same) (record { lock = own.lock; law = own.law; seats = own.seats }))
