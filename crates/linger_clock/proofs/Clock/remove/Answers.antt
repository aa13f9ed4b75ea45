use Rattle.std.proofs.Common.{◌≡◌, None, refl, sym, ◌∙◌}
use Rattle.linger_clock.specs.Deadlines.{until_of}
use Rattle.linger_clock.proofs.Pairs.{without_absent}
use Rattle.linger_clock.proofs.Clock.remove.Goals as goal

pub returns-in_err-until-clause-removed : goal.returns-in_err-until-clause-removed
returns-in_err-until-clause-removed c =
    let none : until_of c.args.owner c.args.self.now.pairs ≡ None = sym c.moment_of.ensures.moment ∙ c.in_err-until.was in
    rw (without_absent c.args.owner c.args.self.now.pairs (rw none refl)) refl
