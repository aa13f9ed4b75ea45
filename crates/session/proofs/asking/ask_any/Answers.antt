use Rattle.std.proofs.Common.{◌≡◌, ◌∙◌, ap, [], Bor, refl, subst, sym, Option, length}
use Rattle.std.specs.Option.{option_copied}
use Rattle.lic_types.specs.declared.client.Client.{Client}
use Rattle.session.specs.Table.{AsksAny, AsksEach, desks}
use Rattle.session.proofs.EachAsked.{only_none}
use Rattle.session.proofs.asking.ask_any.Goals as goal

pub returns-in-None-clause-asked : goal.returns-in-None-clause-asked
returns-in-None-clause-asked g c = λ o before agrees. (
  [],
  only_none g.C.Counter.account g.K.Clock.gave c.args.pass.now c.args.clock.now,
  subst (λ (client : Option (Bor Client)). AsksAny c.args.whom o before (option_copied client) c.args.kind []) (sym c.in-None.is) refl,
)

pub returns-in-Some-clause-asked : goal.returns-in-Some-clause-asked
returns-in-Some-clause-asked g c = λ o before agrees.
    let r = c.ask_each.ensures.asked o before agrees in
    let all : length c.args.pass.now ≡ length o.pools = c.requires.of.long ∙ sym (ap length agrees.pools) in (
      r.0,
      r.1.only,
      subst (λ (client : Option (Bor Client)). AsksAny c.args.whom o before (option_copied client) c.args.kind r.0) (sym c.in-Some.is)
          (subst (λ n. AsksEach c.in-Some.client.now c.args.kind (desks c.args.whom o before n) r.0) all r.1.each),
    )
