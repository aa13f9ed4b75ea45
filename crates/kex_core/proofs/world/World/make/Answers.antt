use Rattle.std.proofs.Common.{◌≡◌, ◌-◌, refl, subst, arith}
use Rattle.kex_core.specs.Worlds.{opening}
use Rattle.kex_core.specs.Shapes.{plan, IsNet, IsWorld, machine_of}
use Rattle.kex_core.proofs.Openings.{opening_world}
use Rattle.kex_core.proofs.world.World.make.Goals as goal

whole : (c : goal.In_ok-cards) → IsWorld (record { net = c.args.net; places = c.in_ok-places.places.items; counters = c.in_ok-counters.counters.items; spin_words = c.in_ok-spin_words.spin_words.items; bits = c.in_ok-bits.bits.items; cards = c.in_ok-cards.cards.items })
    × (machine_of c.in_ok-places.places.items c.in_ok-counters.counters.items c.in_ok-spin_words.spin_words.items c.in_ok-bits.bits.items c.in_ok-cards.cards.items ≡ opening (plan c.args.net))
whole c =
    let net : IsNet c.args.net = subst IsNet c.net.view_is c.net.invariant in
    let wide = net.sized.wide in
    opening_world c.args.net c.parties.result c.stages-stages.result (c.width-width.result - 1) c.width-width.result
    c.in_ok-places.places.items c.in_ok-counters.counters.items c.in_ok-spin_words.spin_words.items c.in_ok-bits.bits.items c.in_ok-cards.cards.items net
    c.parties.ensures c.stages-stages.ensures.value (let w = c.width-width.ensures in omega arith) c.width-width.ensures
    (c.in_ok-places.ensures.items_if_clones_equal (λ y e. e)) c.in_ok-counters.ensures (c.in_ok-spin_words.ensures.items_if_clones_equal (λ y e. e)) (c.in_ok-bits.ensures.items_if_clones_equal (λ y e. e)) (c.in_ok-cards.ensures.items_if_clones_equal (λ y e. e))

pub invariant_of-result : goal.invariant_of-result
invariant_of-result c = (whole c).0

pub returns : goal.returns
returns c = record { net = refl; opening = (whole c).1 }
