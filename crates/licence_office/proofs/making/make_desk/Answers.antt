use Rattle.std.proofs.Common.{ℕ, ◌+◌, ◌*◌, ◌<◌, ◌≤◌, min, sym, subst, ◌∙◌, arith}
use Rattle.licence_office.proofs.Gates.{gate_room, gated_desk, tree_desk}
use Rattle.licence_office.proofs.Sets.{are_sets_of, count_is, width_is}
use Rattle.licence_office.proofs.making.make_desk.Goals as goal

pub make_gated-requires-clause-sets : goal.make_gated-requires-clause-sets
make_gated-requires-clause-sets g c =
    let some = c.requires.sets.0 in
    are_sets_of c.in_ok-rules.rules.items c.args.sets.now c.args.pool.now c.in_ok-rules.ensures.rules (omega (arith, some)) c.requires.sets.1 c.in_ok-rules.ensures.sound

pub make_gated-requires-clause-licences : goal.make_gated-requires-clause-licences
make_gated-requires-clause-licences g c =
    let some = c.requires.sets.0 in
    subst (λ (n : ℕ). 1 ≤ n) (sym (count_is c.in_ok-rules.rules.items c.args.sets.now c.args.pool.now c.in_ok-rules.ensures.rules (omega (arith, some)))) c.requires.count

pub make_gated-requires-clause-room : goal.make_gated-requires-clause-room
make_gated-requires-clause-room g c =
    let some = c.requires.sets.0 in
    subst (λ (n : ℕ). 2 * min n c.args.parties < c.args.parties) (sym (count_is c.in_ok-rules.rules.items c.args.sets.now c.args.pool.now c.in_ok-rules.ensures.rules (omega (arith, some))))
    (gate_room c.args.parties c.args.pool.now.count (sym c.has_gate.ensures ∙ c.if-has_gate.true)).0

pub make_gated-requires-clause-small : goal.make_gated-requires-clause-small
make_gated-requires-clause-small g c =
    let some = c.requires.sets.0 in
    subst (λ (n : ℕ). c.args.parties + min n c.args.parties ≤ 256) (sym (count_is c.in_ok-rules.rules.items c.args.sets.now c.args.pool.now c.in_ok-rules.ensures.rules (omega (arith, some))))
    (gate_room c.args.parties c.args.pool.now.count (sym c.has_gate.ensures ∙ c.if-has_gate.true)).1

pub returns-then-has_gate-clause-desk : goal.returns-then-has_gate-clause-desk
returns-then-has_gate-clause-desk g c =
    let some = c.requires.sets.0 in
    gated_desk (λ made. made.0) c.args.sets.now c.in_ok-rules.rules.items c.args.pool.now c.args.parties c.make_gated.result c.in_ok-rules.ensures.rules
    (count_is c.in_ok-rules.rules.items c.args.sets.now c.args.pool.now c.in_ok-rules.ensures.rules (omega (arith, some)))
    (sym c.has_gate.ensures ∙ c.if-has_gate.true) c.make_gated.ensures.seats c.make_gated.ensures.net c.make_gated.ensures.law

pub make_many-requires-clause-sets : goal.make_many-requires-clause-sets
make_many-requires-clause-sets g c =
    let some = c.requires.sets.0 in
    are_sets_of c.in_ok-rules.rules.items c.args.sets.now c.args.pool.now c.in_ok-rules.ensures.rules (omega (arith, some)) c.requires.sets.1 c.in_ok-rules.ensures.sound

pub make_many-requires-clause-width : goal.make_many-requires-clause-width
make_many-requires-clause-width g c =
    let some = c.requires.sets.0 in
    width_is c.in_ok-rules.rules.items c.args.sets.now c.args.pool.now c.in_ok-net.net.width c.in_ok-net.net.parties c.args.parties c.in_ok-rules.ensures.rules (omega (arith, some)) c.in_ok-net.ensures.width c.in_ok-net.ensures.parties

pub returns-clause-desk : goal.returns-clause-desk
returns-clause-desk g c =
    tree_desk (λ made. made.0) c.args.sets.now c.in_ok-rules.rules.items c.args.pool.now c.args.parties c.in_ok-net.net c.make_many.result c.in_ok-rules.ensures.rules
    (sym c.has_gate.ensures ∙ c.if-has_gate.false) c.in_ok-net.ensures c.make_many.ensures.net c.make_many.ensures.gate c.make_many.ensures.law
