use Rattle.std.proofs.Common.{sym, ap, ◌∙◌, subst}
use Rattle.kex_words.specs.Passes.{TableNet}
use Rattle.kex_core.specs.Nets.{Valid}
use Rattle.kex_core.specs.Shapes.{Sheet, plan}
use Rattle.seat_names.proofs.Testing.{testing_first, testing_on, testing_falls, testing_end}
use Rattle.seat_names.proofs.seats.Seats.test.Goals as goal

pub loop-further-init : goal.loop-further-init
loop-further-init c = testing_first c.args.self.now c.args.naming c.requires.own

pub loop-further-preserved : goal.loop-further-preserved
loop-further-preserved c = let d = c.in-Naming.ensures.due in let v = subst (λ (z : Sheet). Valid (plan z)) (c.net.ensures ∙ ap (λ (z : TableNet). z.net) c.self.view_is) c.laws.ensures.valid in
    testing_on c.args.self.now v _ _ _ c.loop-further.invariant d.0 d.1 c.in-Naming.ensures.moved (sym c.in-Naming.ensures.kind)

pub loop-further-smaller : goal.loop-further-smaller
loop-further-smaller c = let d = c.in-Naming.ensures.due in let v = subst (λ (z : Sheet). Valid (plan z)) (c.net.ensures ∙ ap (λ (z : TableNet). z.net) c.self.view_is) c.laws.ensures.valid in
    testing_falls c.args.self.now v _ _ _ c.loop-further.invariant d.0 d.1 c.in-Naming.ensures.moved (sym c.in-Naming.ensures.kind)

pub returns-in-Named-clause-moved : goal.returns-in-Named-clause-moved
returns-in-Named-clause-moved c = let d = c.in-Named.ensures.due in let v = subst (λ (z : Sheet). Valid (plan z)) (c.net.ensures ∙ ap (λ (z : TableNet). z.net) c.self.view_is) c.laws.ensures.valid in
    testing_end c.args.self.now v _ _ _ c.loop-further.invariant d.0 d.1 c.in-Named.ensures.moved
