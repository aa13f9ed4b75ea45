use Rattle.std.proofs.Common.{◌<◌, refl, sym, ap, ◌∙◌, subst}
use Rattle.kex_words.specs.Passes.{TableNet}
use Rattle.kex_core.specs.Nets.{Valid}
use Rattle.kex_core.specs.Shapes.{Sheet, plan}
use Rattle.kex_words.specs.Sorts.{pass_in_back}
use Rattle.kex_words.specs.declared.passes.Back.{Back}
use Rattle.kex_words.specs.declared.passes.Back.TheVariants.{Leaving}
use Rattle.seat_names.specs.Ways.{back_at}
use Rattle.seat_names.proofs.Backing.{Backing, backing_first, backing_on, backing_falls}
use Rattle.seat_names.proofs.seats.Seats.leave.Goals as goal

pub loop-back-init : goal.loop-back-init
loop-back-init c = let v = subst (λ (z : Sheet). Valid (plan z)) (c.net.ensures ∙ ap (λ (z : TableNet). z.net) c.self.view_is) c.laws.ensures.valid in
    backing_first c.args.self.now v c.args.hold.pass c.args.hold.card.number _ c.requires.own c.card_in-back.ensures.place c.card_in-back.ensures.moved c.card_in-back.ensures.kind

pub loop-back-preserved : goal.loop-back-preserved
loop-back-preserved c = let v = subst (λ (z : Sheet). Valid (plan z)) (c.net.ensures ∙ ap (λ (z : TableNet). z.net) c.self.view_is) c.laws.ensures.valid in
    let so = subst (Backing c.args.self.now c.args.hold.pass) c.in-Leaving.is c.loop-back.invariant in
    backing_on c.args.self.now v c.args.hold.pass (Leaving c.in-Leaving.leaving) _ so refl c.retreat-back.ensures.moved c.retreat-back.ensures.kind

pub loop-back-smaller : goal.loop-back-smaller
loop-back-smaller c = let v = subst (λ (z : Sheet). Valid (plan z)) (c.net.ensures ∙ ap (λ (z : TableNet). z.net) c.self.view_is) c.laws.ensures.valid in
    let so = subst (Backing c.args.self.now c.args.hold.pass) c.in-Leaving.is c.loop-back.invariant in
    let h = c.args.hold.pass in let p = plan c.args.self.now.net in
    subst (λ (z : Back). back_at p h.number (pass_in_back c.retreat-back.result).place < back_at p h.number (pass_in_back z).place) (sym c.in-Leaving.is)
    (backing_falls c.args.self.now v h (Leaving c.in-Leaving.leaving) c.retreat-back.result so refl c.retreat-back.ensures.moved)
