use Rattle.std.proofs.Common.{◌≡◌, refl, arith, ap, ◌∙◌, sym, subst, slice_get, Some, EachIndex}
use Rattle.turn_lock.specs.Passes.{unused_lock_pass}
use Rattle.turn_lock.proofs.Split.{deals}
use Rattle.pass_roles.proofs.Members.{each_more}
use Rattle.turn_lock.proofs.Seats.{dealt_on, came_new, is_pass, badge_of}
use Rattle.turn_lock.proofs.turns.Turns.deal.Goals as goal

pub split_seat-other-requires : goal.split_seat-other-requires
split_seat-other-requires g c = let i = c.loop-number.invariant in let inv = c.self.invariant in let inside = c.loop-number-test.true in (
  i.0 ∙ sym (ap (λ z. z.id.table) c.self.view_is),
  omega arith,
  deals _ _ _ _ _ _ _ _ c.loop-number.number (ap (λ m. m.0.role) i.1) (omega arith),
)

pub loop-number-preserved : goal.loop-number-preserved
loop-number-preserved g c = let i = c.loop-number.invariant in let e = c.split_seat-other.ensures in let q = c.push_reserved.ensures in let lock = c.args.self.now in (
  e.0 ∙ i.0,
  dealt_on _ _ _ _ i.1 e.2,
  omega arith,
  omega arith,
  subst (λ z. EachIndex z (λ j. slice_get z j ≡ Some (unused_lock_pass lock j))) (sym q.items)
      (each_more (unused_lock_pass lock) c.loop-number.passes.items _ i.4
      (is_pass _ _ _ _ (unused_lock_pass lock c.loop-number.number) (badge_of _ _ (unused_lock_pass lock c.loop-number.number) (came_new _ _ _ lock.id _ i.1 e.4) c.into_badge.ensures.2) (λ k. record { table = (c.into_badge.ensures.0 ∙ (e.3 ∙ i.0)) k; parties = ap (λ z. z.id.parties) c.self.view_is k }) refl
      ∙ ap (unused_lock_pass lock) (sym i.2 ∙ c.loop-number.passes.ok.0))),
)
