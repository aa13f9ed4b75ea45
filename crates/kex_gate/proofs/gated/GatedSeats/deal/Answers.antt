use Rattle.std.proofs.Common.{◌≡◌, arith, ap, ◌∙◌, sym, subst, slice_get, Some, EachIndex}
use Rattle.pass_roles.proofs.Members.{each_more}
use Rattle.kex_gate.specs.Passes.{fresh}
use Rattle.kex_gate.proofs.Start.{splits_at, rests_new, came_new, row_first, row_on, dealt_on, is_fresh, sessions_is}
use Rattle.kex_gate.proofs.gated.GatedSeats.deal.Goals as goal

pub split_seat-other-requires : goal.split_seat-other-requires
split_seat-other-requires c = let i = c.loop-number.invariant in splits_at _ _ _ _ _ c.args.self.now _ _ _ c.loop-number._number c.self.invariant c.self.view_is i.0 i.1 c.loop-number-test.true

pub invariant_of-push_reserved : goal.invariant_of-push_reserved
invariant_of-push_reserved c = let i = c.loop-number.invariant in let n = sessions_is _ _ _ _ _ c.args.self.now c.self.invariant c.self.view_is in let inside = c.loop-number-test.true in let l = i.6 in let ok = c.loop-number.own.ok.0 in
    rests_new _ _ c.args.self.now c.loop-number._number _ (came_new _ _ c.args.self.now _ i.1 c.split_seat-other.ensures.4) (row_first _ _ _ _ i.5 (let m = n.0 in omega arith) c.remove-pass.ensures.value)

pub loop-number-preserved : goal.loop-number-preserved
loop-number-preserved c = let i = c.loop-number.invariant in let e = c.split_seat-other.ensures in let q = c.push_reserved.ensures in let gate = c.args.self.now in (
  e.0 ∙ i.0,
  dealt_on _ _ _ _ i.1 e.2,
  (let l = i.2 in let k = q.len in omega arith),
  (let l = i.3 in let k = q.capacity in omega arith),
  subst (λ z. EachIndex z (λ j. slice_get z j ≡ Some (fresh gate j))) (sym q.items)
      (each_more (fresh gate) c.loop-number.outs.items _ i.4 (is_fresh _ _ gate _ (came_new _ _ gate _ i.1 e.4) (e.3 ∙ i.0) ∙ ap (fresh gate) (sym i.2 ∙ c.loop-number.outs.ok.0))),
  row_on _ _ _ _ i.5 c.remove-pass.ensures.by_index.2,
  (let l = i.6 in let k = c.remove-pass.ensures.len in omega arith),
)
