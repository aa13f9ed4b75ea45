use Rattle.std.proofs.Common.{◌≡◌, sym, subst, slice_index_or, vec_items}
use mathlib.Core.List.{[], ◌∷◌}
use denote.Exit.{yes}
use denote.Param.Send.{sendable, shr_sync}
use Rattle.feature_desk.specs.Sitters.{IsOf, account_of}
use Rattle.feature_desk.proofs.Crossing.{closure_sync, desk_sync}
use Rattle.office_view.proofs.OfficeView.TheSendSync as view
use Rattle.session.specs.Pass.{AreIdle, AreOf}
use Rattle.daemon_run.specs.Work.{Worked}
use Rattle.daemon_run.proofs.running.run_slice.Goals as goal

pub for_each_mut-requires-sync-F : goal.for_each_mut-requires-sync-F
for_each_mut-requires-sync-F g c κs within = closure_sync 2 _ yes _ (_ ∷ _ ∷ []) (shr_sync _ _ _ c.type_bounds.sync-R, (shr_sync _ _ _ (view.the_sync _ desk_sync), tt))

pub for_each_mut-requires-clause-accepts : goal.for_each_mut-requires-clause-accepts
for_each_mut-requires-clause-accepts g c κs within = λ i p l e. (
  (
    subst (λ w. AreOf IsOf account_of w.pass.items c.args.office.now) (sym e) (c.requires.of i p.now l),
    subst (λ w. AreIdle account_of w.pass.items) (sym e) (c.requires.idle i p.now l),
    subst (λ w. g.D.Door.fails w.post.door ≡ 0) (sym e) (c.requires.fails i p.now l),
  ),
  search sendable depth 20,
)

pub returns-clause-worked : goal.returns-clause-worked
returns-clause-worked g c = λ i d l.
    let k = (c.for_each_mut.ensures i d l).1 in
    let P = Worked vec_items account_of c.args.office.now g.D.Door.talks g.K.Clock.gave g.D.Door.faults g.D.Door.quiets g.D.Door.fails g.D.Door.lent g.B.Bell.tolls g.B.Bell.rings in
    subst (λ x. P x (slice_index_or c.for_each_mut.new.s i d)) k.argument_is (subst (λ y. P k.argument.now y) k.left k.call.0)
