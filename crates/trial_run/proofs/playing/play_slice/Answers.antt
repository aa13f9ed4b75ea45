use mathlib.Core.List.{[], ◌∷◌}
use denote.Exit.{yes}
use denote.Param.Send.{shr_sync}
use Rattle.std.proofs.Common.{sym, subst, slice_index_or}
use Rattle.feature_desk.specs.Sitters.{IsOf, account_of}
use Rattle.feature_desk.proofs.Crossing.{closure_sync, desk_sync}
use Rattle.office_view.proofs.OfficeView.TheSendSync as view
use Rattle.session.specs.Pass.{AreIdle, AreOf}
use Rattle.trial_run.specs.Played.{Played}
use Rattle.trial_run.proofs.playing.play_slice.Goals as goal

pub for_each_mut-requires-sync-F : goal.for_each_mut-requires-sync-F
for_each_mut-requires-sync-F g c κs within = closure_sync 2 _ yes _ (_ ∷ _ ∷ []) (shr_sync _ _ _ c.type_bounds.sync-R, (shr_sync _ _ _ (view.the_sync _ desk_sync), tt))

pub for_each_mut-requires-clause-accepts : goal.for_each_mut-requires-clause-accepts
for_each_mut-requires-clause-accepts g c κs within = λ i p l e. (
  subst (λ w. AreOf IsOf account_of w.pass.counters.items c.args.office.now) (sym e) (c.requires.of i p.now l),
  subst (λ w. AreIdle account_of w.pass.counters.items) (sym e) (c.requires.idle i p.now l),
)

pub returns-clause-played : goal.returns-clause-played
returns-clause-played g c = λ i d l.
    let k = (c.for_each_mut.ensures i d l).1 in
    let P = Played account_of c.args.office.now g.K.Clock.gave in
    subst (λ x. P x (slice_index_or c.for_each_mut.new.s i d)) k.argument_is (subst (λ y. P k.argument.now y) k.left k.call.0)
