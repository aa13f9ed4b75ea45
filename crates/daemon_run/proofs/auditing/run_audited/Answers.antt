use mathlib.Core.List.{[], ◌∷◌}
use denote.Exit.{yes}
use denote.Param.Send.{shr_send}
use Rattle.core.proofs.atomic.AtomicU64.TheSendSync as atomic
use Rattle.std.proofs.Crossing.{Vec-send}
use Rattle.feature_desk.proofs.Crossing.{closure_send, desk_sync}
use Rattle.feature_desk.proofs.passes.DeskPass.TheSendSync as pass
use Rattle.office_view.proofs.OfficeView.TheSendSync as view
use Rattle.daemon_run.proofs.worker.Worker.TheSendSync as worker
use Rattle.daemon_run.proofs.auditing.run_audited.Goals as goal

pub join-requires-send-F : goal.join-requires-send-F
join-requires-send-F g c κs within =
    let workers = Vec-send _ (worker.the_send _ _ _ _ _ (Vec-send _ pass.the_send) c.type_bounds.send-D c.type_bounds.send-K c.type_bounds.send-B c.type_bounds.send-G) in
    closure_send 1 _ yes _ (_ ∷ _ ∷ _ ∷ _ ∷ []) (shr_send _ _ _ c.type_bounds.sync-R, (shr_send _ _ _ (view.the_sync _ desk_sync), (workers, (shr_send _ _ _ atomic.the_sync, tt))))
