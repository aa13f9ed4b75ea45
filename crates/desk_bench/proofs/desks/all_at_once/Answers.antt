use mathlib.Core.List.{[], ◌∷◌}
use denote.Builtin as builtin
use denote.Exit.{yes}
use denote.Param.Send.{IsSync, shr_sync, sendable}
use Rattle.lic_types.proofs.client.Client.TheSendSync as client
use Rattle.feature_desk.proofs.Crossing.{closure_sync, desk_sync}
use Rattle.desk_bench.proofs.desks.all_at_once.Goals as goal

pub for_each_mut-requires-sync-F : goal.for_each_mut-requires-sync-F
for_each_mut-requires-sync-F g c κs within =
    let rounds : IsSync builtin.u32 = search sendable in
    closure_sync 2 _ yes _ (_ ∷ _ ∷ _ ∷ _ ∷ []) (shr_sync _ _ _ c.type_bounds.sync-R, (shr_sync _ _ _ desk_sync, (shr_sync _ _ _ client.the_sync, (shr_sync _ _ _ rounds, tt))))
