use mathlib.Core.List.{[], ◌∷◌}
use denote.Exit.{yes}
use denote.Param.Send.{shr_sync}
use Rattle.lic_types.proofs.client.Client.TheSendSync as client
use Rattle.feature_desk.proofs.Crossing.{closure_sync, desk_sync}
use Rattle.desk_rows.proofs.tests.desks.come_and_go_all.Goals as goal

pub for_each_mut-requires-sync-F : goal.for_each_mut-requires-sync-F
for_each_mut-requires-sync-F g c κs within = closure_sync 2 _ yes _ (_ ∷ _ ∷ _ ∷ []) (shr_sync _ _ _ c.type_bounds.sync-R, (shr_sync _ _ _ desk_sync, (shr_sync _ _ _ client.the_sync, tt)))
