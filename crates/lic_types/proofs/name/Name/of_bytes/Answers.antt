use Rattle.lic_types.proofs.Stored.{stored}
use Rattle.lic_types.proofs.name.Name.of_bytes.Goals as goal

pub invariant_of-result : goal.invariant_of-result
invariant_of-result c = stored c.args.bytes.now c.room_of.result c.requires c.room_of.ensures
