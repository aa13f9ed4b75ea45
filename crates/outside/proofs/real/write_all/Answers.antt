use Rattle.outside.proofs.Bytes.{writes_on}
use Rattle.outside.proofs.real.write_all.Goals as goal

pub loop-rest-preserved : goal.loop-rest-preserved
loop-rest-preserved g c = writes_on _ _ _ _ c.loop-rest.rest.now c.in-Ok.count c.loop-rest.invariant c.in-Ok.ensures.bound c.in-Ok.ensures.bytes
