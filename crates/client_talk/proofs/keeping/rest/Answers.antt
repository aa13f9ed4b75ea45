use Rattle.std.proofs.Common.{refl, [], take}
use Rattle.session_outside.specs.Talk.{Heard, ReadFault}
use Rattle.client_talk.proofs.keeping.rest.Goals as goal

pub returns-in-Bytes : goal.returns-in-Bytes
returns-in-Bytes g c = (Heard (take c.in-Bytes.field-0 c.read.new.buffer), c.in-Bytes.ensures.told, refl, ([], take c.in-Bytes.field-0 c.read.new.buffer, refl))

pub returns-in-Failed : goal.returns-in-Failed
returns-in-Failed g c = (ReadFault, c.in-Failed.ensures.told, refl, ([], ReadFault, refl, refl))
