use Rattle.daemon_outside.specs.Memory.{TellsTalk}
use Rattle.daemon_outside.proofs.Keeping.{keeps_more}
use Rattle.daemon_outside.proofs.memory.MemDoorDoor.done.Goals as goal

pub returns-else-is_err-clause-told : goal.returns-else-is_err-clause-told
returns-else-is_err-clause-told c = λ ts t h k.
    keeps_more c.args.self.now.lost TellsTalk c.args.self.now.kept.items c.push.new.self.items ts c.args.link t _ c.push.ensures.items c.if-is_err.ensures.negation h k
