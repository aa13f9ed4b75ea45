use Rattle.std.proofs.Common.{refl}
use Rattle.daemon_outside.specs.Memory.{TellsPost}
use Rattle.daemon_outside.specs.Sites.{Kept}
use Rattle.daemon_outside.specs.declared.memory.Retired.{Retired}
use Rattle.daemon_outside.proofs.Keeping.{keeps_more}
use Rattle.daemon_outside.proofs.memory.MemSiteSite.retire.Goals as goal

pub returns-clause-keeps : goal.returns-clause-keeps
returns-clause-keeps g c = λ ks ts ms h talks moments.
    let post : Retired = record { number = c.args.post.number; door = c.args.post.door; clock = c.args.post.clock } in
    let k : Kept = record { number = c.args.post.number; talks = ts; moments = ms } in
    keeps_more c.args.self.now.lost TellsPost c.args.self.now.kept.items c.push.new.self.items ks post k _ c.push.ensures.items c.if-is_err.ensures.negation h (refl, talks, moments)
