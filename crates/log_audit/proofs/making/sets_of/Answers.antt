use Rattle.policy.specs.Pools.{rules_of}
use Rattle.log_audit.proofs.Sets.{map_more, sound_more}
use Rattle.log_audit.proofs.making.sets_of.Goals as goal

pub loop-file-preserved : goal.loop-file-preserved
loop-file-preserved c = record {
  rules = rw c.in_ok-push.ensures.items (map_more (rules_of c.args.pool.now) c.args.options.now c.loop-file.file-index c.file-item.result c.loop-file.sets.items c.in_ok-of.field-0
      c.loop-file-test.true c.file-item.is c.in_ok-of.ensures.rules c.loop-file.invariant.rules);
  sound = rw c.in_ok-push.ensures.items (sound_more c.loop-file.sets.items c.in_ok-of.field-0 c.loop-file.invariant.sound c.in_ok-of.ensures.sound);
}
