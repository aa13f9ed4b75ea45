use Rattle.std.proofs.Common.{arith}
use Rattle.policy.specs.Pools.{rules_of}
use Rattle.licence_office.proofs.Sets.{map_more, sound_more}
use Rattle.licence_office.proofs.making.sets_of.Goals as goal

pub loop-options-preserved : goal.loop-options-preserved
loop-options-preserved c = record {
  rules = rw c.push_reserved.ensures.items (map_more (rules_of c.args.pool.now) c.args.sets.now c.loop-options.options-index c.options-item.result c.loop-options.rules.items c.in_ok-of.field-0
      c.loop-options-test.true c.options-item.is c.in_ok-of.ensures.rules c.loop-options.invariant.rules);
  sound = rw c.push_reserved.ensures.items (sound_more c.loop-options.rules.items c.in_ok-of.field-0 c.loop-options.invariant.sound c.in_ok-of.ensures.sound);
  count = (let l = c.push_reserved.ensures.len in let n = c.loop-options.invariant.count in omega (arith, l, n));
  room = (let l = c.push_reserved.ensures.capacity in let n = c.loop-options.invariant.room in omega (arith, l, n));
}
