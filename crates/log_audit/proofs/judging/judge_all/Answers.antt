use Rattle.std.proofs.Common.{List, arith, length, map, slice_set, subst, sym, take}
use Rattle.log_audit.specs.Kept.{StandAll, sets_at}
use Rattle.log_audit.specs.declared.log.Numbered.{Numbered}
use Rattle.log_audit.proofs.Pools.{all_more, all_taken, cut_at, few_at, first_bad, fit_at, next_taken, pool_at, runs_all, small_at, told_all}
use Rattle.log_audit.proofs.judging.judge_all.Goals as goal

pub take-requires-clause-few : goal.take-requires-clause-few
take-requires-clause-few c =
    let log = c.args.log.now in
    let i = c.loop-entry.entry-index in
    let x = c.entry-item.result in
    let within = pool_at c.args.desks.now c.loop-entry.desks (take i log) log i x c.loop-entry.invariant c.requires.fit c.loop-entry-test.true c.entry-item.is in
    let few = few_at (map sets_at c.args.desks.now) log i c.loop-entry.desks x.logged.pool c.index-desks-entry.result c.loop-entry.invariant within in
    let low = c.loop-entry-test.true in
    let end = c.loop-entry.auto.entry-index-end in
    omega arith

pub take-requires-clause-small : goal.take-requires-clause-small
take-requires-clause-small c =
    let log = c.args.log.now in
    let i = c.loop-entry.entry-index in
    let x = c.entry-item.result in
    let within = pool_at c.args.desks.now c.loop-entry.desks (take i log) log i x c.loop-entry.invariant c.requires.fit c.loop-entry-test.true c.entry-item.is in
    small_at (map sets_at c.args.desks.now) (take i log) c.loop-entry.desks x.logged.pool c.index-desks-entry.result c.loop-entry.invariant within

pub returns-in-Some : goal.returns-in-Some
returns-in-Some c =
    let log = c.args.log.now in
    let i = c.loop-entry.entry-index in
    let x = c.entry-item.result in
    let cut = cut_at log i x c.loop-entry-test.true c.entry-item.is in
    let within = pool_at c.args.desks.now c.loop-entry.desks (take i log) log i x c.loop-entry.invariant c.requires.fit c.loop-entry-test.true c.entry-item.is in
    let wrong = rw c.in-Some.is at c.in_ok-found.ensures in
    first_bad (map sets_at c.args.desks.now) (take i log) log cut.0 c.loop-entry.desks x c.index-desks-entry.result c.in-Some.expected c.loop-entry.invariant within cut.1 wrong.0 wrong.1

pub loop-entry-preserved : goal.loop-entry-preserved
loop-entry-preserved c =
    let log = c.args.log.now in
    let i = c.loop-entry.entry-index in
    let x = c.entry-item.result in
    let within = pool_at c.args.desks.now c.loop-entry.desks (take i log) log i x c.loop-entry.invariant c.requires.fit c.loop-entry-test.true c.entry-item.is in
    let small = (fit_at (length c.args.desks.now) log i x c.requires.fit c.loop-entry-test.true c.entry-item.is).moment in
    let made = rw c.in_default.is at c.in_ok-found.ensures in
    subst (λ (l : List Numbered). StandAll (map sets_at c.args.desks.now) l (slice_set c.loop-entry.desks x.logged.pool c.take.new.self)) (sym (next_taken log i x c.loop-entry-test.true c.entry-item.is))
    (all_more (map sets_at c.args.desks.now) (take i log) c.loop-entry.desks x c.index-desks-entry.result c.take.new.self c.loop-entry.invariant within small made.0 made.1)

pub returns : goal.returns
returns c =
    let pools = map sets_at c.args.desks.now in
    let kept = subst (λ (l : List Numbered). StandAll pools l c.loop-entry.desks) (all_taken c.args.log.now c.loop-entry.entry-index c.loop-entry-test.false) c.loop-entry.invariant in
    (runs_all pools c.args.log.now c.loop-entry.desks kept, told_all pools c.args.log.now c.loop-entry.desks kept)
