use Rattle.std.proofs.Common.{List, [], ℕ, ◌≡◌, ◌++◌, ◌∙◌, ap, append-nil, arith, map, subst, sym, take}
use Rattle.log_audit.specs.declared.log.Numbered.{Numbered}
use Rattle.log_audit.proofs.Grants.{Counted, are_users, counted_more, room_left, sum_of}
use Rattle.log_audit.proofs.Pools.{all_taken, next_taken}
use Rattle.log_audit.proofs.users.users_of.Goals as goal

pub count_entry-requires-clause-room : goal.count_entry-requires-clause-room
count_entry-requires-clause-room c = λ name. room_left c.args.log.now c.loop-entry.entry-index c.loop-entry.counts.entries name c.loop-entry.invariant
    (let low = c.loop-entry-test.true in let end = c.loop-entry.auto.entry-index-end in omega arith)

pub count_entry-requires-clause-some : goal.count_entry-requires-clause-some
count_entry-requires-clause-some c = c.loop-entry.invariant.some

pub loop-entry-preserved : goal.loop-entry-preserved
loop-entry-preserved c =
    let log = c.args.log.now in
    let i = c.loop-entry.entry-index in
    let x = c.entry-item.result in
    subst (λ (l : List Numbered). Counted l c.count_entry.new.counts.entries) (sym (next_taken log i x c.loop-entry-test.true c.entry-item.is))
    (counted_more (take i log) x c.loop-entry.counts.entries c.count_entry.new.counts.entries c.loop-entry.invariant c.in_ok-count_entry.ensures)

pub returns : goal.returns
returns c =
    let items = c.loop-user.users.items in
    let counted = subst (λ (l : List Numbered). Counted l c.loop-entry.counts.entries) (all_taken c.args.log.now c.loop-entry.entry-index c.loop-entry-test.false) c.loop-entry.invariant in
    let whole : items ++ map sum_of [] ≡ map sum_of c.loop-entry.counts.entries =
    ap (λ (left : List (List ℕ × ℕ)). items ++ map sum_of left) (sym c.in-None.ensures.steps.0)
    ∙ (c.loop-user.invariant.2 ∙ ap (map sum_of) (c.into_iter-user-iterator.ensures.into_iter_gives ∙ c.iter-user-items.ensures.rest)) in
    are_users c.args.log.now c.loop-entry.counts.entries items counted c.iter-user-items.ensures.ordered (sym (append-nil items) ∙ whole)
