use Rattle.std.proofs.Common.{◌≡◌, length, true, false, sym, ap, ◌∙◌, subst, arith}
use Rattle.linger_clock.specs.Ranks.{comes_before, IsRanked}
use Rattle.linger_clock.proofs.Nodes.{fork_content}
use Rattle.linger_clock.proofs.Ranks.{ranked_front, ranked_back, ranked_in_left, ranked_in_right, sides_shorter}
use Rattle.linger_clock.proofs.tree.Tree.+insert.Goals as goal
use Rattle.linger_clock.proofs.tree.Tree.+insert.Goals.{then-comes_before, else-comes_before}

pub insert-requires : goal.insert-requires
insert-requires t c =
    let is = fork_content c.self.view_is c.in-Fork.is in
    let s = subst (IsRanked c.args.order) is c.requires.ranked in
    let short = sides_shorter c.args.order c.in-Fork.l.value.0 c.in-Fork.d c.in-Fork.r.value.0 in
    rw c.deref_mut.ensures.value (omega (arith, short.0, c.decreases, ap length is), (ranked_front c.args.order c.in-Fork.l.value.0 _ s, omega (arith, short.0, c.requires.few, ap length is)))

pub insert-requires-else-comes_before : goal.insert-requires-else-comes_before
insert-requires-else-comes_before t c =
    let is = fork_content c.self.view_is c.in-Fork.is in
    let s = subst (IsRanked c.args.order) is c.requires.ranked in
    let short = sides_shorter c.args.order c.in-Fork.l.value.0 c.in-Fork.d c.in-Fork.r.value.0 in
    rw c.deref_mut-else-comes_before.ensures.value (omega (arith, short.1, c.decreases, ap length is), (ranked_back c.args.order c.in-Fork.l.value.0 _ _ s, omega (arith, short.1, c.requires.few, ap length is)))

pub returns-clause-content : goal.returns-clause-content
returns-clause-content t c =
    let is = fork_content c.self.view_is c.in-Fork.is in
    let s = subst (IsRanked c.args.order) is c.requires.ranked in
    rw is (elim c.if-comes_before.branch [
      | then-comes_before w ↦
          let left = rw w.self-inside-is at c.rebalance.ensures in
          let first : comes_before c.args.order c.args.deadline c.in-Fork.d ≡ true = cc in
          left.1 ∙ rw (w.insert.ensures.content, w.deref_mut.ensures.value) (sym (ranked_in_left c.args.order c.args.deadline c.in-Fork.l.value.0 c.in-Fork.d c.in-Fork.r.value.0 first))
      | else-comes_before w ↦
          let right = rw w.self-inside-is at c.rebalance.ensures in
          let last : comes_before c.args.order c.args.deadline c.in-Fork.d ≡ false = cc in
          right.1 ∙ rw (w.insert-else-comes_before.ensures.content, w.deref_mut-else-comes_before.ensures.value) (sym (ranked_in_right c.args.order c.args.deadline c.in-Fork.l.value.0 c.in-Fork.d c.in-Fork.r.value.0 s last))
    ])
