use Rattle.std.proofs.Common.{◌≡◌, length, true, false, sym, ap, ◌∙◌, subst, refl, arith}
use Rattle.linger_clock.specs.Ranks.{comes_before, ties, IsRanked}
use Rattle.linger_clock.proofs.Nodes.{fork_content}
use Rattle.linger_clock.proofs.Ranks.{ranked_front, ranked_back, find_left, find_right, taken_left, taken_right, taken_top, sides_shorter}
use Rattle.linger_clock.proofs.tree.Tree.+remove.Goals as goal

pub remove-spare-requires : goal.remove-spare-requires
remove-spare-requires t c =
    let is = fork_content c.self.view_is (sym c.replace.ensures.value ∙ c.in-Fork.is) in
    let s = subst (IsRanked c.args.order) is c.requires.ranked in
    let first : comes_before c.args.order c.args.like c.in-Fork.d ≡ true = cc in
    let short = sides_shorter c.args.order c.in-Fork.l.value.0 c.in-Fork.d c.in-Fork.r.value.0 in
    let there = rw (is, find_left c.args.order c.args.like c.in-Fork.l.value.0 c.in-Fork.d c.in-Fork.r.value.0 s first) at c.requires.there in
    rw c.deref_mut.ensures.value (omega (arith, short.0, c.decreases, ap length is), (ranked_front c.args.order c.in-Fork.l.value.0 _ s, (omega (arith, short.0, c.requires.few, ap length is), there)))

pub remove-spare-requires-then-comes_before-2 : goal.remove-spare-requires-then-comes_before-2
remove-spare-requires-then-comes_before-2 t c =
    let is = fork_content c.self.view_is (sym c.replace.ensures.value ∙ c.in-Fork.is) in
    let s = subst (IsRanked c.args.order) is c.requires.ranked in
    let last : comes_before c.args.order c.in-Fork.d c.args.like ≡ true = cc in
    let short = sides_shorter c.args.order c.in-Fork.l.value.0 c.in-Fork.d c.in-Fork.r.value.0 in
    let there = rw (is, find_right c.args.order c.args.like c.in-Fork.l.value.0 c.in-Fork.d c.in-Fork.r.value.0 s last) at c.requires.there in
    rw c.deref_mut-then-comes_before-2.ensures.value (omega (arith, short.1, c.decreases, ap length is), (ranked_back c.args.order c.in-Fork.l.value.0 _ _ s, (omega (arith, short.1, c.requires.few, ap length is), there)))

pub returns-then-comes_before-clause-content : goal.returns-then-comes_before-clause-content
returns-then-comes_before-clause-content t c =
    let is = fork_content c.self.view_is (sym c.replace.ensures.value ∙ c.in-Fork.is) in
    let s = subst (IsRanked c.args.order) is c.requires.ranked in
    let first : comes_before c.args.order c.args.like c.in-Fork.d ≡ true = cc in
    let left = rw c.fork.ensures.same at c.rebalance.ensures in
    rw is (left.1 ∙ rw (c.remove-spare.ensures.content, c.deref_mut.ensures.value) (sym (taken_left c.args.order c.args.like c.in-Fork.l.value.0 c.in-Fork.d c.in-Fork.r.value.0 s first)))

pub returns-then-comes_before-2-clause-content : goal.returns-then-comes_before-2-clause-content
returns-then-comes_before-2-clause-content t c =
    let is = fork_content c.self.view_is (sym c.replace.ensures.value ∙ c.in-Fork.is) in
    let s = subst (IsRanked c.args.order) is c.requires.ranked in
    let last : comes_before c.args.order c.in-Fork.d c.args.like ≡ true = cc in
    let right = rw c.fork-then-comes_before-2.ensures.same at c.rebalance-then-comes_before-2.ensures in
    rw is (right.1 ∙ rw (c.remove-spare-then-comes_before-2.ensures.content, c.deref_mut-then-comes_before-2.ensures.value) (sym (taken_right c.args.order c.args.like c.in-Fork.l.value.0 c.in-Fork.d c.in-Fork.r.value.0 s last)))

pub returns-clause-content : goal.returns-clause-content
returns-clause-content t c =
    let is = fork_content c.self.view_is (sym c.replace.ensures.value ∙ c.in-Fork.is) in
    let s = subst (IsRanked c.args.order) is c.requires.ranked in
    let not_first : comes_before c.args.order c.args.like c.in-Fork.d ≡ false = cc in
    let not_last : comes_before c.args.order c.in-Fork.d c.args.like ≡ false = cc in
    let tied : ties c.args.order c.args.like c.in-Fork.d ≡ true = rw (not_first, not_last) refl in
    rw is (c.joined-node.ensures.content ∙ sym (taken_top c.args.order c.args.like c.in-Fork.l.value.0 c.in-Fork.d c.in-Fork.r.value.0 s tied))
