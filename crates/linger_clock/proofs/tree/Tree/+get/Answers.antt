use Rattle.std.proofs.Common.{◌≡◌, length, true, false, sym, ap, ◌∙◌, subst, refl, arith}
use Rattle.linger_clock.specs.Ranks.{comes_before, ties, IsRanked}
use Rattle.linger_clock.proofs.Nodes.{fork_content}
use Rattle.linger_clock.proofs.Ranks.{ranked_front, ranked_back, find_left, find_right, find_top, sides_shorter}
use Rattle.linger_clock.proofs.tree.Tree.+get.Goals as goal

pub get-requires : goal.get-requires
get-requires t c =
    let is = fork_content c.self.view_is c.in-Fork.is in
    let s = subst (IsRanked c.args.order) is c.requires in
    let short = sides_shorter c.args.order c.in-Fork.l.value.0 c.in-Fork.d c.in-Fork.r.value.0 in
    rw c.deref.ensures (omega (arith, short.0, c.decreases, ap length is), ranked_front c.args.order c.in-Fork.l.value.0 _ s)

pub get-requires-then-comes_before-2 : goal.get-requires-then-comes_before-2
get-requires-then-comes_before-2 t c =
    let is = fork_content c.self.view_is c.in-Fork.is in
    let s = subst (IsRanked c.args.order) is c.requires in
    let short = sides_shorter c.args.order c.in-Fork.l.value.0 c.in-Fork.d c.in-Fork.r.value.0 in
    rw c.deref-then-comes_before-2.ensures (omega (arith, short.1, c.decreases, ap length is), ranked_back c.args.order c.in-Fork.l.value.0 _ _ s)

pub returns-then-comes_before : goal.returns-then-comes_before
returns-then-comes_before t c =
    let is = fork_content c.self.view_is c.in-Fork.is in
    let s = subst (IsRanked c.args.order) is c.requires in
    let first : comes_before c.args.order c.args.like c.in-Fork.d ≡ true = cc in
    c.get.ensures ∙ rw (c.deref.ensures, is) (sym (find_left c.args.order c.args.like c.in-Fork.l.value.0 c.in-Fork.d c.in-Fork.r.value.0 s first))

pub returns-then-comes_before-2 : goal.returns-then-comes_before-2
returns-then-comes_before-2 t c =
    let is = fork_content c.self.view_is c.in-Fork.is in
    let s = subst (IsRanked c.args.order) is c.requires in
    let last : comes_before c.args.order c.in-Fork.d c.args.like ≡ true = cc in
    c.get-then-comes_before-2.ensures ∙ rw (c.deref-then-comes_before-2.ensures, is) (sym (find_right c.args.order c.args.like c.in-Fork.l.value.0 c.in-Fork.d c.in-Fork.r.value.0 s last))

pub returns-else-comes_before-2 : goal.returns-else-comes_before-2
returns-else-comes_before-2 t c =
    let is = fork_content c.self.view_is c.in-Fork.is in
    let s = subst (IsRanked c.args.order) is c.requires in
    let not_first : comes_before c.args.order c.args.like c.in-Fork.d ≡ false = cc in
    let not_last : comes_before c.args.order c.in-Fork.d c.args.like ≡ false = cc in
    let tied : ties c.args.order c.args.like c.in-Fork.d ≡ true = rw (not_first, not_last) refl in
    rw is (sym (find_top c.args.order c.args.like c.in-Fork.l.value.0 c.in-Fork.d c.in-Fork.r.value.0 s tied))
