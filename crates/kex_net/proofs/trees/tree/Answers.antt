use Rattle.std.proofs.Common.{ℕ, min, sym, ap, subst, ◌∙◌}
use Rattle.kex_core.specs.Shapes.{sheet, IsNet}
use Rattle.kex_net.specs.Trees.{IsTree}
use Rattle.kex_net.proofs.TreeNets.{tree_valid}
use Rattle.kex_net.proofs.trees.tree.Goals as goal

pub unwrap-requires : goal.unwrap-requires
unwrap-requires c = let t = c.in_ok-lists.lists in
    c.of.ensures.accepts.1 (subst (λ (m : ℕ). IsNet (sheet c.args.n m t.caps.items t.next.items t.start.items)) (sym c.min.ensures)
    (tree_valid c.args.n c.args.k c.requires.two c.requires.small c.requires.licences (sheet c.args.n (min c.args.k c.args.n) t.caps.items t.next.items t.start.items) c.in_ok-lists.ensures.tree))

pub returns : goal.returns
returns c = let t = c.in_ok-lists.lists in let made = rw c.unwrap.ensures at c.of.ensures.value in
    subst (IsTree c.args.n c.args.k) (sym (made ∙ ap (λ (m : ℕ). sheet c.args.n m t.caps.items t.next.items t.start.items) c.min.ensures)) c.in_ok-lists.ensures.tree
