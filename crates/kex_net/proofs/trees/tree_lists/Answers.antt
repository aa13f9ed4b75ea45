use Rattle.std.proofs.Common.{◌∙◌}
use Rattle.kex_core.specs.Shapes.{sheet}
use Rattle.std.proofs.Common.{min}
use Rattle.kex_net.proofs.TreeNets.{tree_of, tree_stages}
use Rattle.kex_net.proofs.trees.tree_lists.Goals as goal

pub returns-clause-tree : goal.returns-clause-tree
returns-clause-tree c = tree_of c.args.n c.args.k c.min-m.result c.deref.result.now c.in_ok-stages.stages.caps.items c.in_ok-stages.stages.next.items c.in_ok-stages.stages.meets.items c.deref-2.result.now c.in_ok-start.start.items
    c.min-m.ensures (c.deref.ensures.value ∙ c.in_ok-sizes.ensures.value) c.in_ok-stages.ensures.levels c.deref-2.ensures.value c.in_ok-start.ensures

pub returns-clause-stages : goal.returns-clause-stages
returns-clause-stages c = tree_stages c.args.n c.args.k c.requires.two c.requires.small c.requires.licences (sheet c.args.n (min c.args.k c.args.n) c.in_ok-stages.stages.caps.items c.in_ok-stages.stages.next.items c.in_ok-start.start.items)
    (tree_of c.args.n c.args.k c.min-m.result c.deref.result.now c.in_ok-stages.stages.caps.items c.in_ok-stages.stages.next.items c.in_ok-stages.stages.meets.items c.deref-2.result.now c.in_ok-start.start.items
    c.min-m.ensures (c.deref.ensures.value ∙ c.in_ok-sizes.ensures.value) c.in_ok-stages.ensures.levels c.deref-2.ensures.value c.in_ok-start.ensures)
