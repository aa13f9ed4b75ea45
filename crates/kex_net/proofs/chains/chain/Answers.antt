use Rattle.std.proofs.Common.{sym, subst}
use Rattle.kex_core.specs.Shapes.{sheet}
use Rattle.kex_net.specs.Chains.{IsChain}
use Rattle.kex_net.proofs.ChainLemmas.{chain_valid, chain_of}
use Rattle.kex_net.proofs.chains.chain.Goals as goal

pub unwrap-requires : goal.unwrap-requires
unwrap-requires c = c.of.ensures.accepts.1 (chain_valid c.args.n c.args.k c.requires.two c.requires.small c.requires.licences (sheet c.args.n c.min-m.result c.in_ok-caps.caps.items c.in_ok-next.next.items c.in_ok-start.start.items)
    (chain_of c.args.n c.args.k c.min-m.result c.in_ok-caps.caps.items c.in_ok-next.next.items c.in_ok-start.start.items c.min-m.ensures c.in_ok-caps.ensures c.in_ok-next.ensures (c.in_ok-start.ensures.items_if_clones_equal (λ y e. e))))

pub returns : goal.returns
returns c = let made = rw c.unwrap.ensures at c.of.ensures.value in subst (IsChain c.args.n c.args.k) (sym made)
    (chain_of c.args.n c.args.k c.min-m.result c.in_ok-caps.caps.items c.in_ok-next.next.items c.in_ok-start.start.items c.min-m.ensures c.in_ok-caps.ensures c.in_ok-next.ensures (c.in_ok-start.ensures.items_if_clones_equal (λ y e. e)))
