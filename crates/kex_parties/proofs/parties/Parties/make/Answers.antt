use Rattle.std.proofs.Common.{ap, arith}
use Rattle.kex_core.specs.Shapes.{Sheet}
use Rattle.kex_parties.proofs.Dealt.{dealt_own, dealt_rested}
use Rattle.kex_parties.proofs.parties.Parties.make.Goals as goal

pub parties_of-requires : goal.parties_of-requires
parties_of-requires c = dealt_own _ _ c.in_ok-table.ensures.passes

pub returns-clause-rested : goal.returns-clause-rested
returns-clause-rested c = λ i l.
    let count = c.in_ok-table.ensures.count in let long = c.in_ok-table.passes.ok.0 in
    let net = ap (λ (n : Sheet). n.parties) c.in_ok-table.ensures.net in
    dealt_rested _ _ c.in_ok-table.ensures.passes _ c.in_ok-parties.ensures.parties i (omega (arith, l, count, long, net))
