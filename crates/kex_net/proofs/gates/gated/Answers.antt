use Rattle.std.proofs.Common.{◌+◌, ◌-◌, ◌∙◌, sym, refl, subst, arith}
use Rattle.kex_core.specs.Shapes.{sheet}
use Rattle.kex_net.specs.Gates.{IsGated}
use Rattle.kex_net.proofs.GateNets.{gated_valid, gated_of}
use Rattle.kex_net.proofs.gates.gated.Goals as goal

pub unwrap-requires : goal.unwrap-requires
unwrap-requires c = let n = c.args.n in let m = c.min-m.result in let first = n - m in let t = c.in_ok-lists.lists in
    c.of.ensures.accepts.1 (gated_valid n c.args.k c.requires.two c.requires.licences c.requires.room c.requires.small (sheet (n + m) m c.push_falling.new.caps.items c.push_leading.new.next.items c.extend_from_slice.new.self.items)
    (gated_of n c.args.k m first (first + m) t.caps.items t.next.items t.start.items c.deref.result.now c.push_falling.new.caps.items c.push_leading.new.next.items c.extend_from_slice.new.self.items
    c.min-m.ensures (let s = c.in_ok-lists.ensures.stages in let e = c.min-m.ensures in omega arith) refl c.in_ok-lists.ensures.tree (c.deref.ensures.value ∙ c.in_ok-gate.ensures.items_if_clones_equal (λ y e. e))
    c.in_ok-push_falling.ensures c.in_ok-push_leading.ensures c.in_ok-extend_from_slice.ensures.items))

pub returns : goal.returns
returns c = let n = c.args.n in let m = c.min-m.result in let first = n - m in let t = c.in_ok-lists.lists in let made = rw c.unwrap.ensures at c.of.ensures.value in
    subst (IsGated n c.args.k) (sym made)
    (gated_of n c.args.k m first (first + m) t.caps.items t.next.items t.start.items c.deref.result.now c.push_falling.new.caps.items c.push_leading.new.next.items c.extend_from_slice.new.self.items
    c.min-m.ensures (let s = c.in_ok-lists.ensures.stages in let e = c.min-m.ensures in omega arith) refl c.in_ok-lists.ensures.tree (c.deref.ensures.value ∙ c.in_ok-gate.ensures.items_if_clones_equal (λ y e. e))
    c.in_ok-push_falling.ensures c.in_ok-push_leading.ensures c.in_ok-extend_from_slice.ensures.items)
