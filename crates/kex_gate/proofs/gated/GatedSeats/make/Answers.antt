use Rattle.std.proofs.Common.{◌≡◌, ℕ, List, length, get_or, ◌∙◌, sym, ap, arith}
use Rattle.std.specs.declared.snapshot.Snapshot.{Snapshot}
use Rattle.kex_core.specs.Shapes.{Sheet}
use Rattle.seat_names.specs.declared.seats.Seats.{Seats}
use Rattle.kex_gate.specs.Passes.{room_word}
use Rattle.kex_gate.proofs.Start.{fresh_own}
use Rattle.kex_gate.proofs.Made.{opens, set_up, in_row, widths}
use Rattle.kex_gate.proofs.gated.GatedSeats.make.Goals as goal

pub new-requires : goal.new-requires
new-requires c = let s = c.in_ok-seats.ensures in let t = c.in_ok-gate.ensures in let v = c.in_ok-slots.ensures in let w = c.in_ok-words.ensures in
    opens c.in_ok-seats.seats _ _ _ _ c.requires.two c.requires.licences c.requires.room c.requires.small c.in_ok-net.ensures c.min-width.ensures s.net c.in_ok-seats.own.items s.passes
    (sym c.in_ok-seats.own.ok.0 ∙ (s.count ∙ ap (λ (x : Sheet). x.parties) (sym s.net)))
    _ c.in_ok-gate.gate.items _ _ c.of-about.ensures t.tail (let a = t.tail_len in let b = c.in_ok-gate.gate.ok.0 in let d = c.in_ok-seats.own.ok.0 in omega arith)
    (sym c.in_ok-slots.slots.ok.0 ∙ (v.count ∙ c.in_ok-gate.gate.ok.0)) (λ j l. v.slots j (let b = c.in_ok-gate.gate.ok.0 in omega arith))
    (ap length c.deref.ensures.value ∙ w.wide) (ap (λ (z : List ℕ). get_or z room_word 0) c.deref.ensures.value ∙ w.room) (λ j o. ap (λ (z : List ℕ). get_or z j 0) c.deref.ensures.value ∙ w.others j o)

pub invariant_of-made : goal.invariant_of-made
invariant_of-made c = let s = c.in_ok-seats.ensures in let t = c.in_ok-gate.ensures in let v = c.in_ok-slots.ensures in let w = c.in_ok-words.ensures in let ok = c.in-Ok.ensures.ok in
    let wide = widths c.in_ok-seats.seats _ _ _ _ c.requires.two c.requires.licences c.requires.room c.requires.small c.in_ok-net.ensures c.min-width.ensures s.net in
    set_up c.in_ok-seats.seats _ _ _ _ c.requires.two c.requires.licences c.requires.room c.requires.small c.in_ok-net.ensures c.min-width.ensures s.net _ _ c.deref.result.now c.in_ok-slots.slots.items (ap (λ (x : Snapshot Seats). x.value) ok.5 ∙ c.of-about.ensures) ok.0 ok.1
    (ap length c.deref.ensures.value ∙ w.wide)
    (let a = t.tail_len in let b = c.in_ok-slots.slots.ok.0 in let d = s.count in let e = v.count in let f = wide.0 in let g : c.in_ok-seats.seats.net.parties ≡ c.in_ok-net.net.parties = ap (λ (x : Sheet). x.parties) s.net in omega arith)

pub deal-requires-clause-passes : goal.deal-requires-clause-passes
deal-requires-clause-passes c = let s = c.in_ok-seats.ensures in let t = c.in_ok-gate.ensures in let r =
    in_row c.in_ok-seats.seats _ _ _ _ c.requires.two c.requires.licences c.requires.room c.requires.small c.in_ok-net.ensures c.min-width.ensures s.net c.in_ok-seats.own.items s.passes
    (sym c.in_ok-seats.own.ok.0 ∙ (s.count ∙ ap (λ (x : Sheet). x.parties) (sym s.net))) _ t.items (sym c.split_off.new.self.ok.0 ∙ t.len) in
    (r.0, c.split_off.new.self.ok.0 ∙ r.1)

pub returns-clause-own : goal.returns-clause-own
returns-clause-own c = fresh_own _ _ c.deal.ensures.dealt
