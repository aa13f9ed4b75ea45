use Rattle.std.proofs.Common.{◌≡◌, arith, ap, ◌∙◌, sym, length, Some}
use Rattle.std.specs.Slots.{slots_items}
use Rattle.kex_words.specs.Passes.{Pass}
use Rattle.kex_words.proofs.Collects.{empty_below, full_above}
use Rattle.kex_gate.specs.Steps.{slot_worth, slot_number}
use Rattle.kex_gate.proofs.Close.{it_is, home_at, slots_on, number_more, got_more}
use Rattle.kex_gate.proofs.closing.take_passes.Goals as goal

pub unreachable-requires : goal.unreachable-requires
unreachable-requires c = let h = c.requires.home c.loop-i.i c.loop-i-test.true in
    c.in_default.not-Some h.0 (it_is _ _ _ _ _ c.loop-i.invariant.0 c.take.ensures.value h.1)

pub gather-gathering-requires-clause-own : goal.gather-gathering-requires-clause-own
gather-gathering-requires-clause-own c = let h = c.requires.home c.loop-i.i c.loop-i-test.true in
    let p_is : Some c.in-Some.pass ≡ Some h.0 = sym c.in-Some.is ∙ it_is _ _ _ _ _ c.loop-i.invariant.0 c.take.ensures.value h.1 in
    let same : c.in-Some.pass ≡ h.0 = cc in ap (λ (p : Pass). p.table) same ∙ h.2

pub loop-i-preserved : goal.loop-i-preserved
loop-i-preserved c = let i = c.loop-i.invariant in let t = c.take.ensures.others in let g = c.gather-gathering.ensures in let home = home_at _ _ _ _ _ i.0 c.take.ensures.value c.in-Some.is in (
  t.0 ∙ i.0,
  t.2 ∙ i.1,
  empty_below _ _ _ t.1 i.2,
  full_above _ _ _ _ t.1 i.3,
  g.table,
  (let l = i.5 in let n = ap length g.numbers in omega arith),
  (λ q. slots_on (slot_number q) _ _ c.loop-i.i _ (slots_items c.args.closed.now.slots) c.in-Some.pass home (number_more q _ _ c.in-Some.pass g.numbers) (i.6 q)),
  (λ s. slots_on (slot_worth s) _ _ c.loop-i.i _ (slots_items c.args.closed.now.slots) c.in-Some.pass home (got_more s _ _ c.in-Some.pass g.got) (i.7 s)),
)
