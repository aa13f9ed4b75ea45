use Rattle.std.proofs.Common.{arith, ◌∙◌, sym}
use Rattle.kex_words.proofs.Collects.{empty_below, full_above, it_is, collected}
use Rattle.kex_words.proofs.closing.take_cards.Goals as goal

pub unreachable-requires : goal.unreachable-requires
unreachable-requires c = let h = c.requires.home c.loop-s.s c.loop-s-test.true in
    c.in_default.not-Some h.0 (it_is _ _ _ _ _ c.loop-s.invariant.0 c.take.ensures.value h.1)

pub loop-s-preserved : goal.loop-s-preserved
loop-s-preserved c = let i = c.loop-s.invariant in let t = c.take.ensures.others in let p = c.push_reserved.ensures in (
  t.0 ∙ i.0,
  t.2 ∙ i.1,
  empty_below _ _ _ t.1 i.2,
  full_above _ _ _ _ t.1 i.3,
  (let l = i.4 in omega arith),
  (let l = i.5 in omega arith),
  rw p.items (collected _ _ _ _ _ _ (sym c.loop-s.cards.ok.0 ∙ i.4) i.0 c.take.ensures.value c.in-Some.is i.6),
)
