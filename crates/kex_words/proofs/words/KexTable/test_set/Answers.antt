use Rattle.std.proofs.Common.{◌∙◌}
use Rattle.kex_words.proofs.Made.{made, made_after}
use Rattle.kex_words.proofs.Seats.{sits, still_sits, sees_bit, sets_bit, placed_for}
use Rattle.kex_words.proofs.words.KexTable.test_set.Goals as goal

pub load-seen-requires : goal.load-seen-requires
load-seen-requires c = sees_bit _ _ _ _ _ _ _ (sits _ _ _ _ _ _ _ _ _ _ c.self.invariant.0 c.self.view_is (c.seated.view_is ∙ c.n.view_is) c.requires.own c.seated.invariant.0 c.seated.invariant.1 c.seated.invariant.2 c.due-due.ensures) _ c.self.view_is _ _ _ _ c.in-Naming.is c.bit_word-word.ensures

pub returns-then-seen-eq1-clause-moved : goal.returns-then-seen-eq1-clause-moved
returns-then-seen-eq1-clause-moved c = made _ _ c.seated.inside.seat.me c.load-seen.new.seat.me _ _ _ (c.seated.view_is ∙ c.n.view_is) c.seated.invariant.0 (c.load-seen.ensures.2.0 c.if-seen-eq1.true) c.load-seen.ensures.0 c.next.ensures.same

pub swap-bit-requires : goal.swap-bit-requires
swap-bit-requires c =
    sets_bit _ _ _ _ _ _ _ (still_sits _ _ _ _ _ _ _ _ _
    (sits _ _ _ _ _ _ _ _ _ _ c.self.invariant.0 c.self.view_is (c.seated.view_is ∙ c.n.view_is) c.requires.own c.seated.invariant.0 c.seated.invariant.1 c.seated.invariant.2 c.due-due.ensures)
    c.load-seen.ensures.0 (c.load-seen.ensures.2.1 c.if-seen-eq1.false)) _ c.self.view_is _ _ _ _ c.in-Naming.is c.bit_word-word.ensures

pub next-requires-2-clause-placed : goal.next-requires-2-clause-placed
next-requires-2-clause-placed c = placed_for _ _ _ _ _ _ _ (sits _ _ _ _ _ _ _ _ _ _ c.self.invariant.0 c.self.view_is (c.seated.view_is ∙ c.n.view_is) c.requires.own c.seated.invariant.0 c.seated.invariant.1 c.seated.invariant.2 c.due-due.ensures) _ c.self.view_is _ c.in-Naming.is

pub returns-clause-moved : goal.returns-clause-moved
returns-clause-moved c = made_after _ _ c.seated.inside.seat.me _ c.swap-bit.new.seat.me _ _ _ (c.seated.view_is ∙ c.n.view_is) c.seated.invariant.0
    (c.load-seen.ensures.2.1 c.if-seen-eq1.false) c.swap-bit.ensures.2 (c.swap-bit.ensures.0 ∙ c.load-seen.ensures.0) c.next-2.ensures.same
