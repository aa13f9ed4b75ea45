use Rattle.std.proofs.Common.{sym}
use Rattle.kex_words.proofs.Deals.{splits_at}
use Rattle.kex_words.proofs.words.KexTable.deal.Goals as goal

pub split_seat-other-requires : goal.split_seat-other-requires
split_seat-other-requires c = let i = c.loop-number.invariant in let inside = c.loop-number-test.true in
    splits_at _ _ _ _ _ _ _ c.loop-number.number c.self.invariant.0 c.self.view_is i.0 i.1 (rw (sym c.parties-number-end.ensures) inside)
