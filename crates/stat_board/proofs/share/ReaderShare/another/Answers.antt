use Rattle.std.proofs.Common.{◌∙◌, ap, sym, arith}
use Rattle.stat_board.proofs.Slots.{deals}
use Rattle.stat_board.proofs.share.ReaderShare.another.Goals as goal

pub split_seat-seat-requires : goal.split_seat-seat-requires
split_seat-seat-requires c =
    let at = ap (λ t. t.shared.table_id) c.deref.ensures in
    let i = c.self.invariant in
    (i.here ∙ sym at, omega (arith, i.words, ap (λ z. z.words) at), deals _ _ _ _)
