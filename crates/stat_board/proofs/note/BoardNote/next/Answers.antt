use Rattle.std.proofs.Common.{◌≡◌, ◌∙◌, length, ap, sym}
use Rattle.stat_board.proofs.Adding.{adds_moves}
use Rattle.stat_board.proofs.Shows.{front_is}
use Rattle.stat_board.proofs.note.BoardNote.next.Goals as goal

pub compare_exchange-found-requires : goal.compare_exchange-found-requires
compare_exchange-found-requires c =
    let h = c.requires.head in
    let seen = c.again-seen.ensures in
    let offer = c.plain-offer.ensures in
    let pen = c.no_pen-pen.ensures in
    let book : c.again-seen.result.book ≡ c.args.head.now.book = ap (λ s. s.book) seen ∙ (ap (λ f. f.board) c.self.view_is ∙ sym (ap (λ w. w.book) h)) in
    let len : length c.again-seen.result.log ≡ c.self.inside.glance.front = ap (λ s. length s.log) seen ∙ sym (front_is _ _ _ c.self.invariant) in (
      ap (λ w. w.tracked) h,
      book,
      pen.0 ∙ book,
      offer.0,
      rw (ap (λ w. w.key) h, pen.1, offer.1, offer.3) (adds_moves c.again-seen.result.log (c.args.entry.now) c.self.inside.glance.front len),
    )
