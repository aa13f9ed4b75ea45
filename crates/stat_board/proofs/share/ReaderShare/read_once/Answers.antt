use Rattle.std.proofs.Common.{◌∙◌, ap, sym, arith}
use Rattle.stat_board.proofs.Slots.{takes_out, gives_home, serving_key, serving_same}
use Rattle.stat_board.proofs.Told.{same_later}
use Rattle.stat_board.proofs.share.ReaderShare.read_once.Goals as goal

pub compare_exchange-requires : goal.compare_exchange-requires
compare_exchange-requires c =
    let at = ap (λ t. t.shared.table_id) c.deref.ensures in
    let i = c.self.invariant in
    (i.here ∙ sym at, omega (arith, i.words, ap (λ z. z.words) at), takes_out _ _ _ _ _ _ (omega (arith, i.slots, ap (λ z. z.slots) at)))

pub store-requires : goal.store-requires
store-requires c =
    let at = ap (λ t. t.shared.table_id) c.deref.ensures in
    let i = c.self.invariant in
    let took = c.compare_exchange.ensures.2.0 c.if-compare_exchange-ne0.false in
    let out = c.exchange-reader.ensures in
    let put = c.exchange.ensures in
    let seen = ap (λ m. m.0) out.3 ∙ ap (λ m. m.0) took.1 in (
      put.0 ∙ (out.0 ∙ (c.compare_exchange.ensures.0 ∙ (i.here ∙ sym at))),
      omega (arith, i.words, ap (λ z. z.words) at),
      gives_home _ _ _ _ _ _ _ _ _ put.3 (omega (arith, i.slots, ap (λ z. z.slots) at))
          (serving_key _ _ c.args.self.now _ (sym (seen ∙ c.self.view_is)) (serving_same _ _ c.args.self.now _ c.look-reader.ensures.told (same_later _ _ _ c.requires.board c.look-reader.ensures.later))),
    )
