use Rattle.std.proofs.Common.{◌∙◌, ap, sym, arith, Some}
use Rattle.stat_board.proofs.Slots.{takes_out, gives_home}
use Rattle.stat_board.proofs.Told.{told_key}
use Rattle.stat_board.proofs.share.ReaderShare.put.Goals as goal

pub compare_exchange-requires : goal.compare_exchange-requires
compare_exchange-requires c =
    let at = ap (λ t. t.shared.table_id) c.deref.ensures in
    let i = c.self.invariant in
    (i.here ∙ sym at, omega (arith, i.words, ap (λ z. z.words) at), takes_out _ _ _ _ _ _ (omega (arith, i.slots, ap (λ z. z.slots) at)))

pub store-requires : goal.store-requires
store-requires c =
    let at = ap (λ t. t.shared.table_id) c.deref.ensures in
    let i = c.self.invariant in
    let took = c.compare_exchange.ensures.2.0 c.if-compare_exchange-eq0.true in
    let put = c.exchange.ensures in
    let same = ap (λ m. m.0) took.1 in (
      put.0 ∙ (c.compare_exchange.ensures.0 ∙ (i.here ∙ sym at)),
      omega (arith, i.words, ap (λ z. z.words) at),
      gives_home _ _ _ _ _ _ _ (Some c.args.reader) _ put.3 (omega (arith, i.slots, ap (λ z. z.slots) at)) (told_key _ c.args.self.now _ (sym (same ∙ c.self.view_is)) c.requires.told),
    )
