use Rattle.std.proofs.Common.{◌∙◌, sym, ap, refl}
use Rattle.kex_core.specs.Worlds.{due}
use Rattle.kex_core.specs.Shapes.{plan}
use Rattle.kex_words.proofs.Made.{made}
use Rattle.kex_words.proofs.Seats.{sits, clears_bit}
use Rattle.kex_words.proofs.words.KexTable.clear.Goals as goal

pub store-requires : goal.store-requires
store-requires c = clears_bit _ _ _ _ _ _ _ (sits _ _ _ _ _ _ _ _ _ _ c.self.invariant.0 c.self.view_is (c.seated.view_is ∙ c.l.view_is) c.requires.own c.seated.invariant.0 c.seated.invariant.1 c.seated.invariant.2 (sym (ap (due (plan c.self.inside.net) c.seated.inside.number) c.in-Clearing.is))) _ c.self.view_is _ _ _ _ refl c.bit_word.ensures

pub returns-clause-moved : goal.returns-clause-moved
returns-clause-moved c = made _ _ c.seated.inside.seat.me c.store.new.seat.me _ _ _ (c.seated.view_is ∙ c.l.view_is) c.seated.invariant.0 c.store.ensures.2 c.store.ensures.0 c.back.ensures.same
