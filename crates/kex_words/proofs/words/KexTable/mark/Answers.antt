use Rattle.std.proofs.Common.{◌+◌, ◌∙◌, sym, ap, refl}
use Rattle.kex_core.specs.Worlds.{due}
use Rattle.kex_core.specs.Shapes.{plan}
use Rattle.kex_words.proofs.Made.{made}
use Rattle.kex_words.proofs.Seats.{sits, writes_name}
use Rattle.kex_words.proofs.words.KexTable.mark.Goals as goal

pub store-requires : goal.store-requires
store-requires c = writes_name _ _ _ _ _ _ _ (sits _ _ _ _ _ _ _ _ _ _ c.self.invariant.0 c.self.view_is (c.seated.view_is ∙ c.e.view_is) c.requires.own c.seated.invariant.0 c.seated.invariant.1 c.seated.invariant.2 (sym (ap (due (plan c.self.inside.net) c.seated.inside.number) c.in-Mark.is))) _ _ _ _ _ refl c.spin_word.ensures (ap (λ n. n + 1) c.from-waiter.ensures)

pub returns-clause-moved : goal.returns-clause-moved
returns-clause-moved c = made _ _ c.seated.inside.seat.me c.store.new.seat.me _ _ _ (c.seated.view_is ∙ c.e.view_is) c.seated.invariant.0 c.store.ensures.2 c.store.ensures.0 c.arrive.ensures
