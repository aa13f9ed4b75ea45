use Rattle.std.proofs.Common.{◌∙◌, sym, ap, refl}
use Rattle.kex_core.specs.Worlds.{due}
use Rattle.kex_core.specs.Shapes.{plan}
use Rattle.kex_words.proofs.Made.{made}
use Rattle.kex_words.proofs.Seats.{sits, raises}
use Rattle.kex_words.proofs.words.KexTable.inc.Goals as goal

pub fetch_add-found-requires : goal.fetch_add-found-requires
fetch_add-found-requires c = raises _ _ _ _ _ _ _ (sits _ _ _ _ _ _ _ _ _ _ c.self.invariant.0 c.self.view_is (c.seated.view_is ∙ c.l.view_is) c.requires.own c.seated.invariant.0 c.seated.invariant.1 c.seated.invariant.2 (sym (ap (due (plan c.self.inside.net) c.seated.inside.number) c.in-Inc.is))) _ _ _ _ refl c.counter_word.ensures

pub returns-clause-moved : goal.returns-clause-moved
returns-clause-moved c = made _ _ c.seated.inside.seat.me c.fetch_add-found.new.seat.me _ _ _ (c.seated.view_is ∙ c.l.view_is) c.seated.invariant.0 c.fetch_add-found.ensures.2 c.fetch_add-found.ensures.0 c.arrive.ensures
