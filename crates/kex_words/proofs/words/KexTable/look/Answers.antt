use Rattle.std.proofs.Common.{◌∙◌, sym, ap, refl}
use Rattle.kex_core.specs.Worlds.{due}
use Rattle.kex_core.specs.Shapes.{plan}
use Rattle.kex_words.proofs.Made.{made}
use Rattle.kex_words.proofs.Seats.{sits, reads_counter}
use Rattle.kex_words.proofs.words.KexTable.look.Goals as goal

pub load-counter-requires : goal.load-counter-requires
load-counter-requires c = reads_counter _ _ _ _ _ _ _ (sits _ _ _ _ _ _ _ _ _ _ c.self.invariant.0 c.self.view_is (c.seated.view_is ∙ c.e.view_is) c.requires.own c.seated.invariant.0 c.seated.invariant.1 c.seated.invariant.2 (sym (ap (due (plan c.self.inside.net) c.seated.inside.number) c.in-Look.is))) _ _ _ _ refl c.counter_word.ensures

pub returns-clause-moved : goal.returns-clause-moved
returns-clause-moved c = made _ _ c.seated.inside.seat.me c.load-counter.new.seat.me _ _ _ (c.seated.view_is ∙ c.e.view_is) c.seated.invariant.0 c.load-counter.ensures.2 c.load-counter.ensures.0 c.next.ensures.same
