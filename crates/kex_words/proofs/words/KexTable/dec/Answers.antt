use Rattle.std.proofs.Common.{◌∙◌}
use Rattle.kex_words.proofs.Made.{made}
use Rattle.kex_words.proofs.Seats.{sits, lowers, placed_for}
use Rattle.kex_words.proofs.words.KexTable.dec.Goals as goal

pub fetch_sub-stored-requires : goal.fetch_sub-stored-requires
fetch_sub-stored-requires c = lowers _ _ _ _ _ _ _ (sits _ _ _ _ _ _ _ _ _ _ c.self.invariant.0 c.self.view_is (c.seated.view_is ∙ c.e.view_is) c.requires.own c.seated.invariant.0 c.seated.invariant.1 c.seated.invariant.2 c.due-due.ensures) _ _ _ _ c.in-Dec.is c.counter_word.ensures

pub next-requires-clause-placed : goal.next-requires-clause-placed
next-requires-clause-placed c = placed_for _ _ _ _ _ _ _ (sits _ _ _ _ _ _ _ _ _ _ c.self.invariant.0 c.self.view_is (c.seated.view_is ∙ c.e.view_is) c.requires.own c.seated.invariant.0 c.seated.invariant.1 c.seated.invariant.2 c.due-due.ensures) _ c.self.view_is _ c.in-Dec.is

pub returns-clause-moved : goal.returns-clause-moved
returns-clause-moved c = made _ _ c.seated.inside.seat.me c.fetch_sub-stored.new.seat.me _ _ _ (c.seated.view_is ∙ c.e.view_is) c.seated.invariant.0 c.fetch_sub-stored.ensures.2 c.fetch_sub-stored.ensures.0 c.next.ensures.same
