use Rattle.std.proofs.Common.{◌≤◌, ◌∙◌, sym, ap, refl, subst}
use Rattle.kex_core.specs.Sets.{is_between, others}
use Rattle.kex_core.specs.Worlds.{due}
use Rattle.kex_core.specs.Shapes.{plan}
use Rattle.kex_words.specs.Passes.{TableNet}
use Rattle.kex_words.proofs.Entries.{spins_on, spins_while}
use Rattle.kex_words.proofs.Made.{made}
use Rattle.kex_words.proofs.Seats.{sits, reads_name}
use Rattle.kex_words.proofs.words.KexTable.spin.Goals as goal

pub load-named-requires : goal.load-named-requires
load-named-requires c = reads_name _ _ _ _ _ _ _ (sits _ _ _ _ _ _ _ _ _ _ c.self.invariant.0 c.self.view_is (c.seated.view_is ∙ c.e.view_is) c.requires.own c.seated.invariant.0 c.seated.invariant.1 c.seated.invariant.2 (sym (ap (due (plan c.self.inside.net) c.seated.inside.number) c.in-Spin.is))) _ _ _ _ refl c.spin_word.ensures

pub returns-clause-stays : goal.returns-clause-stays
returns-clause-stays c = λ j m e. spins_on _ _ j m e

pub returns-clause-moved : goal.returns-clause-moved
returns-clause-moved c = made _ _ c.seated.inside.seat.me c.load-named.new.seat.me _ _ _ (c.seated.view_is ∙ c.e.view_is) c.seated.invariant.0 c.load-named.ensures.2 c.load-named.ensures.0 c.next.ensures.same

pub returns-clause-between : goal.returns-clause-between
returns-clause-between c = λ j m e stays.
    subst (λ (t : TableNet). (plan t.net).cap j ≤ others is_between (plan t.net) m.ruled.world c.args.e.number j) c.requires.own (spins_while _ _ j m e stays)
