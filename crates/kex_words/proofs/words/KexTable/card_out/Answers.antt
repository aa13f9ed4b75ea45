use Rattle.std.proofs.Common.{◌∙◌, sym, ap, refl}
use Rattle.kex_core.specs.Worlds.{due}
use Rattle.kex_core.specs.Shapes.{plan}
use Rattle.kex_words.proofs.Hands.{in_hand}
use Rattle.kex_words.proofs.Raises.{raised}
use Rattle.kex_words.proofs.Seats.{sits, takes_out}
use Rattle.kex_words.proofs.words.KexTable.card_out.Goals as goal

pub swap-requires : goal.swap-requires
swap-requires c = takes_out _ _ _ _ _ _ _ (sits _ _ _ _ _ _ _ _ _ _ c.self.invariant.0 c.self.view_is (c.seated.view_is ∙ c.n.view_is) c.requires.own c.seated.invariant.0 c.seated.invariant.1 c.seated.invariant.2 (sym (ap (due (plan c.self.inside.net) c.seated.inside.number) c.in-Named.is)))
    _ c.self.view_is _ _ _ _ (sym c.seated.invariant.2 ∙ c.in-Named.is) refl c.card_word.ensures

pub exchange-requires : goal.exchange-requires
exchange-requires c = (
  c.swap.ensures.0 ∙ (sits _ _ _ _ _ _ _ _ _ _ c.self.invariant.0 c.self.view_is (c.seated.view_is ∙ c.n.view_is) c.requires.own c.seated.invariant.0 c.seated.invariant.1 c.seated.invariant.2 (sym (ap (due (plan c.self.inside.net) c.seated.inside.number) c.in-Named.is))).same,
  in_hand c.seated.inside.seat.me c.swap.new.seat.me c.swap.result c.in-Named.s (sym c.seated.invariant.2 ∙ c.in-Named.is) c.swap.ensures.2,
)

pub returns-clause-uses : goal.returns-clause-uses
returns-clause-uses c = raised _ _ c.seated.inside.seat.me c.swap.new.seat.me c.swap.result c.in-Named.s _ _ (sym c.seated.invariant.2 ∙ c.in-Named.is) c.seated.invariant.0 c.swap.ensures.2 (c.seated.view_is ∙ c.n.view_is) (c.exchange.ensures.0 ∙ c.swap.ensures.0) (ap (λ z. z.0) c.exchange.ensures.3)

pub returns-clause-moved : goal.returns-clause-moved
returns-clause-moved c = (raised _ _ c.seated.inside.seat.me c.swap.new.seat.me c.swap.result c.in-Named.s _ _ (sym c.seated.invariant.2 ∙ c.in-Named.is) c.seated.invariant.0 c.swap.ensures.2 (c.seated.view_is ∙ c.n.view_is) (c.exchange.ensures.0 ∙ c.swap.ensures.0) (ap (λ z. z.0) c.exchange.ensures.3)).0
