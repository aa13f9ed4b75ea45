use Rattle.std.proofs.Common.{◌∙◌, refl, sym, ap}
use Rattle.atomic_table.specs.Table.{rest}
use Rattle.kex_core.specs.declared.place.Place.TheVariants.{Holding}
use Rattle.kex_words.proofs.Made.{made_home}
use Rattle.kex_words.proofs.Seats.{sits_holding, gives_home}
use Rattle.kex_words.proofs.words.KexTable.card_in.Goals as goal

pub swap-found-requires : goal.swap-found-requires
swap-found-requires c = let i = c.h.invariant in let k_is = ap (λ x. x.number) i.2 in
    gives_home _ _ _ _ c.h.inside.seat.me _ _ (sits_holding _ _ _ _ _ _ _ c.h.inside.card.number _ c.self.invariant.0 c.self.view_is c.h.view_is c.requires.own i.0 i.1 k_is) _ c.self.view_is c.exchange-before.new.seat.me _ c.h.inside.card _ _ _ _ refl
    (i.0.place_is ∙ ap Holding (sym k_is)) refl (ap (λ x. x.uses) i.2) (ap (λ z. rest z.1) i.0.sits) c.exchange-before.ensures.0 c.exchange-before.ensures.3 c.card_word.ensures

pub returns-clause-moved : goal.returns-clause-moved
returns-clause-moved c = made_home _ _ c.h.inside.seat.me c.exchange-before.new.seat.me c.swap-found.new.seat.me _ _ _ c.h.view_is c.h.invariant.0 (ap (λ z. z.0) c.exchange-before.ensures.3) c.swap-found.ensures.2 (c.swap-found.ensures.0 ∙ c.exchange-before.ensures.0) c.back.ensures.same
