use Rattle.std.proofs.Common.{◌<◌, sym, ap, ◌∙◌, arith}
use Rattle.kex_words.specs.Passes.{TableNet, counted_card}
use Rattle.kex_words.proofs.Close.{wholes_at}
use Rattle.kex_words.proofs.Uses.{sums, all_below}
use Rattle.kex_words.proofs.words.KexTable.close_gathered.Goals as goal

pub take_cards-requires-clause-home : goal.take_cards-requires-clause-home
take_cards-requires-clause-home c k l =
    let w = wholes_at _ _ _ _ _ _ _ _ _ _ c.self.invariant.0 c.self.view_is c.gathering.view_is c.gathering.invariant c.requires.count c.close_with-closed.ensures.values.2 in
    (counted_card c.args.gathering.got k, w.cards k (let n = c.width.ensures ∙ ap (λ (x : TableNet). x.net.width) c.self.view_is in omega arith))

pub returns-clause-cards : goal.returns-clause-cards
returns-clause-cards c k l =
    let w = wholes_at _ _ _ _ _ _ _ _ _ _ c.self.invariant.0 c.self.view_is c.gathering.view_is c.gathering.invariant c.requires.count c.close_with-closed.ensures.values.2 in
    let inside : k < c.width.result = let n = c.take_cards.ensures.count in let o = c.take_cards.new.cards.ok.0 in omega arith in
    c.take_cards.ensures.cards k (counted_card c.args.gathering.got k) inside (w.cards k (let n = c.width.ensures ∙ ap (λ (x : TableNet). x.net.width) c.self.view_is in omega arith))

pub returns-clause-numbers : goal.returns-clause-numbers
returns-clause-numbers c = (wholes_at _ _ _ _ _ _ _ _ _ _ c.self.invariant.0 c.self.view_is c.gathering.view_is c.gathering.invariant c.requires.count c.close_with-closed.ensures.values.2).numbers

pub returns-clause-got : goal.returns-clause-got
returns-clause-got c = (wholes_at _ _ _ _ _ _ _ _ _ _ c.self.invariant.0 c.self.view_is c.gathering.view_is c.gathering.invariant c.requires.count c.close_with-closed.ensures.values.2).got

pub returns-clause-below : goal.returns-clause-below
returns-clause-below c = all_below _ _ (wholes_at _ _ _ _ _ _ _ _ _ _ c.self.invariant.0 c.self.view_is c.gathering.view_is c.gathering.invariant c.requires.count c.close_with-closed.ensures.values.2).below

pub returns-clause-uses : goal.returns-clause-uses
returns-clause-uses c = sums _ _ _ (sym c.take_cards.new.cards.ok.0 ∙ (c.take_cards.ensures.count ∙ (c.width.ensures ∙ ap (λ (x : TableNet). x.net.width) c.self.view_is))) (returns-clause-cards c) (returns-clause-got c)
