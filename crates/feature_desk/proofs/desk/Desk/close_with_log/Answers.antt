use Rattle.std.proofs.Common.{◌%◌, ◌^◌, List, map, ap, sym, ◌∙◌, subst}
use Rattle.std.specs.List.{sum_by}
use Rattle.kex_words.specs.declared.card.Card.{Card}
use Rattle.options_machine.specs.declared.reply.Entry.{Entry}
use Rattle.feature_desk.specs.Closings.{AreClosable, HasLog, Tells}
use Rattle.feature_desk.specs.Sitters.{DeskView, account_of}
use Rattle.feature_desk.proofs.Ends.{locks_are, tells}
use Rattle.feature_desk.proofs.desk.Desk.close_with_log.Goals as goal

pub close_book-log-requires-clause-lock : goal.close_book-log-requires-clause-lock
close_book-log-requires-clause-lock g c =
    let d : DeskView = record { lock = c.self.inside.turns; seats = c.self.inside.seats } in
    let all = subst (λ (z : DeskView). AreClosable z c.args.passes.items) (sym c.self.view_is) c.requires.all in
    locks_are d c.args.passes.items all c.split-gathering.new.tickets.items c.split-gathering.ensures.tickets

pub returns : goal.returns
returns g c =
    let d : DeskView = record { lock = c.self.inside.turns; seats = c.self.inside.seats } in
    let all = subst (λ (z : DeskView). AreClosable z c.args.passes.items) (sym c.self.view_is) c.requires.all in
    let s = c.split-gathering in let closed = c.close_book-log in let cards = c.close_gathered-cards in
    subst (λ (z : DeskView). (x : List Entry) × Tells z (map account_of c.args.passes.items) (record { calls = closed.result.calls; grants = closed.result.grants; uses = c.uses.result }) x × HasLog closed.result.log x) c.self.view_is
    (tells d c.args.passes.items all s.new.tickets.items s.ensures.tickets s.ensures.settled closed.result closed.ensures.0 closed.ensures.1 c.uses.result cards.result.items s.result.got
    (c.uses.ensures ∙ ap (λ (l : List Card). sum_by (λ (x : Card). x.uses) l % 2 ^ 64) c.deref.ensures.value) cards.ensures.uses s.ensures.got)
