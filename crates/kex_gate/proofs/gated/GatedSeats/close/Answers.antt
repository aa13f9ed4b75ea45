use Rattle.std.proofs.Common.{◌∙◌, sym, ap, length}
use Rattle.kex_gate.proofs.Close.{sessions_counted}
use Rattle.kex_gate.proofs.Closed.{closes_home, closes_count, closes_numbers, closes_cards, closes_low, closes_uses}
use Rattle.kex_gate.proofs.gated.GatedSeats.close.Goals as goal

pub take_passes-gathering-requires-clause-home : goal.take_passes-gathering-requires-clause-home
take_passes-gathering-requires-clause-home c = closes_home _ _ _ _ _ c.args.self c.self.invariant c.self.view_is _ _ _ _ _ (sym c.args.passes.ok.0 ∙ c.requires.count) c.gather-gathering.ensures.all c.close_with-closed.ensures.values.2 (sym c.close_with-closed.result.slots.ok.0 ∙ c.close_with-closed.ensures.counts.1)

pub close_gathered-requires-clause-count : goal.close_gathered-requires-clause-count
close_gathered-requires-clause-count c = closes_count _ _ _ _ _ c.args.self c.self.invariant c.self.view_is _ _ _ _ _ (sym c.args.passes.ok.0 ∙ c.requires.count) c.gather-gathering.ensures.all c.close_with-closed.ensures.values.2 (sym c.close_with-closed.result.slots.ok.0 ∙ c.close_with-closed.ensures.counts.1) _ _ (ap length c.gather-gathering.ensures.numbers ∙ sessions_counted c.args.passes.items) c.take_passes-gathering.ensures.count

pub returns-clause-cards : goal.returns-clause-cards
returns-clause-cards c = closes_cards _ _ _ _ _ c.args.self c.self.invariant c.self.view_is _ _ _ _ _ (sym c.args.passes.ok.0 ∙ c.requires.count) c.gather-gathering.ensures.all c.close_with-closed.ensures.values.2 (sym c.close_with-closed.result.slots.ok.0 ∙ c.close_with-closed.ensures.counts.1) _ _ c.gather-gathering.ensures.slow c.take_passes-gathering.ensures.got _ c.close_gathered.ensures.cards

pub returns-clause-uses : goal.returns-clause-uses
returns-clause-uses c = closes_uses _ _ _ _ _ c.args.self c.self.invariant c.self.view_is _ _ _ _ _ (sym c.args.passes.ok.0 ∙ c.requires.count) c.gather-gathering.ensures.all c.close_with-closed.ensures.values.2 (sym c.close_with-closed.result.slots.ok.0 ∙ c.close_with-closed.ensures.counts.1) _ _ c.gather-gathering.ensures.slow c.take_passes-gathering.ensures.got _ (sym c.close_gathered.result.ok.0 ∙ c.close_gathered.ensures.count) c.close_gathered.ensures.cards c.close_gathered.ensures.got

pub returns-clause-numbers : goal.returns-clause-numbers
returns-clause-numbers c q lt = closes_numbers _ _ _ _ _ c.args.self c.self.invariant c.self.view_is _ _ _ _ _ (sym c.args.passes.ok.0 ∙ c.requires.count) c.gather-gathering.ensures.all c.close_with-closed.ensures.values.2 (sym c.close_with-closed.result.slots.ok.0 ∙ c.close_with-closed.ensures.counts.1) q _ _ lt c.gather-gathering.ensures.numbers (c.take_passes-gathering.ensures.numbers q) c.close_gathered.ensures.numbers

pub returns-clause-got : goal.returns-clause-got
returns-clause-got c = closes_low _ _ _ _ _ c.args.self c.self.invariant c.self.view_is _ _ _ _ _ (sym c.args.passes.ok.0 ∙ c.requires.count) c.gather-gathering.ensures.all c.close_with-closed.ensures.values.2 (sym c.close_with-closed.result.slots.ok.0 ∙ c.close_with-closed.ensures.counts.1) _ _ c.gather-gathering.ensures.slow c.take_passes-gathering.ensures.got c.close_gathered.ensures.got
