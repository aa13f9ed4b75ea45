use Rattle.std.proofs.Common.{◌%◌, ◌^◌, ◌<◌, All, length, ap, ◌∙◌, sym, subst}
use Rattle.kex_words.proofs.Uses.{all_numbered}
use Rattle.kex_words.proofs.Gathers.{count_numbers}
use Rattle.kex_words.proofs.words.KexTable.close.Goals as goal

pub close_gathered-requires-clause-count : goal.close_gathered-requires-clause-count
close_gathered-requires-clause-count c = ap length c.gather_all-gathering.ensures.numbers ∙ (count_numbers c.args.passes.items ∙ (sym c.args.passes.ok.0 ∙ c.requires.count))

pub returns-clause-uses : goal.returns-clause-uses
returns-clause-uses c = c.close_gathered.ensures.uses ∙ ap (λ n. n % 2 ^ 64) c.gather_all-gathering.ensures.all

pub returns-clause-below : goal.returns-clause-below
returns-clause-below c = all_numbered _ _ (subst (All (λ q. q < c.args.self.net.parties)) c.gather_all-gathering.ensures.numbers c.close_gathered.ensures.below)
