use Rattle.std.proofs.Common.{rules, not}
use Rattle.std.proofs.lemmas.Fn.{filter_same}
use Rattle.options_machine.specs.State.{is_queuer}
use Rattle.seat_book.proofs.members.drop_queuer.Goals as goal

pub returns-clause-items : goal.returns-clause-items
returns-clause-items c = filter_same _ (λ q. not (is_queuer c.args.party q)) _ (search rules) _ _ c.retain.ensures.filtered
