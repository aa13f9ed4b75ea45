use Rattle.std.proofs.Common.{List, ap, ◌∙◌}
use Rattle.counter.specs.Glances.{glance_of}
use Rattle.options_machine.specs.Rules.{Rules}
use Rattle.desk_book.proofs.pass.BookPass.glance.Goals as goal

pub returns-clause-shows : goal.returns-clause-shows
returns-clause-shows c =
    c.glance.ensures.stands.shows ∙ ap (λ (sets : List Rules). glance_of sets c.glance.new.self.list) (c.glance.ensures.later.sets ∙ (c.self.invariant.same.sets ∙ c.self.invariant.runs.board_sets))
