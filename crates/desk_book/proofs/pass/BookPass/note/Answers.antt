use Rattle.std.proofs.Common.{◌≤◌, length, subst}
use Rattle.desk_book.specs.Askers.{Asker}
use Rattle.desk_book.proofs.Askers.{known_longer}
use Rattle.desk_book.proofs.pass.BookPass.note.Goals as goal

pub returns-clause-board : goal.returns-clause-board
returns-clause-board c =
    rw c.note.ensures (subst (λ (a : Asker). a.board ≤ length c.self.inside.view.list) c.self.view_is (known_longer c.self.inside.ticket c.self.inside.board c.self.inside.view c.self.invariant))
