-- What a note of a board stands for.
use Rattle.std.specs.Prelude.{◌≡◌, ◌<◌, List, [], ◌∷◌, ◌++◌, length}
use Rattle.std.proofs.Math.Nat.{lt_irrefl}
use Rattle.logbook.specs.Pages.{Book}
use Rattle.counter.specs.Account.{Extends}
use Rattle.options_machine.specs.declared.reply.Entry.{Entry}
use Rattle.options_machine.specs.Rules.{Rules}

-- the first of a list that is not empty
abbrev pub the_first : {X : Type 0} → (xs : List X) → 0 < length xs → X
the_first [] some = absurd (lt_irrefl 0 some)
the_first (x ∷ xs) some = x

-- of which board, under which rule sets, and the list of entries
pub record Front : Type 0 where
  pub board : Book
  pub sets : List Rules
  pub list : List Entry

-- both are of one board and its rule sets
pub record IsSameBoard (f g : Front) : Type 0 where
  pub board : g.board ≡ f.board
  pub sets : g.sets ≡ f.sets

-- g is of the same board as f, and its list begins with that of f
pub record IsLater (f g : Front) : Type 0 where
  pub board : g.board ≡ f.board
  pub sets : g.sets ≡ f.sets
  pub list : Extends f.list g.list

-- the front with one entry more
abbrev pub longer : Front → Entry → Front
longer f e = record f { list = f.list ++ e ∷ [] }
