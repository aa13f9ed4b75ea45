-- What is seen of a book.
use Rattle.std.specs.Prelude.{ℕ, List}
use Rattle.options_machine.specs.Rules.{Rules}
use Rattle.options_machine.specs.State.{State}
use Rattle.policy.specs.Books.{Book}

-- its rule sets, for how many parties it is, its state, and how many replies brought a seat since it was made, modulo 2^64
pub record BookWithGrants : Type 0 where
  pub sets : List Rules
  pub parties : ℕ
  pub state : State
  pub grants : ℕ

-- the same without the grants
abbrev pub rows_of : BookWithGrants → Book
rows_of b = record { sets = b.sets; parties = b.parties; state = b.state }
