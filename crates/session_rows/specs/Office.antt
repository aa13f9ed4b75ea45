-- An office of one desk and two parties, for sessions of the first.
use Rattle.std.specs.Prelude.{◌≡◌, List, [], ◌∷◌, length}
use Rattle.office_view.specs.View.{View}
use Rattle.options_machine.specs.declared.reply.Reply.{Reply}
use Rattle.options_machine.specs.declared.reply.Request.{Request}
use Rattle.session.specs.Pass.{AreIdle, AreOf}
use Rattle.turn_lock.specs.Passes.{Lock, Pass}
use Rattle.session_rows.specs.declared.book.BookLaw.{BookLaw}
use Rattle.session_rows.specs.Turns.{IsOf, account_of}

-- one counter, and the pass of the other party, of the one desk
pub record IsManned (counters : List (Pass BookLaw Request Reply)) (other : Pass BookLaw Request Reply) (office : View (Lock BookLaw)) : Type 0 where
  pub desk : Lock BookLaw
  pub one : office.desks ≡ desk ∷ []
  pub parties : desk.id.parties ≡ 2
  pub counter : length counters ≡ 1
  pub pools : length office.pools ≡ 1
  pub lock : other.lock ≡ desk.id
  pub number : other.number ≡ 1
  pub below : other.law.parties ≡ 2
  pub of : AreOf IsOf account_of counters office
  pub idle : AreIdle account_of counters
