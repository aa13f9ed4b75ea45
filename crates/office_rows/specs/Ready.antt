-- Parties who can come to an office.
use Rattle.std.specs.Prelude.{List}
use Rattle.feature_desk.specs.Sitters.{DeskView, IsOf, Sitter, account_of}
use Rattle.office_view.specs.View.{View}
use Rattle.session.specs.Pass.{AreIdle, AreOf}

-- a party's passes are of the office, and none is holding or waiting
pub record IsReady (office : View DeskView) (passes : List Sitter) : Type 0 where
  pub of : AreOf IsOf account_of passes office
  pub idle : AreIdle account_of passes
