-- What an office of one pool tells at its close.
use Rattle.std.specs.Prelude.{◌≡◌, List, Vec}
use Rattle.feature_desk.specs.Closings.{Tells}
use Rattle.feature_desk.specs.Sitters.{DeskView, Sitter}
use Rattle.feature_desk.specs.declared.closing.DeskTally.{DeskTally}
use Rattle.licence_office.specs.Offices.{accounts_at}
use Rattle.options_machine.specs.declared.reply.Entry.{Entry}
use Rattle.trial_run.specs.declared.player.Trial.{Trial}

-- there is one history of the desk, of which it tells the grants and the uses of the cards
pub record HasClosed {Z : Type 0} (desk : DeskView) (passes : List (Vec Sitter Z)) (trial : Trial) : Type 0 where
  pub history : List Entry
  pub tally : DeskTally
  pub tells : Tells desk (accounts_at 0 passes) tally history
  pub grants_is : trial.grants ≡ tally.grants
  pub uses_are : trial.uses ≡ tally.uses
