-- What a worker did.
use Rattle.std.specs.Prelude.{◌≡◌, ℕ, ◌<◌, List, length, slice_index_or}
use Rattle.counter.specs.Account.{Account}
use Rattle.door_worker.specs.Ends.{HasCause}
use Rattle.door_worker.specs.Visits.{AreSessions, Served, Visit}
use Rattle.office_view.specs.View.{View}
use Rattle.session.specs.Session.{setup_of}
use Rattle.session_outside.specs.Talk.{Event}
use Rattle.daemon_run.specs.declared.worker.Worker.{Worker}

module _ {P C E D K B G : Type 0} (counters : P → List C) (account : C → Account) (office : View E) (talks : D → List (List Event) → Type 0) (gave : K → List ℕ → Type 0) (faults quiets fails lent : D → ℕ) (tolls rings : B → ℕ) where
  -- it served these sessions at its post, and ended with a cause
  pub record Worked (old new : Worker P D K B G) : Type 0 where
    pub visits : List Visit
    pub sessions : AreSessions (setup_of account office (counters old.pass)) visits
    pub served : Served account talks gave tolls rings visits (counters old.pass) (counters new.pass) old.post.door new.post.door old.post.clock new.post.clock old.post.bell new.post.bell
    pub number : new.post.number ≡ old.post.number
    pub lent_is : lent new.post.door ≡ lent old.post.door
    pub cause : HasCause new.end (tolls old.post.bell) (tolls new.post.bell) (quiets old.post.door) (quiets new.post.door) (faults old.post.door) (faults new.post.door) (fails new.post.door)

  -- each of them did
  abbrev pub AllWorked : List (Worker P D K B G) → List (Worker P D K B G) → Type 0
  AllWorked olds news = (i : ℕ) (d : Worker P D K B G) → i < length olds → Worked (slice_index_or olds i d) (slice_index_or news i d)
