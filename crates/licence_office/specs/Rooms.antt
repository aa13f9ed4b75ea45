-- What an office keeps for its end.
use Rattle.std.specs.Prelude.{◌≡◌, ℕ, ◌<◌, ◌≤◌, All, List, [], get_or, length, map, vec_capacity}
use Rattle.feature_desk.specs.Closings.{IsKeeperOf}
use Rattle.feature_desk.specs.Sitters.{DeskView}
use Rattle.options_machine.specs.declared.reply.Entry.{Entry}
use Rattle.licence_office.specs.declared.closing.OfficeEnd.{OfficeEnd}
use Rattle.licence_office.specs.declared.logs.DeskEnd.{DeskEnd}
use Rattle.licence_office.specs.declared.logs.OfficeLogs.TheInside as Logs
use Rattle.licence_office.specs.declared.office.Office.TheInside as Desks
use Rattle.licence_office.specs.Logs.{HaveGrown, untouched_keeper}

-- what the end of a desk of n parties takes: its keeper, and room for their passes
pub record IsEndOf (n : ℕ) (d : DeskView) (e : DeskEnd) : Type 0 where
  pub parties : d.lock.id.parties ≡ n
  pub keeper : IsKeeperOf e.keeper d
  pub empty : e.room.items ≡ []
  pub room : n ≤ vec_capacity e.room

-- one end for each desk, in order
pub record AreEnds (n : ℕ) (desks : List DeskView) (ends : List DeskEnd) : Type 0 where
  pub many : length ends ≡ length desks
  pub each : (j : ℕ) (d : DeskView) (e : DeskEnd) → j < length desks → IsEndOf n (get_or desks j d) (get_or ends j e)

-- nothing was told, and there is room for what so many desks tell
pub record HasRoom (many : ℕ) (told : OfficeEnd) : Type 0 where
  pub no_tallies : told.tallies.items ≡ []
  pub no_logs : told.logs.items ≡ []
  pub tallies : many ≤ vec_capacity told.tallies
  pub logs : many ≤ vec_capacity told.logs

-- each desk is one of all parties of the office
abbrev pub IsOffice : Desks.Inside → Type 0
IsOffice o = All (λ (d : DeskView). d.lock.id.parties ≡ o.parties) o.view.desks

-- an empty list with room for the passes of n parties
pub record HasPlace (n : ℕ) (e : DeskEnd) : Type 0 where
  pub empty : e.room.items ≡ []
  pub room : n ≤ vec_capacity e.room

-- there is what the end of each desk takes
pub record HasEnds (l : Logs.Inside) : Type 0 where
  pub places : All (HasPlace l.parties) l.ends.items
  pub told : HasRoom (length l.ends.items) l.told

-- what was taken out of the log of a desk
abbrev pub taken_at : DeskEnd → List Entry
taken_at e = e.keeper.book.taken

-- more may have been taken, and all else is as it was
pub record AreTaken (old new : List DeskEnd) : Type 0 where
  pub keepers : map (λ (e : DeskEnd). untouched_keeper e.keeper) new ≡ map (λ (e : DeskEnd). untouched_keeper e.keeper) old
  pub rooms : map (λ (e : DeskEnd). e.room) new ≡ map (λ (e : DeskEnd). e.room) old
  pub grown : HaveGrown (map taken_at old) (map taken_at new)
