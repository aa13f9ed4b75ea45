-- The sessions that a worker served, one after another.
use Rattle.std.specs.Prelude.{ℕ, ◌≤◌, Bool, true, false, List, map, flat_map}
use Rattle.std.specs.List.{list_any, AllByRecursion}
use Rattle.counter.specs.Account.{Account}
use Rattle.session_outside.specs.Talk.{Counted, Event, Follows}
use Rattle.session.specs.Acts.{Act, moments_of, talk_of}
use Rattle.session.specs.Pass.{Gains}
use Rattle.session.specs.Session.{KeepsNothing, Session}
use Rattle.session.specs.Table.{Setup}
use Rattle.session.specs.declared.end.SessionEnd.{SessionEnd}
use Rattle.session.specs.declared.end.SessionEnd.TheVariants as ends

-- one session: what was done, and how it ended
pub record Visit : Type 0 where
  pub acts : List Act
  pub end : SessionEnd

-- it is a session of this setup, and has given everything back at its end
pub record IsSession (o : Setup) (v : Visit) : Type 0 where
  pub session : Session o v.acts v.end
  pub gives_back : KeepsNothing o v.acts

-- each of them is
abbrev pub AreSessions : Setup → List Visit → Type 0
AreSessions o visits = AllByRecursion (IsSession o) visits

-- whether a session ended at a SHUTDOWN
abbrev pub is_down : SessionEnd → Bool
is_down ends.Quit = false
is_down ends.Down = true
is_down ends.End = false
is_down (ends.Torn n) = false
is_down ends.LineTooLong = false
is_down ends.LinkFault = false
is_down ends.Stopped = false

-- all that was done in them, in order
abbrev pub acts_in : List Visit → List Act
acts_in visits = flat_map (λ (v : Visit). v.acts) visits

-- the talk of each of their links
abbrev pub talks_in : List Visit → List (List Event)
talks_in visits = map (λ (v : Visit). talk_of v.acts) visits

-- whether one of them ended at a SHUTDOWN
abbrev pub rang : List Visit → Bool
rang visits = list_any (λ (v : Visit). is_down v.end) visits

-- what a worker's sessions did: its counters gained their entries and no others, its door was told of their talks, its clock gave their moments, and its bell was rung exactly where one of them ended at a SHUTDOWN
pub record Served {C D K B : Type 0} (account : C → Account) (talks : D → List (List Event) → Type 0) (gave : K → List ℕ → Type 0) (tolls rings : B → ℕ) (visits : List Visit)
    (pass0 pass1 : List C) (door0 door1 : D) (clock0 clock1 : K) (bell0 bell1 : B) : Type 0 where
  pub gains : Gains account (acts_in visits) pass0 pass1
  pub told : Follows talks door0 door1 (talks_in visits)
  pub moments : Follows gave clock0 clock1 (moments_of (acts_in visits))
  pub rung : Counted (rang visits) (rings bell0) (rings bell1)
  pub heard : tolls bell0 ≤ tolls bell1
