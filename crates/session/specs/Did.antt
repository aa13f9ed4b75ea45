-- What the others saw of a session's acts.
use Rattle.std.specs.Prelude.{◌≡◌, ◌≢◌, ℕ, ◌<◌, Bool, true, false, List, [], ◌∷◌, flat_map, length, get_or}
use Rattle.std.specs.List.{list_any}
use Rattle.counter.specs.Account.{Account}
use Rattle.office_view.specs.View.{View}
use Rattle.options_machine.specs.Own.{holds, queues}
use Rattle.session_outside.specs.Talk.{Counted, Event, Follows, HasRisen, Heard, Silence, Ended, ReadFault, Wrote, WriteFault}
use Rattle.session.specs.Acts.{Act, Answered, Peal, Rung, moments_of, peals_of, talk_of}
use Rattle.session.specs.Pass.{Gains}
use Rattle.session.specs.Table.{Setup, is_holding_at, is_queued_at, party_at}
use Rattle.session.specs.declared.end.SessionEnd.{SessionEnd}
use Rattle.session.specs.declared.end.SessionEnd.TheVariants as ends

-- whether a call of the link failed
abbrev pub is_fault : Event → Bool
is_fault (Heard piece) = false
is_fault Silence = false
is_fault Ended = false
is_fault ReadFault = true
is_fault (Wrote piece) = false
is_fault (WriteFault part) = true

-- whether nothing came
abbrev pub is_silence : Event → Bool
is_silence (Heard piece) = false
is_silence Silence = true
is_silence Ended = false
is_silence ReadFault = false
is_silence (Wrote piece) = false
is_silence (WriteFault part) = false

-- the link told this, its faults rose exactly where it failed, and its quiets exactly where nothing came
pub record Linked {L : Type 0} (tells : L → List Event → Type 0) (faults quiets : L → ℕ) (talk : List Event) (old new : L) : Type 0 where
  pub told : Follows tells old new talk
  pub fault : Counted (list_any is_fault talk) (faults old) (faults new)
  pub quiet : Counted (list_any is_silence talk) (quiets old) (quiets new)

-- whether the bell said yes
abbrev pub is_toll : Peal → Bool
is_toll (Answered rung) = rung
is_toll Rung = false

-- whether the bell was rung
abbrev pub is_ring : Peal → Bool
is_ring (Answered rung) = false
is_ring Rung = true

-- the bell's answer, where it was asked
abbrev pub answer_in : Peal → List Bool
answer_in (Answered rung) = rung ∷ []
answer_in Rung = []

-- the bell gave these answers, its tolls rose exactly where one of them was yes, and its rings exactly where it was rung
pub record Belled {B : Type 0} (answered : B → List Bool → Type 0) (tolls rings : B → ℕ) (peals : List Peal) (old new : B) : Type 0 where
  pub told : Follows answered old new (flat_map answer_in peals)
  pub toll : Counted (list_any is_toll peals) (tolls old) (tolls new)
  pub ring : Counted (list_any is_ring peals) (rings old) (rings new)

-- the counters gained the entries of these acts, the link told their talk, the clock gave their moments, and the bell saw their peals
pub record Did {C L K B : Type 0} (account : C → Account) (tells : L → List Event → Type 0) (faults quiets : L → ℕ) (gave : K → List ℕ → Type 0) (answered : B → List Bool → Type 0) (tolls rings : B → ℕ)
    (acts : List Act) (pass0 pass1 : List C) (link0 link1 : L) (clock0 clock1 : K) (bell0 bell1 : B) : Type 0 where
  pub pass : Gains account acts pass0 pass1
  pub link : Linked tells faults quiets (talk_of acts) link0 link1
  pub clock : Follows gave clock0 clock1 (moments_of acts)
  pub bell : Belled answered tolls rings (peals_of acts) bell0 bell1

-- neither the link nor the bell saw anything
pub record IsSilent (acts : List Act) : Type 0 where
  pub talk : talk_of acts ≡ []
  pub peals : peals_of acts ≡ []

-- a counter stands where the session does: it is the setup's party, and holds and waits where the session does
pub record StandsAt (o : Setup) (acts : List Act) (j : ℕ) (a : Account) : Type 0 where
  pub party : a.party ≡ party_at o j
  pub holds : holds a.mine a.party ≡ is_holding_at o acts j
  pub queues : queues a.mine a.party ≡ is_queued_at o acts j

-- the setup is of this office, and the counters stand where the session does
pub record Agrees {C D : Type 0} (account : C → Account) (v : View D) (o : Setup) (acts : List Act) (cs : List C) : Type 0 where
  pub pools : o.pools ≡ v.pools
  pub sets : o.sets ≡ v.sets
  pub long : length o.parties ≡ length cs
  pub each : (j : ℕ) (c : C) → j < length cs → StandsAt o acts j (account (get_or cs j c))

-- the end has its cause in the counts of this call
pub record HasCause (end : SessionEnd) (faults0 faults1 quiets0 quiets1 tolls0 tolls1 rings0 rings1 : ℕ) : Type 0 where
  pub fault : end ≡ ends.LinkFault → HasRisen faults0 faults1
  pub quiet : end ≡ ends.Stopped → HasRisen quiets0 quiets1
  pub toll : end ≡ ends.Stopped → HasRisen tolls0 tolls1
  pub rung : end ≡ ends.Down → HasRisen rings0 rings1
  pub unrung : end ≢ ends.Down → rings1 ≡ rings0
