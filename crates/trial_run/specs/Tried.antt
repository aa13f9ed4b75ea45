-- What a trial tells.
use Rattle.std.specs.Prelude.{◌≡◌, ℕ, ◌*◌, ◌<◌, suc, List, [], ◌∷◌, length, get_or, map}
use Rattle.counter.specs.Account.{grants}
use Rattle.daemon_outside.specs.Sites.{Kept}
use Rattle.daemon_run.specs.Join.{IsHistory}
use Rattle.door_worker.specs.Visits.{IsSession, Visit}
use Rattle.feature_desk.specs.Sitters.{DeskView}
use Rattle.options_machine.specs.declared.reply.Entry.{Entry}
use Rattle.session.specs.Acts.{moments_of, talk_of}
use Rattle.session.specs.Table.{Setup}
use Rattle.trial_link.specs.Plays.{IsTalk}
use Rattle.trial_rounds.specs.Rounds.{trial_setup}
use Rattle.trial_run.specs.declared.player.Trial.{Trial}

-- the one session of each party, as the list of its sessions
abbrev pub each_alone : List Visit → List (List Visit)
each_alone visits = map (λ (v : Visit). v ∷ []) visits

-- what a site keeps of posts of which only clock, gate and bell were used, numbered from here: no talk of a door, and the moments of these sessions
abbrev pub kept_of : ℕ → List Visit → List Kept
kept_of base [] = []
kept_of base (v ∷ visits) = record { number = base; talks = []; moments = moments_of v.acts } ∷ kept_of (suc base) visits

-- the session of the client of this number, of so many rounds: of its party alone, over a talk that this client can have had
pub record IsPlayed (number rounds : ℕ) (o : Setup) (v : Visit) : Type 0 where
  pub is_session : IsSession o v
  pub talk : IsTalk number rounds (talk_of v.acts)

-- what a trial of so many clients, each of so many rounds, at this desk tells: one session for each client, and one history of the desk, in which each client was granted a seat once in each of its rounds, and no one else was; it tells these grants, and as many uses of the cards
pub record Tried (desk : DeskView) (seats clients rounds : ℕ) (kept : List Visit → Type 0) (trial : Trial) : Type 0 where
  pub sessions : List Visit
  pub history : List Entry
  pub clients_are : length sessions ≡ clients
  pub played : (p : ℕ) (v : Visit) → p < clients → IsPlayed p rounds (trial_setup seats p) (get_or sessions p v)
  -- the site keeps their moments
  pub keeps : kept sessions
  -- the history is a run of the desk's rules, in which the part of each party is the entries of its session, in their order and places, and which has no other entries
  pub joined : IsHistory desk 0 (each_alone sessions) history
  pub granted : grants history ≡ clients * rounds
  pub grants_are : trial.grants ≡ clients * rounds
  pub uses_are : trial.uses ≡ clients * rounds
