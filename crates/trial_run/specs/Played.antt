-- What a client of a trial did.
use Rattle.std.specs.Prelude.{◌≡◌, ℕ, ◌+◌, ◌<◌, List, length, map, slice_index_or, Vec}
use Rattle.std.specs.declared.alloc.Global.{Global}
use Rattle.counter.specs.Account.{Account}
use Rattle.door_worker.specs.Visits.{IsSession, Visit}
use Rattle.daemon_run.specs.declared.worker.Worker.{Worker}
use Rattle.feature_desk.specs.Sitters.{Sitter}
use Rattle.office_view.specs.View.{View}
use Rattle.session.specs.Acts.{moments_of, talk_of}
use Rattle.session.specs.Pass.{Gains}
use Rattle.session.specs.Session.{setup_of}
use Rattle.session_outside.specs.Talk.{Event, Follows}
use Rattle.trial_link.specs.Plays.{HasTold, Noted}
use Rattle.trial_link.specs.declared.link.TrialLink.{TrialLink}
use Rattle.trial_run.specs.declared.player.Player.{Player}

-- what a link tells
abbrev pub TellsTrial : TrialLink → List Event → Type 0
TellsTrial l told = Noted l.number l.rounds (HasTold l.number l.rounds l.stage l.given l.played l.grants) told

module _ {E D K B G : Type 0} (account : Sitter → Account) (office : View E) (gave : K → List ℕ → Type 0) where
  -- it had one session, and its post's door stayed as it was
  pub record Played (old new : Worker Player D K B G) : Type 0 where
    pub visit : Visit
    pub is_session : IsSession (setup_of account office old.pass.counters.items) visit
    pub gains : Gains account visit.acts old.pass.counters.items new.pass.counters.items
    pub told : Follows TellsTrial old.pass.link new.pass.link (talk_of visit.acts)
    pub moments : Follows gave old.post.clock new.post.clock (moments_of visit.acts)
    pub number : new.post.number ≡ old.post.number
    pub door : new.post.door ≡ old.post.door

  -- each of them had
  abbrev pub AllPlayed : List (Worker Player D K B G) → List (Worker Player D K B G) → Type 0
  AllPlayed olds news = (i : ℕ) (d : Worker Player D K B G) → i < length olds → Played (slice_index_or olds i d) (slice_index_or news i d)

-- the counters of each
abbrev pub counters_of : List Player → List (Vec Sitter Global)
counters_of players = map (λ (p : Player). p.counters) players

-- the link of each
abbrev pub links_of : List Player → List TrialLink
links_of players = map (λ (p : Player). p.link) players

-- their posts are numbered from here, in order
abbrev pub AreNumbered : {D K B G : Type 0} → ℕ → List (Worker Player D K B G) → Type 0
AreNumbered {D} {K} {B} {G} base ws = (i : ℕ) (d : Worker Player D K B G) → i < length ws → (slice_index_or ws i d).post.number ≡ base + i
