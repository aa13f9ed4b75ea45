-- What is given to workers, and given back of them.
use Rattle.std.specs.Prelude.{◌≡◌, ℕ, ◌+◌, ◌<◌, zero, suc, Bool, true, false, nat_lt, nat_le, List, [], ◌∷◌, length, get_or, map}
use Rattle.std.specs.List.{list_any}
use Rattle.daemon_outside.specs.Doors.{most_fails}
use Rattle.daemon_outside.specs.Sites.{IsNew, Kept, was_heard}
use Rattle.door_worker.specs.Visits.{Visit, acts_in, talks_in}
use Rattle.door_worker.specs.declared.end.DoorEnd.{DoorEnd}
use Rattle.door_worker.specs.declared.end.DoorEnd.TheVariants.{Rung, Broken}
use Rattle.session.specs.Acts.{moments_of}
use Rattle.session_outside.specs.Talk.{Event}
use Rattle.daemon_run.specs.declared.worker.Worker.{Worker}

module _ {P D K B G : Type 0} (talks : D → List (List Event) → Type 0) (gave : K → List ℕ → Type 0) where
  -- this is what a site keeps of the worker's post
  pub record IsKept (w : Worker P D K B G) (k : Kept) : Type 0 where
    pub number_is : k.number ≡ w.post.number
    pub talks_are : talks w.post.door k.talks
    pub moments_are : gave w.post.clock k.moments

  -- this is what a site keeps of each, in order
  abbrev pub AreKept : List (Worker P D K B G) → List Kept → Type 0
  AreKept [] [] = Unit {0}
  AreKept [] (k ∷ ks) = ⊥
  AreKept (w ∷ ws) [] = ⊥
  AreKept (w ∷ ws) (k ∷ ks) = IsKept w k × AreKept ws ks

-- what a site keeps of posts with these sessions, numbered from here
abbrev pub kept_from : ℕ → List (List Visit) → List Kept
kept_from base [] = []
kept_from base (visits ∷ others) = record { number = base; talks = talks_in visits; moments = moments_of (acts_in visits) } ∷ kept_from (suc base) others

-- no session for each of so many parties
abbrev pub no_sessions : ℕ → List (List Visit)
no_sessions zero = []
no_sessions (suc n) = [] ∷ no_sessions n

-- what a site keeps of these workers' posts with these sessions
abbrev pub kept_as : {P D K B G : Type 0} → List (Worker P D K B G) → List (List Visit) → List Kept
kept_as [] visits = []
kept_as (w ∷ ws) [] = []
kept_as (w ∷ ws) (visits ∷ others) = record { number = w.post.number; talks = talks_in visits; moments = moments_of (acts_in visits) } ∷ kept_as ws others

module _ {P D K B G : Type 0} where
  -- whether a bell was heard at its door
  abbrev pub any_heard : (B → ℕ) → (D → ℕ) → (D → ℕ) → List (Worker P D K B G) → Bool
  any_heard tolls quiets faults ws = list_any (λ (w : Worker P D K B G). was_heard (tolls w.post.bell) (quiets w.post.door) (faults w.post.door)) ws

  -- whether a bell was rung
  abbrev pub any_rang : (B → ℕ) → List (Worker P D K B G) → Bool
  any_rang rings ws = list_any (λ (w : Worker P D K B G). nat_lt 0 (rings w.post.bell)) ws

  -- whether a door was broken
  abbrev pub any_broken : (D → ℕ) → List (Worker P D K B G) → Bool
  any_broken fails ws = list_any (λ (w : Worker P D K B G). nat_le most_fails (fails w.post.door)) ws

  -- the counters of each
  abbrev pub passes_of : List (Worker P D K B G) → List P
  passes_of ws = map (λ (w : Worker P D K B G). w.pass) ws

module _ {P D K B G : Type 0} (talks : D → List (List Event) → Type 0) (gave : K → List ℕ → Type 0) (faults quiets fails lent : D → ℕ) (tolls rings : B → ℕ) where
  -- a worker at a post of this number, at which nothing has come yet
  pub record IsStarted (n : ℕ) (w : Worker P D K B G) : Type 0 where
    pub number_is : w.post.number ≡ n
    pub unused : IsNew talks gave faults quiets fails lent tolls rings w.post.door w.post.clock w.post.bell

  -- each is, their posts numbered from here
  abbrev pub AreStarted : ℕ → List (Worker P D K B G) → Type 0
  AreStarted base ws = (i : ℕ) (d : Worker P D K B G) → i < length ws → IsStarted (base + i) (get_or ws i d)

-- whether the worker ended at a broken door
abbrev pub is_broken : DoorEnd → Bool
is_broken Rung = false
is_broken Broken = true
