-- The views of a seat, and what each step tells.
use Rattle.std.specs.Prelude.{◌≡◌, ℕ, ◌+◌, ◌-◌, ◌<◌, ◌==◌, if◌then◌else◌, Bool, true, false, List, [], ◌∷◌, ◌++◌, length, slice_get, EachIndex, Option, Some, None}
use mathlib.Core.Option.{some}
use lib.ListN.{get_elem?}
use Rattle.atomic_table.specs.Seated.{TableId}
use Rattle.atomic_table.specs.Table.{Me, Step, rest}
use Rattle.kex_core.specs.Shapes.{Sheet}
use Rattle.kex_words.specs.Passes.{TableNet, Pass, times}
use Rattle.pass_roles.specs.Roles.{total, made_of, number_of}
use Rattle.pass_roles.specs.declared.role.Role.TheVariants.{Maker, Party, Spent}
use Rattle.kex_gate.specs.declared.view.Spot.{Spot}
use Rattle.kex_gate.specs.declared.view.Spot.TheVariants.{Free, Testing, Taking, Fast, Clearing, Giving, Slow}
use Rattle.kex_gate.specs.declared.view.View.{View}
use Rattle.kex_gate.specs.Passes.{Guest, Way, sessions, resting, slow_seats, own_pass}
use Rattle.kex_gate.specs.Rule.{GateState, IsGate, busy_in, fast_worth}
use Rattle.kex_gate.specs.declared.gate.TheConstants.{FULL}

-- a seat's view, and the passes that it has out
abbrev pub Self : Type 0
Self = Me (Option Pass) View

abbrev pub no_table : TableId
no_table = record { words = 0; slots = 0; views_name = 0; atom = 0; block = 0; offset = 0; slot_names = [] }

abbrev pub no_net : Sheet
no_net = record { parties = 0; width = 0; caps = []; nexts = []; starts = [] }

abbrev pub no_seats : TableNet
no_seats = record { id = no_table; net = no_net }

-- the maker's view, once so many passes were dealt
abbrev pub maker : TableNet → ℕ → View
maker t m = record { seats = t; role = Maker m; spot = Free; visits = []; kept = []; met = 0; joined = [] }

abbrev pub spent_view : View
spent_view = record { seats = no_seats; role = Spent; spot = Free; visits = []; kept = []; met = 0; joined = [] }

-- a split leaves the maker with this
abbrev pub dealt_view : View → View
dealt_view v = record v { role = Maker (made_of v.role + 1) }

-- and the new seat with this
abbrev pub newcomer : View → View
newcomer v = record { seats = v.seats; role = Party (made_of v.role); spot = Free; visits = []; kept = []; met = 0; joined = [] }

-- a join keeps what the other had, and its numbers
abbrev pub both : View → View → View
both v w = record v { visits = v.visits ++ w.visits; joined = number_of w.role ∷ (w.joined ++ v.joined) }

-- the view at another spot
abbrev pub view_at : View → Spot → View
view_at v a = record v { spot = a }

-- whoever is to come to bit i of m seats: the last has none
abbrev pub spot_at : ℕ → ℕ → Spot
spot_at m i = if i + 1 == m then Taking i else Testing i

-- where a session comes that found n in the count of room: at most 256 is no room
abbrev pub spot_found : ℕ → ℕ → Spot
spot_found m n = if n - FULL == 0 then Slow else spot_at m 0

-- where one comes that found n in the bit that it tested
abbrev pub spot_tested : ℕ → ℕ → Spot → Spot
spot_tested m n (Testing i) = if n == 0 then Taking i else spot_at m (i + 1)
spot_tested m n Free = Free
spot_tested m n (Taking i) = Free
spot_tested m n (Fast i) = Free
spot_tested m n (Clearing i) = Free
spot_tested m n Giving = Free
spot_tested m n Slow = Free

-- the number of a spot
abbrev pub index_of : Spot → ℕ
index_of (Testing i) = i
index_of (Taking i) = i
index_of (Fast i) = i
index_of (Clearing i) = i
index_of Free = 0
index_of Giving = 0
index_of Slow = 0

-- where a session comes that gave pass i of m back
abbrev pub spot_home : ℕ → ℕ → Spot
spot_home m i = if i + 1 == m then Giving else Clearing i

abbrev pub last_of : List ℕ → ℕ
last_of [] = 0
last_of (x ∷ []) = x
last_of (x ∷ y ∷ ys) = last_of (y ∷ ys)

-- the last number of the pass in hand
abbrev pub last_got : Option Pass → ℕ
last_got None = 0
last_got (Some p) = last_of p.got

abbrev pub last_in : List (ℕ × Option Pass) → ℕ
last_in [] = 0
last_in (x ∷ xs) = last_got x.1

-- a seat of view v met k sessions that are not Free, in a state that meets the rule
pub record Meets (v : View) (k : ℕ) : Type 0 where
  pub state : GateState
  pub id : ℕ
  pub ruled : IsGate v.seats state
  pub sits : get_elem? state.views id ≡ some v
  pub others : k ≡ total busy_in state.views

-- the view of a session that found n in the count of room and met k others
abbrev pub entered_view : View → ℕ → ℕ → View
entered_view v n k = record v { spot = spot_found v.seats.net.width n; met = k }

-- the count of room tells how many others it met
abbrev pub meets_others : Step (Option Pass) → Self → ℕ → Self → Type 0
meets_others st m n m' = (k : ℕ) × Meets m.0 k × (n + k ≡ FULL + m.0.seats.net.width) × (m' ≡ (entered_view m.0 n k, m.1))

abbrev pub tested_bit : Step (Option Pass) → Self → ℕ → Self → Type 0
tested_bit st m n m' = m' ≡ (view_at m.0 (spot_tested m.0.seats.net.width n m.0.spot), m.1)

-- the pass left its slot, and what it had taken is known
abbrev pub went_out : Step (Option Pass) → Self → ℕ → Self → Type 0
went_out st m n m' = (l : List ℕ) × (m' ≡ (record m.0 { spot = Fast (index_of m.0.spot); kept = l }, (index_of m.0.spot, Some (resting m.0.seats (sessions m.0.seats.net + index_of m.0.spot) l)) ∷ m.1))

-- the pass went home, and its last number was a seat that the session had
abbrev pub went_home : Step (Option Pass) → Self → ℕ → Self → Type 0
went_home st m n m' = m' ≡ (record m.0 { spot = spot_home m.0.seats.net.width (index_of m.0.spot); visits = m.0.visits ++ (record { seat = last_in m.1; fast = true }) ∷ []; kept = [] }, rest m.1)

abbrev pub cleared_bit : Step (Option Pass) → Self → ℕ → Self → Type 0
cleared_bit st m n m' = m' ≡ (view_at m.0 Giving, m.1)

abbrev pub gave : Step (Option Pass) → Self → ℕ → Self → Type 0
gave st m n m' = m' ≡ (view_at m.0 Free, m.1)

-- the same by a session that had the seat x by the slow way
abbrev pub gave_slow : ℕ → Step (Option Pass) → Self → ℕ → Self → Type 0
gave_slow x st m n m' = m' ≡ (record m.0 { spot = Free; visits = m.0.visits ++ (record { seat = x; fast = false }) ∷ [] }, m.1)

-- the session of a view at this table
abbrev pub guest_of : TableId → View → Guest
guest_of id v = record { gate = record { id = id; seats = v.seats }; number = number_of v.role; visits = v.visits }

abbrev pub is_fast : Spot → Bool
is_fast (Fast i) = true
is_fast Free = false
is_fast (Testing i) = false
is_fast (Taking i) = false
is_fast (Clearing i) = false
is_fast Giving = false
is_fast Slow = false

-- the pass with which a session came that is at this spot
abbrev pub pass_at : View → Spot → Pass
pass_at v (Fast i) = resting v.seats (sessions v.seats.net + i) v.kept
pass_at v Free = resting v.seats (number_of v.role) (slow_seats v.visits)
pass_at v (Testing i) = resting v.seats (number_of v.role) (slow_seats v.visits)
pass_at v (Taking i) = resting v.seats (number_of v.role) (slow_seats v.visits)
pass_at v (Clearing i) = resting v.seats (number_of v.role) (slow_seats v.visits)
pass_at v Giving = resting v.seats (number_of v.role) (slow_seats v.visits)
pass_at v Slow = resting v.seats (number_of v.role) (slow_seats v.visits)

abbrev pub way_of : TableId → View → Way
way_of id v = record { guest = guest_of id v; fast = is_fast v.spot; met = v.met; pass = pass_at v v.spot }

-- a session's own view
pub record IsSession (v : View) : Type 0 where
  pub role : v.role ≡ Party (number_of v.role)
  pub joined : v.joined ≡ []

-- a session that is Free, with its own pass
pub record IsIdle (own : Pass) (g : Guest) (m : Self) : Type 0 where
  pub session : IsSession m.0
  pub spot_is : m.0.spot ≡ Free
  pub hand : m.1 ≡ []
  pub own_is : own ≡ own_pass g

-- where a session stands that entered: at Fast its own pass rests, and the slot of the other is empty
abbrev pub StandsAt : Option Pass → Guest → ℕ → List (ℕ × Option Pass) → Spot → Type 0
StandsAt own g m hand (Fast i) = (i < m) × (own ≡ Some (own_pass g)) × (hand ≡ (i, None) ∷ [])
StandsAt own g m hand Slow = (own ≡ None) × (hand ≡ [])
StandsAt own g m hand Free = ⊥
StandsAt own g m hand (Testing i) = ⊥
StandsAt own g m hand (Taking i) = ⊥
StandsAt own g m hand (Clearing i) = ⊥
StandsAt own g m hand Giving = ⊥

pub record IsLane (own : Option Pass) (g : Guest) (m : Self) : Type 0 where
  pub session : IsSession m.0
  pub stands : StandsAt own g m.0.seats.net.width m.1 m.0.spot

-- two passes of one party, where the second has taken these numbers more
pub record GoesOn (p q : Pass) (l : List ℕ) : Type 0 where
  pub table : q.table ≡ p.table
  pub number : q.number ≡ p.number
  pub got : q.got ≡ p.got ++ l

-- these passes were never used, and have the numbers from `first` on
abbrev pub AreInRow : TableNet → ℕ → List Pass → Type 0
AreInRow t first l = EachIndex l (λ k. slice_get l k ≡ Some (resting t (first + k) []))

-- how often the pass of a slot took the number s
abbrev pub slot_worth : ℕ → Option Pass → ℕ
slot_worth s None = 0
slot_worth s (Some p) = times s p.got

-- how often q is the number of the pass of a slot
abbrev pub slot_number : ℕ → Option Pass → ℕ
slot_number q None = 0
slot_number q (Some p) = times q (p.number ∷ [])

-- the sessions, which are Free, were joined into one
pub record IsGathered (seats : TableNet) (guests : List Guest) (m : Self) : Type 0 where
  pub role : m.0.role ≡ Party (number_of m.0.role)
  pub seats_is : m.0.seats ≡ seats
  pub spot_is : m.0.spot ≡ Free
  pub hand : m.1 ≡ []
  pub joined : length m.0.joined + 1 ≡ length guests
  pub fasts : (f : ℕ → ℕ) → total (fast_worth f) m.0.visits ≡ total (λ (g : Guest). total (fast_worth f) g.visits) guests
