-- The rule of the gate's table.
use Rattle.std.specs.Prelude.{◌≡◌, ◌⊎◌, ℕ, ◌+◌, ◌-◌, ◌<◌, ◌≤◌, if◌then◌else◌, List, [], ◌∷◌, length, slice_index, Option, Some, None}
use Rattle.kex_core.specs.declared.limits.TheConstants.{PARTY_LIMIT}
use mathlib.Core.Option.{none, some}
use mathlib.Core.Option as maybe
use lib.ListN.{get_elem?}
use Rattle.atomic_table.specs.Table.{State}
use Rattle.kex_words.specs.Passes.{TableNet, Pass, times}
use Rattle.pass_roles.specs.Roles.{total, weigh}
use Rattle.pass_roles.specs.declared.role.Role.{Role}
use Rattle.pass_roles.specs.declared.role.Role.TheVariants.{Maker, Party, Spent}
use Rattle.kex_gate.specs.declared.view.Spot.{Spot}
use Rattle.kex_gate.specs.declared.view.Spot.TheVariants.{Free, Testing, Taking, Fast, Clearing, Giving, Slow}
use Rattle.kex_gate.specs.declared.view.Visit.{Visit}
use Rattle.kex_gate.specs.declared.view.View.{View}
use Rattle.kex_gate.specs.Passes.{sessions, resting, room_word, bit_word}
use Rattle.kex_gate.specs.declared.gate.TheConstants.{FULL}

-- the words and slots of a gate's table, and what each seat knows
abbrev pub GateState : Type 0
GateState = State (Option Pass) View

-- the slots
abbrev pub Homes : Type 0
Homes = List (maybe.Option (Option Pass))

-- 1 where i is at most k, and else 0
abbrev pub up_to : ℕ → ℕ → ℕ
up_to i k = 1 - (i - k)

-- 1 where i is k, and else 0
abbrev pub just : ℕ → ℕ → ℕ
just i k = 1 - ((i - k) + (k - i))

-- 1 of a session that is not Free
abbrev pub busy : Spot → ℕ
busy Free = 0
busy (Testing i) = 1
busy (Taking i) = 1
busy (Fast i) = 1
busy (Clearing i) = 1
busy Giving = 1
busy Slow = 1

-- 1 of a session that was let through
abbrev pub within : Spot → ℕ
within Free = 0
within (Testing i) = 1
within (Taking i) = 1
within (Fast i) = 1
within (Clearing i) = 1
within Giving = 1
within Slow = 0

-- 1 of one whose spot has a number of at least i
abbrev pub reaches : ℕ → Spot → ℕ
reaches i Free = 0
reaches i (Testing k) = up_to i k
reaches i (Taking k) = up_to i k
reaches i (Fast k) = up_to i k
reaches i (Clearing k) = up_to i k
reaches i Giving = 0
reaches i Slow = 0

-- 1 of one at Taking(i), Fast(i) or Clearing(i)
abbrev pub owns : ℕ → Spot → ℕ
owns i Free = 0
owns i (Testing k) = 0
owns i (Taking k) = just i k
owns i (Fast k) = just i k
owns i (Clearing k) = just i k
owns i Giving = 0
owns i Slow = 0

-- 1 of one at Fast(i)
abbrev pub is_out : ℕ → Spot → ℕ
is_out i Free = 0
is_out i (Testing k) = 0
is_out i (Taking k) = 0
is_out i (Fast k) = just i k
is_out i (Clearing k) = 0
is_out i Giving = 0
is_out i Slow = 0

-- what a pass that is out had taken before
abbrev pub kept_at : Spot → List ℕ → List ℕ
kept_at Free l = []
kept_at (Testing k) l = []
kept_at (Taking k) l = []
kept_at (Fast k) l = l
kept_at (Clearing k) l = []
kept_at Giving l = []
kept_at Slow l = []

-- where a session may stand that met k others, at a gate of m seats: the number of its spot lies in the gate, and it goes the slow way only where it met as many as there are seats
abbrev pub MayStand : ℕ → ℕ → Spot → Type 0
MayStand m k Free = Unit {0}
MayStand m k (Testing i) = i + 1 < m
MayStand m k (Taking i) = i < m
MayStand m k (Fast i) = i < m
MayStand m k (Clearing i) = i + 1 < m
MayStand m k Giving = Unit {0}
MayStand m k Slow = m ≤ k

-- how often a number is a view's own or was joined into it
abbrev pub times_numbered : ℕ → List ℕ → Role → ℕ
times_numbered q l (Maker m) = 0
times_numbered q l (Party p) = times q (p ∷ l)
times_numbered q l Spent = 0

-- the visits by the fast way, each worth f of its seat
abbrev pub fast_worth : (ℕ → ℕ) → Visit → ℕ
fast_worth f x = if x.fast then f x.seat else 0

-- the same of a view
abbrev pub busy_in : View → ℕ
busy_in v = busy v.spot

abbrev pub within_in : View → ℕ
within_in v = within v.spot

abbrev pub reaches_in : ℕ → View → ℕ
reaches_in i v = reaches i v.spot

abbrev pub owns_in : ℕ → View → ℕ
owns_in i v = owns i v.spot

abbrev pub is_out_in : ℕ → View → ℕ
is_out_in i v = is_out i v.spot

abbrev pub weight : ℕ → View → ℕ
weight n v = weigh n (length v.joined) v.role

abbrev pub times_numbered_in : ℕ → View → ℕ
times_numbered_in q v = times_numbered q v.joined v.role

abbrev pub fast_in : (ℕ → ℕ) → View → ℕ
fast_in f v = total (fast_worth f) v.visits

abbrev pub kept_in : (ℕ → ℕ) → View → ℕ
kept_in f v = total f (kept_at v.spot v.kept)

-- and of a slot: what the pass that is home has taken
abbrev pub home_worth : (ℕ → ℕ) → maybe.Option (Option Pass) → ℕ
home_worth f none = 0
home_worth f (some None) = 0
home_worth f (some (Some p)) = total f p.got

module _ (seats : TableNet) (made maker_seat : ℕ) (seat : ℕ) where
  -- a session's view
  pub record Standing (p : ℕ) (v : View) : Type 0 where
    pub seats_is : v.seats ≡ seats
    pub stands : MayStand seats.net.width v.met v.spot

  -- the maker's view, who has dealt m passes
  pub record Making (m : ℕ) (v : View) : Type 0 where
    pub seats_is : v.seats ≡ seats
    pub made_is : m ≡ made
    pub seat_is : seat ≡ maker_seat
    pub spot_is : v.spot ≡ Free
    pub visits : v.visits ≡ []

  -- a view that was joined into another
  pub record Nobody (v : View) : Type 0 where
    pub spot_is : v.spot ≡ Free
    pub visits : v.visits ≡ []

  -- the same by the role
  abbrev pub Fits : View → Role → Type 0
  Fits v (Maker m) = Making m v
  Fits v (Party p) = Standing p v
  Fits v Spent = Nobody v

module _ (seats : TableNet) (homes : Homes) (views : List View) (i : ℕ) where
  -- pass n+i is home
  abbrev pub IsHome : Type 0
  IsHome = (total (is_out_in i) views ≡ 0) × ((l : List ℕ) × (get_elem? homes i ≡ some (some (Some (resting seats (sessions seats.net + i) l)))))

  -- pass n+i is out with a session at Fast(i)
  abbrev pub IsAway : Type 0
  IsAway = (total (is_out_in i) views ≡ 1) × (get_elem? homes i ≡ some none)

-- the rule
pub record IsGate (seats : TableNet) (s : GateState) : Type 0 where
  pub made : ℕ
  pub maker_seat : ℕ
  pub some_seats : 1 ≤ seats.net.width
  pub small : sessions seats.net + seats.net.width ≤ PARTY_LIMIT
  pub wide : length s.words ≡ seats.net.width + 1
  -- the count of room
  pub room : slice_index s.words room_word + total busy_in s.views ≡ FULL + seats.net.width
  -- who was let through, and how far they came
  pub inside : total within_in s.views ≤ seats.net.width
  pub behind : (i : ℕ) → i < seats.net.width → total (reaches_in i) s.views + i ≤ seats.net.width
  -- a bit is set exactly where one session owns its number
  pub bits : (i : ℕ) → i + 1 < seats.net.width → (slice_index s.words (bit_word i) ≡ total (owns_in i) s.views) × (total (owns_in i) s.views ≤ 1)
  -- the slots
  pub slots : (i : ℕ) → i < seats.net.width → IsHome seats s.homes s.views i ⊎ IsAway seats s.homes s.views i
  -- the seats that were had by the fast way are those that the gate's passes took
  pub books : (f : ℕ → ℕ) → total (fast_in f) s.views ≡ total (home_worth f) s.homes + total (kept_in f) s.views
  -- the numbers that the views stand for are all there are, and each that was dealt is in one view, once
  pub few : made ≤ sessions seats.net
  pub weights : total (weight (sessions seats.net)) s.views ≡ sessions seats.net
  pub dealt : (q : ℕ) → q < made → total (times_numbered_in q) s.views ≡ 1
  pub undealt : (q : ℕ) → made ≤ q → total (times_numbered_in q) s.views ≡ 0
  -- there is one maker
  pub maker : (v : View) × (get_elem? s.views maker_seat ≡ some v) × (v.role ≡ Maker made)
  pub each : (j : ℕ) (v : View) → get_elem? s.views j ≡ some v → Fits seats made maker_seat j v v.role
