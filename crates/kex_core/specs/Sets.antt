-- Sets of parties, by place alone, for a stage j on the party's path.
-- The sets are after the argument of Anderson and Moir, Distributed Computing 11, 1997; these cases are this project's.
use Rattle.std.specs.Prelude.{ℕ, ◌==◌, ◌&&◌, ◌||◌, not, nat_lt, Bool, false, Option, Some, None, is_some}
use Rattle.kex_core.specs.declared.place.Place.{Place}
use Rattle.kex_core.specs.declared.place.Place.TheVariants.{Out, Dec, Mark, Look, Spin, Naming, Named, Holding, Clearing, Inc, Unmark}
use Rattle.kex_core.specs.Nets.{Plan, count, on_path}
use Rattle.kex_core.specs.Worlds.{Machine}

-- the stage of a place
abbrev pub stage_of : Place → Option ℕ
stage_of (Dec i) = Some i
stage_of (Mark i) = Some i
stage_of (Look i) = Some i
stage_of (Spin i) = Some i
stage_of (Inc i) = Some i
stage_of (Unmark i) = Some i
stage_of Out = None
stage_of (Naming i) = None
stage_of (Named s) = None
stage_of (Holding s) = None
stage_of (Clearing s) = None

-- the name position: the number of a place among the names
abbrev pub position_of : Place → Option ℕ
position_of (Naming i) = Some i
position_of (Named s) = Some s
position_of (Holding s) = Some s
position_of (Clearing s) = Some s
position_of Out = None
position_of (Dec j) = None
position_of (Mark j) = None
position_of (Look j) = None
position_of (Spin j) = None
position_of (Inc j) = None
position_of (Unmark j) = None

-- the number that is taken there: at Named, Holding or Clearing
abbrev pub name_of : Place → Option ℕ
name_of (Named s) = Some s
name_of (Holding s) = Some s
name_of (Clearing s) = Some s
name_of Out = None
name_of (Dec j) = None
name_of (Mark j) = None
name_of (Look j) = None
name_of (Spin j) = None
name_of (Naming i) = None
name_of (Inc j) = None
name_of (Unmark j) = None

-- the number of the card that is held there
abbrev pub held_at : Place → Option ℕ
held_at (Holding s) = Some s
held_at Out = None
held_at (Dec j) = None
held_at (Mark j) = None
held_at (Look j) = None
held_at (Spin j) = None
held_at (Naming i) = None
held_at (Named s) = None
held_at (Clearing s) = None
held_at (Inc j) = None
held_at (Unmark j) = None

-- there is a number, and it passes the test
abbrev pub has : (ℕ → Bool) → Option ℕ → Bool
has test None = false
has test (Some i) = test i

-- at Dec of j
abbrev pub is_at_dec : ℕ → Place → Bool
is_at_dec j (Dec i) = i == j
is_at_dec j Out = false
is_at_dec j (Mark i) = false
is_at_dec j (Look i) = false
is_at_dec j (Spin i) = false
is_at_dec j (Naming i) = false
is_at_dec j (Named s) = false
is_at_dec j (Holding s) = false
is_at_dec j (Clearing s) = false
is_at_dec j (Inc i) = false
is_at_dec j (Unmark i) = false

-- at Mark, Look or Spin of j
abbrev pub is_waiting : ℕ → Place → Bool
is_waiting j (Mark i) = i == j
is_waiting j (Look i) = i == j
is_waiting j (Spin i) = i == j
is_waiting j Out = false
is_waiting j (Dec i) = false
is_waiting j (Naming i) = false
is_waiting j (Named s) = false
is_waiting j (Holding s) = false
is_waiting j (Clearing s) = false
is_waiting j (Inc i) = false
is_waiting j (Unmark i) = false

-- at Inc of j
abbrev pub is_at_inc : ℕ → Place → Bool
is_at_inc j (Inc i) = i == j
is_at_inc j Out = false
is_at_inc j (Dec i) = false
is_at_inc j (Mark i) = false
is_at_inc j (Look i) = false
is_at_inc j (Spin i) = false
is_at_inc j (Naming i) = false
is_at_inc j (Named s) = false
is_at_inc j (Holding s) = false
is_at_inc j (Clearing s) = false
is_at_inc j (Unmark i) = false

-- at Unmark of j
abbrev pub is_at_unmark : ℕ → Place → Bool
is_at_unmark j (Unmark i) = i == j
is_at_unmark j Out = false
is_at_unmark j (Dec i) = false
is_at_unmark j (Mark i) = false
is_at_unmark j (Look i) = false
is_at_unmark j (Spin i) = false
is_at_unmark j (Naming i) = false
is_at_unmark j (Named s) = false
is_at_unmark j (Holding s) = false
is_at_unmark j (Clearing s) = false
is_at_unmark j (Inc i) = false

-- Inside: at Naming, Named, Holding or Clearing
abbrev pub is_inside : Place → Bool
is_inside place = is_some (position_of place)

-- at a place of a stage on p's path that is later than j
abbrev pub is_later : Plan → ℕ → ℕ → Place → Bool
is_later net p j place = has (λ i. nat_lt j i && on_path net p i) (stage_of place)

-- Counted(j): past its Dec and before its Inc
abbrev pub is_counted : Plan → ℕ → ℕ → Place → Bool
is_counted net p j place = is_waiting j place || is_at_inc j place || is_later net p j place || is_inside place

-- Within(j): in Counted(j), or at Dec or Unmark of j
abbrev pub is_within : Plan → ℕ → ℕ → Place → Bool
is_within net p j place = is_at_dec j place || is_counted net p j place || is_at_unmark j place

-- Between(j): in Counted(j), or at Unmark of j
abbrev pub is_between : Plan → ℕ → ℕ → Place → Bool
is_between net p j place = is_counted net p j place || is_at_unmark j place

-- Passed(j): in Counted(j), and not waiting there
abbrev pub is_passed : Plan → ℕ → ℕ → Place → Bool
is_passed net p j place = is_counted net p j place && not (is_waiting j place)

-- The sets' sizes. A set of j has only parties on whose path j is.
abbrev pub size : (Plan → ℕ → ℕ → Place → Bool) → Plan → Machine → ℕ → ℕ
size set net w j = count net.parties (λ p. on_path net p j && set net p j (w.place p))

-- without party p
abbrev pub others : (Plan → ℕ → ℕ → Place → Bool) → Plan → Machine → ℕ → ℕ → ℕ
others set net w p j = count net.parties (λ q. not (q == p) && (on_path net q j && set net q j (w.place q)))

-- how many are inside, with a name position that passes the test
abbrev pub positions : (ℕ → Bool) → Plan → Machine → ℕ
positions test net w = count net.parties (λ p. has test (position_of (w.place p)))

-- how many have this name
abbrev pub owners : Plan → Machine → ℕ → ℕ
owners net w i = count net.parties (λ p. has (λ s. s == i) (name_of (w.place p)))

-- how many hold this card
abbrev pub holders : Plan → Machine → ℕ → ℕ
holders net w s = count net.parties (λ p. has (λ t. t == s) (held_at (w.place p)))

-- how many are inside
abbrev pub insiders : Plan → Machine → ℕ
insiders net w = count net.parties (λ p. is_inside (w.place p))
