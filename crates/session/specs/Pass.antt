-- What the counters of a pass gain.
use Rattle.std.specs.Prelude.{◌≡◌, ℕ, ◌<◌, List, [], ◌∷◌, ◌++◌, length, map, flat_map, get_or, false}
use Rattle.std.specs.List.{AllByRecursion}
use Rattle.counter.specs.Account.{Account, AreSeats, Asking, Extends, brings_seat}
use Rattle.counter.specs.Glances.{glance_of}
use Rattle.office_view.specs.View.{View}
use Rattle.options_machine.specs.Own.{holds, queues}
use Rattle.options_machine.specs.Rules.{Rules}
use Rattle.options_machine.specs.Run.{IsRun, after}
use Rattle.options_machine.specs.Settle.{later_moment}
use Rattle.options_machine.specs.declared.reply.Entry.{Entry}
use Rattle.session.specs.Acts.{Act, Shown, askings, sights}

-- an entry stands in a history: it is the party's, its moment is the one to which settling brings the state before it from the moment that was handed in, and a seat came exactly where its reply brings one
pub record Stands (sets : List Rules) (party : ℕ) (history : List Entry) (a : Asking) : Type 0 where
  pub rest : List Entry
  pub is : history ≡ a.before ++ a.entry ∷ rest
  pub asker : a.entry.request.party ≡ party
  pub moment : a.entry.moment ≡ later_moment (after sets a.before).now a.handed
  pub seats : AreSeats (brings_seat a.entry.reply) a.seats

-- where anything was asked
abbrev pub WhereAny : List Asking → Type 0 → Type 0
WhereAny [] P = Unit {0}
WhereAny (a ∷ others) P = P

-- where nothing was asked
abbrev pub WhereNone : List Asking → Type 0 → Type 0
WhereNone [] P = P
WhereNone (a ∷ others) P = Unit {0}

-- each glance shows the desk after the entries that it stands for; these begin with those of the glance before it, the first with what was shown before, and what is shown at the end begins with those of the last
abbrev pub AreSights : List Rules → List Entry → List Shown → List Entry → Type 0
AreSights sets old [] new = Extends old new
AreSights sets old (s ∷ later) new = Extends old s.list × (s.glance ≡ glance_of sets s.list) × AreSights sets s.list later new

-- what a counter gains by these askings and these glances
pub record Gained (asked : List Asking) (looks : List Shown) (old new : Account) : Type 0 where
  pub sets : new.sets ≡ old.sets
  pub party : new.party ≡ old.party
  pub mine : new.mine ≡ old.mine ++ map (λ (a : Asking). a.entry) asked
  pub got : new.got ≡ old.got ++ flat_map (λ (a : Asking). a.seats) asked
  pub seen : Extends old.seen new.seen
  pub stands : AllByRecursion (Stands new.sets new.party new.seen) asked
  pub run : WhereAny asked (IsRun new.sets new.seen)
  pub still : WhereNone asked (new.seen ≡ old.seen)
  pub shown : AreSights new.sets old.board_seen looks new.board_seen

-- each counter gains what was asked of its desk and what it showed, and nothing else
pub record Gains {C : Type 0} (account : C → Account) (acts : List Act) (olds news : List C) : Type 0 where
  pub long : length news ≡ length olds
  pub each : (j : ℕ) (c : C) → j < length olds → Gained (askings j acts) (sights j acts) (account (get_or olds j c)) (account (get_or news j c))

-- one counter for each pool, of its desk, with as many rule sets as the office has
pub record AreOf {C D : Type 0} (is_of : C → D → Type 0) (account : C → Account) (cs : List C) (v : View D) : Type 0 where
  pub long : length cs ≡ length v.pools
  pub each : (j : ℕ) (c : C) (d : D) → j < length cs → is_of (get_or cs j c) (get_or v.desks j d)
  pub sets : (j : ℕ) (c : C) → j < length cs → length (account (get_or cs j c)).sets ≡ v.sets

-- a counter whose party neither holds nor waits
abbrev pub IsIdle : Account → Type 0
IsIdle a = (holds a.mine a.party ≡ false) × (queues a.mine a.party ≡ false)

-- no counter holds or waits
abbrev pub AreIdle : {C : Type 0} → (C → Account) → List C → Type 0
AreIdle account cs = (j : ℕ) (c : _) → j < length cs → IsIdle (account (get_or cs j c))
