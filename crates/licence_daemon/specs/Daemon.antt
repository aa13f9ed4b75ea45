-- What a daemon did: the sessions of its parties, and the histories of its pools.
use Rattle.std.specs.Prelude.{◌≡◌, ℕ, ◌<◌, ◌≤◌, false, flat_map, List, [], length, map, min, slice_index_or}
use Rattle.std.specs.List.{AllByRecursion, list_any}
use Rattle.counter.specs.Account.{Asking}
use Rattle.desk_logs.specs.Ends.{ends_text}
use Rattle.door_worker.specs.Visits.{AreSessions, Visit, acts_in, rang}
use Rattle.feature_desk.specs.Sittings.{AreLow}
use Rattle.feature_lines.specs.declared.pool.Pool.{Pool}
use Rattle.log_audit.specs.Audited.{sets_of}
use Rattle.options_machine.specs.Own.{own}
use Rattle.options_machine.specs.Rules.{Rules}
use Rattle.options_machine.specs.Run.{IsRun}
use Rattle.options_machine.specs.declared.reply.Entry.{Entry}
use Rattle.session.specs.Acts.{askings, entries}
use Rattle.session.specs.Pass.{Stands}
use Rattle.session.specs.Table.{Setup}
use Rattle.licence_daemon.specs.Terms.{TermsRead}

-- what the sessions of a party stand on: the pools of the licence, the number of rule sets, and the party's own number at each pool
abbrev pub setup_for : TermsRead → ℕ → Setup
setup_for terms party = record { pools = terms.licence.pools; sets = length terms.sets; parties = map (λ (pool : Pool). party) terms.licence.pools }

-- a history of pool j, with these rule sets and so many seats, is that of these sessions, one list of them for each party
pub record IsHistory (sets : List Rules) (width j : ℕ) (sessions : List (List Visit)) (history : List Entry) : Type 0 where
  -- it is a run of the rule sets
  pub run : IsRun sets history
  -- the part of a party is the entries of its sessions, in their order
  pub own_is : (p : ℕ) → p < length sessions → own history p ≡ entries j (acts_in (slice_index_or sessions p []))
  -- each of these entries stands in it at its place, and its moment is that to which settling brings the state before it from the moment that its session's clock gave
  pub stands : (p : ℕ) → p < length sessions → AllByRecursion (Stands sets p history) (askings j (acts_in (slice_index_or sessions p [])))
  -- each seat that they brought is one of the pool's
  pub seats_are : (p : ℕ) → p < length sessions → AreLow width (flat_map (λ (a : Asking). a.seats) (askings j (acts_in (slice_index_or sessions p []))))
  -- and it has no other entries
  pub others : (p : ℕ) → length sessions ≤ p → own history p ≡ []

-- so many parties had these sessions and these histories under the terms: one list of sessions for each party, which the site keeps, and one history for each pool of the licence, by the rules that each options file gives it, and with as many seats as the pool has licences, but not more than there are parties
pub record AreHistories (terms : TermsRead) (parties : ℕ) (kept : List (List Visit) → Type 0) (rings_old rings_new : ℕ) (histories : List (List Entry)) : Type 0 where
  pub sessions : List (List Visit)
  pub parties_are : length sessions ≡ parties
  -- each of them is a session of its party
  pub served : (p : ℕ) → p < parties → AreSessions (setup_for terms p) (slice_index_or sessions p [])
  -- the site keeps their talks and moments
  pub told : kept sessions
  pub pools_are : length histories ≡ length terms.licence.pools
  pub joined : (j : ℕ) (pool : Pool) → j < length terms.licence.pools
      → IsHistory (sets_of terms.sets (slice_index_or terms.licence.pools j pool)) (min (slice_index_or terms.licence.pools j pool).count parties) j sessions (slice_index_or histories j [])
  -- the bell was rung only where one of these sessions ended at a SHUTDOWN
  pub rung : list_any rang sessions ≡ false → rings_new ≡ rings_old

-- a daemon ran at its path, and this is so of the text that its histories call for
pub record HasRun (terms : TermsRead) (parties : ℕ) (kept : List (List Visit) → Type 0) (rings_old rings_new : ℕ) (IsAtPath : Type 0) (IsText : List ℕ → Type 0) : Type 0 where
  pub histories : List (List Entry)
  pub are : AreHistories terms parties kept rings_old rings_new histories
  pub at_path : IsAtPath
  pub text : IsText (ends_text histories)
