-- The pools while a script is played.
use Rattle.std.specs.Prelude.{ℕ, ◌+◌, ◌-◌, ◌%◌, ◌^◌, Bool, false, ◌&&◌, ◌||◌, ◌==◌, nat_lt, if◌then◌else◌, List, length, map, replicate, Option, None, Some, slice_get, slice_set, unwrap_or}
use Rattle.lic_types.specs.declared.limits.TheConstants.{PARTY_LIMIT}
use Rattle.feature_lines.specs.declared.pool.Pool.{Pool}
use Rattle.options_machine.specs.Own.{brings_seat, is_of_holding, is_of_queueing}
use Rattle.options_machine.specs.State.{State, opening}
use Rattle.options_machine.specs.Step.{set_asked, step}
use Rattle.options_machine.specs.declared.reply.Reply.{Reply}
use Rattle.options_text.specs.Options.{OptionsFile}
use Rattle.policy.specs.Pools.{rules_of}
use Rattle.script_text.specs.Line.{AskedLine}
use Rattle.scripts.specs.Script.{request_of}
use Rattle.scripts.specs.Walk.{Walk}
use Rattle.scripts.specs.declared.answers.Answer.TheVariants as answers
use Rattle.scripts.specs.declared.pool_run.PoolRun.{PoolRun}

-- the run of a pool before the first line, by the rules of these options files
abbrev pub run_of : List OptionsFile → Pool → PoolRun
run_of files pool = record {
  pool = pool;
  book = record { sets = map (rules_of pool) files; parties = PARTY_LIMIT; state = opening; grants = 0 };
  entries = 0;
  places = replicate PARTY_LIMIT false;
}

-- whether a reply says that its party holds a seat, or waits for one
abbrev pub says_place : Reply → Bool
says_place reply = is_of_holding reply || is_of_queueing reply

-- which parties keep a place after a reply to a party: one to a line that asks for a rule set moves none
abbrev pub places_moved : List Bool → ℕ → Reply → Option ℕ → List Bool
places_moved places party reply None = slice_set places party (says_place reply)
places_moved places party reply (Some n) = places

abbrev pub places_with : List Bool → AskedLine → Reply → List Bool
places_with places line reply = places_moved places line.party reply (set_asked line.kind)

-- what the book of a run answers to a line, and the state that it then has
unfoldable pub served_at : AskedLine → PoolRun → Reply × State
served_at line run = step run.book.sets run.book.state (request_of line) line.moment

-- the run after the entry of a line
abbrev pub entered_at : AskedLine → PoolRun → PoolRun
entered_at line run = record {
  pool = run.pool;
  book = record {
    sets = run.book.sets;
    parties = run.book.parties;
    state = (served_at line run).1;
    grants = (run.book.grants + (if brings_seat (served_at line run).0 then 1 else 0)) % 2 ^ 64;
  };
  entries = run.entries + 1;
  places = places_with run.places line (served_at line run).0;
}

-- the walk through runs
abbrev pub run_walk : Walk PoolRun
run_walk = record {
  pool = λ (run : PoolRun). run.pool;
  keeps = λ party (run : PoolRun). unwrap_or (slice_get run.places party) false;
  entered = entered_at;
  answer = λ line (run : PoolRun). answers.Entry (served_at line run).0 run.entries;
}

-- the pools at which these runs stand
abbrev pub pools_of : List PoolRun → List Pool
pools_of runs = map (λ (run : PoolRun). run.pool) runs

-- whether a run can take one entry more, where there are so many rule sets
abbrev pub is_ready : ℕ → PoolRun → Bool
is_ready sets run = run.book.parties == PARTY_LIMIT && (length run.book.sets == sets && nat_lt run.entries (2 ^ 64 - 1))
