-- How the lines of a script go through the pools of a licence, whatever it is that stands at each pool: its ledger, or its run.
use Rattle.std.specs.Prelude.{ℕ, zero, suc, ◌<◌, Bool, ◌&&◌, nat_lt, if◌then◌else◌, List, [], ◌∷◌, ◌++◌, map, Option, None, Some, slice_get}
use Rattle.std.specs.List.{position_from}
use Rattle.feature_lines.specs.Route.{route}
use Rattle.feature_lines.specs.declared.pool.Pool.{Pool}
use Rattle.feature_lines.specs.declared.route.Found.{Found}
use Rattle.feature_lines.specs.declared.route.Found.TheVariants.{Pool as At, Unknown, Expired}
use Rattle.lic_types.specs.Groups.{same_name}
use Rattle.lic_types.specs.declared.version.Version.{Version}
use Rattle.options_machine.specs.Step.{set_asked}
use Rattle.script_text.specs.Line.{AskedLine}
use Rattle.scripts.specs.Answers.{answer_text}
use Rattle.scripts.specs.declared.answers.Answer.{Answer}
use Rattle.scripts.specs.declared.answers.Answer.TheVariants as answers

-- a list, changed at one place
abbrev pub changed_at : {X : Type 0} → ℕ → (X → X) → List X → List X
changed_at at f [] = []
changed_at zero f (x ∷ xs) = f x ∷ xs
changed_at (suc at) f (x ∷ xs) = x ∷ changed_at at f xs

abbrev pub found_or : Option ℕ → Found → Found
found_or (Some at) other = At at
found_or None other = other

-- where it goes, there is one of so many pools
abbrev pub IsThere : ℕ → Found → Type 0
IsThere pools (At at) = at < pools
IsThere pools Unknown = Unit {0}
IsThere pools (Expired day) = Unit {0}

-- what a line that asks for this rule set is answered, where there are so many
abbrev pub set_answer : ℕ → ℕ → Answer
set_answer sets n = if nat_lt n sets then answers.Reread n else answers.NoRules n

-- what is known of a thing that stands at a pool: the pool; whether a party keeps a place there; the thing with the entry that a line makes there; and that entry's answer
pub record Walk (X : Type 0) : Type 0 where
  pub pool : X → Pool
  pub keeps : ℕ → X → Bool
  pub entered : AskedLine → X → X
  pub answer : AskedLine → X → Answer

module _ {X : Type 0} (walk : Walk X) where
  abbrev pub is_named : List ℕ → X → Bool
  is_named name x = same_name (walk.pool x).name name

  -- whether the pool is of this name, and the party keeps a place there
  abbrev pub is_kept : List ℕ → ℕ → X → Bool
  is_kept name party x = is_named name x && walk.keeps party x

  -- where a line of a party that keeps no place goes: with a version to the pool that serves it at the line's own moment, and else to the first pool of the name
  abbrev pub found_by_route : List X → List ℕ → ℕ → Option Version → Found
  found_by_route xs name moment (Some version) = route (map walk.pool xs) name version.key moment
  found_by_route xs name moment None = found_or (position_from (is_named name) 0 xs) Unknown

  -- where a line goes that names this feature, or none: to the first pool of the name at which its party keeps a place, if there is one
  abbrev pub destination : List X → AskedLine → Option (List ℕ) → Found
  destination xs line None = Unknown
  destination xs line (Some name) = found_or (position_from (is_kept name line.party) 0 xs) (found_by_route xs name line.moment line.version)

  -- what stands there after a line that went there
  abbrev pub after_sent : List X → AskedLine → Found → List X
  after_sent xs line (At at) = changed_at at (walk.entered line) xs
  after_sent xs line Unknown = xs
  after_sent xs line (Expired day) = xs

  -- after a line that asks for this rule set, or none, where there are so many: one that asks for a rule set that there is makes an entry at each pool
  abbrev pub after_asked : ℕ → List X → AskedLine → Option ℕ → List X
  after_asked sets xs line None = after_sent xs line (destination xs line line.feature)
  after_asked sets xs line (Some n) = if nat_lt n sets then map (walk.entered line) xs else xs

  -- after a line
  abbrev pub after_line : ℕ → List X → AskedLine → List X
  after_line sets xs line = after_asked sets xs line (set_asked line.kind)

  -- and after several
  abbrev pub after_lines : ℕ → List X → List AskedLine → List X
  after_lines sets xs [] = xs
  after_lines sets xs (line ∷ lines) = after_lines sets (after_line sets xs line) lines

  abbrev pub entry_answer : AskedLine → Option X → Answer
  entry_answer line None = answers.Unknown
  entry_answer line (Some x) = walk.answer line x

  -- what a line is answered that went there
  abbrev pub sent_answer : List X → AskedLine → Found → Answer
  sent_answer xs line (At at) = entry_answer line (slice_get xs at)
  sent_answer xs line Unknown = answers.Unknown
  sent_answer xs line (Expired day) = answers.Expired day

  abbrev pub asked_answer : ℕ → List X → AskedLine → Option ℕ → Answer
  asked_answer sets xs line None = sent_answer xs line (destination xs line line.feature)
  asked_answer sets xs line (Some n) = set_answer sets n

  -- what a line is answered
  abbrev pub line_answer : ℕ → List X → AskedLine → Answer
  line_answer sets xs line = asked_answer sets xs line (set_asked line.kind)

  -- the output lines of script lines, one for each
  abbrev pub output_from : ℕ → List X → List AskedLine → List ℕ
  output_from sets xs [] = []
  output_from sets xs (line ∷ lines) = answer_text (line_answer sets xs line) ++ output_from sets (after_line sets xs line) lines
