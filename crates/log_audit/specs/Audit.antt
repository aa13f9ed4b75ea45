use Rattle.std.specs.Prelude.{◌≡◌, ℕ, ◌+◌, ◌<◌, ◌==◌, Bool, List, [], ◌∷◌, ◌++◌, filter, get_or, length, map}
use Rattle.options_machine.specs.Rules.{Rules}
use Rattle.options_machine.specs.Run.{IsRun, after}
use Rattle.options_machine.specs.Step.{step}
use Rattle.options_machine.specs.declared.reply.Entry.{Entry}
use Rattle.options_machine.specs.declared.reply.Reply.{Reply}
use Rattle.log_audit.specs.Desks.{request_asked}
use Rattle.log_audit.specs.declared.log.Numbered.{Numbered}

-- whether an entry is one of this pool
abbrev pub is_of_pool : ℕ → Numbered → Bool
is_of_pool pool x = x.logged.pool == pool

-- the pool's entries, in the log's order
abbrev pub of_pool : ℕ → List Numbered → List Numbered
of_pool pool xs = filter (is_of_pool pool) xs

abbrev pub entry_of : Numbered → Entry
entry_of x = x.logged.entry

-- the places of entries rise one by one, from this one on
abbrev pub ArePlaces : ℕ → List Numbered → Type 0
ArePlaces place [] = Unit {0}
ArePlaces place (x ∷ xs) = (x.logged.place ≡ place) × ArePlaces (place + 1) xs

-- entries of a pool with these rule sets are a run, at the places 0, 1, 2 and so on
pub record IsRunOf (sets : List Rules) (xs : List Numbered) : Type 0 where
  pub run : IsRun sets (map entry_of xs)
  pub places : ArePlaces 0 xs

-- each pool's entries, in the log's order, are a run of its rule sets
abbrev pub IsRunLog : List (List Rules) → List Numbered → Type 0
IsRunLog pools xs = (pool : ℕ) → pool < length pools → IsRunOf (get_or pools pool []) (of_pool pool xs)

-- what holds in the place of an entry behind those: how many there are, the moment that the machine uses, and its reply
pub record Holds (sets : List Rules) (xs : List Numbered) (e : Entry) (place moment : ℕ) (said : Reply) : Type 0 where
  pub counted : place ≡ length xs
  pub used : moment ≡ (step sets (after sets (map entry_of xs)) (request_asked (length sets) e.request) e.moment).1.now
  pub reply : said ≡ (step sets (after sets (map entry_of xs)) (request_asked (length sets) e.request) e.moment).0

-- the log is no run, and this line is the first that shows it, where this holds
pub record IsFirstBad (pools : List (List Rules)) (xs : List Numbered) (line place moment : ℕ) (said : Reply) : Type 0 where
  pub before : List Numbered
  pub bad : Numbered
  pub rest : List Numbered
  pub log : xs ≡ before ++ bad ∷ rest
  pub runs : IsRunLog pools before
  pub ends : IsRunLog pools (before ++ bad ∷ []) → ⊥
  pub shown : line ≡ bad.line
  pub holds : Holds (get_or pools bad.logged.pool []) (of_pool bad.logged.pool before) (entry_of bad) place moment said
