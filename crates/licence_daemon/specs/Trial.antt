-- The words of a `trial-threads`.
use Rattle.std.specs.Prelude.{ℕ, ◌≤◌, nat_eq, if◌then◌else◌, List, [], ◌∷◌, map, Option, None, Some, codes, string_bytes}
use Rattle.std.specs.Cmp.Lexicographic.{pointwise}
use Rattle.lic_types.specs.declared.limits.TheConstants.{LICENCE_LIMIT, PARTY_LIMIT}
use Rattle.licence_tool.specs.Numbers.{number_within}
use Rattle.licence_tool.specs.declared.words.Words.{Words}
use Rattle.licence_tool.specs.declared.words.Words.TheVariants.{Text, NotText, NoMemory}
use Rattle.licence_daemon.specs.declared.trial_words.TrialNumbers.{TrialNumbers}

-- all three, where there are all three
abbrev pub numbers_of : Option ℕ → Option ℕ → Option ℕ → Option TrialNumbers
numbers_of None seats rounds = None
numbers_of (Some clients) None rounds = None
numbers_of (Some clients) (Some seats) None = None
numbers_of (Some clients) (Some seats) (Some rounds) = Some (record { clients = clients; seats = seats; rounds = rounds })

-- the `trial-threads` that words are: 2 to 256 clients, 1 to 65,535 seats and 1 to 10,000 rounds
abbrev pub trial_of : List (List ℕ) → Option TrialNumbers
trial_of (verb ∷ clients ∷ seats ∷ rounds ∷ []) =
    if pointwise nat_eq verb (codes "trial-threads")
    then numbers_of (number_within 2 PARTY_LIMIT clients) (number_within 1 LICENCE_LIMIT seats) (number_within 1 10000 rounds)
    else None
trial_of words = None

-- the same of the words of a command line
abbrev pub trial_in : Words → Option TrialNumbers
trial_in (Text words) = trial_of (map string_bytes words.items)
trial_in NotText = None
trial_in NoMemory = None

-- numbers that a trial may have
pub record IsWithinTrial (n : TrialNumbers) : Type 0 where
  pub clients_from : 2 ≤ n.clients
  pub clients_to : n.clients ≤ PARTY_LIMIT
  pub seats_from : 1 ≤ n.seats
  pub seats_to : n.seats ≤ LICENCE_LIMIT
  pub rounds_from : 1 ≤ n.rounds
  pub rounds_to : n.rounds ≤ 10000
