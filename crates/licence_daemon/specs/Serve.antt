-- The words of a `serve`.
use Rattle.std.specs.Prelude.{ℕ, Bool, ◌&&◌, nat_eq, nat_le, if◌then◌else◌, List, ◌∷◌, length, map, Option, None, Some, codes, string_bytes}
use Rattle.std.specs.List.{list_all}
use Rattle.std.specs.Cmp.Lexicographic.{pointwise}
use Rattle.std.specs.Option.{option_map}
use Rattle.lic_types.specs.declared.limits.TheConstants.{PARTY_LIMIT}
use Rattle.lic_text.specs.Number.{number_of}
use Rattle.licence_tool.specs.Command.{is_plain_word}
use Rattle.licence_tool.specs.declared.words.Words.{Words}
use Rattle.licence_tool.specs.declared.words.Words.TheVariants.{Text, NotText, NoMemory}
use Rattle.licence_daemon.specs.declared.serve_words.ServeNames.{ServeNames}

-- the files of a `serve`: their names, or what is told or read of them
pub record ServeFiles (A : Type 0) : Type 0 where
  pub licence : A
  pub options : A
  pub more : List A

-- what a `serve` names: its files, the path of its socket, and how many sessions there are at once
pub record ServeWords : Type 0 where
  pub files : ServeFiles (List ℕ)
  pub socket : List ℕ
  pub sessions : ℕ

-- how many sessions there are at once: 2 to 256
abbrev pub few_sessions : Option ℕ → Option ℕ
few_sessions None = None
few_sessions (Some n) = if nat_le 2 n && nat_le n PARTY_LIMIT then Some n else None

abbrev pub sessions_of : List ℕ → Option ℕ
sessions_of word = few_sessions (number_of word)

-- `serve LICENCE OPTIONS SOCKET SESSIONS`, and three further options files at most
abbrev pub are_serve : List ℕ → List ℕ → List ℕ → List ℕ → List (List ℕ) → Bool
are_serve verb licence options socket more =
    pointwise nat_eq verb (codes "serve") && ((is_plain_word licence && is_plain_word options && is_plain_word socket) && (list_all is_plain_word more && nat_le (length more) 3))

-- the `serve` that words are: names that may name files, and a number of sessions
abbrev pub serve_of : List (List ℕ) → Option ServeWords
serve_of (verb ∷ licence ∷ options ∷ socket ∷ sessions ∷ more) =
    if are_serve verb licence options socket more
    then option_map (λ n. record { files = record { licence = licence; options = options; more = more }; socket = socket; sessions = n }) (sessions_of sessions)
    else None
serve_of words = None

-- the same of the words of a command line
abbrev pub serve_in : Words → Option ServeWords
serve_in (Text words) = serve_of (map string_bytes words.items)
serve_in NotText = None
serve_in NoMemory = None

-- a `serve` as what it names
abbrev pub serve_named : ServeNames → ServeWords
serve_named names = record {
  files = record { licence = names.licence.now; options = names.options.now; more = map string_bytes names.more.now };
  socket = names.socket.now;
  sessions = names.sessions;
}
