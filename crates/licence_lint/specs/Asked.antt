-- What words ask for, by the rules of clap.
use Rattle.std.specs.Prelude.{◌≡◌, ◌⊎◌, Bool, true, false, List, [], ◌∷◌, map, Option, None, Some, codes, string_bytes}
use Rattle.clap.specs.Words.{App, IsAmong, Kinds, Rule, Text, fault_of, first_of, matches_of, new_app, new_rule, with_rule}
use Rattle.clap.specs.declared.builder.action.ArgAction.TheVariants.{Set}
use Rattle.clap.specs.declared.error.kind.ErrorKind.{ErrorKind}
use Rattle.clap.specs.declared.error.kind.ErrorKind.TheVariants.{DisplayHelp, DisplayVersion, OutOfMemory}
use Rattle.licence_tool.specs.declared.words.Words.{Words}
use Rattle.licence_tool.specs.declared.words.Words.TheVariants as words
use Rattle.licence_lint.specs.Words.{LintWords, lint_by, lint_named}
use Rattle.licence_lint.specs.declared.words.Asked.{Asked}
use Rattle.licence_lint.specs.declared.words.Asked.TheVariants.{Lint, Shown, Usage, NoMemory}

-- a word that names a file, and is needed
abbrev pub name_rule : Text → Rule
name_rule id = record (new_rule id) { action = Some Set; required = true }

-- an option of this name with a value
abbrev pub span_rule : Text → Rule
span_rule id = record (new_rule id) { long = Some id; action = Some Set; value_names = 1 }

abbrev bare_app : App
bare_app = let app = new_app (codes "licence_lint") in record app { top = record app.top { no_binary_name = true; has_version = true } }

-- The command line: LICENCE and OPTIONS, which are needed, and `--expires-within` and `--on`, each with a value. Clap adds `--help`, `-h`, `--version` and `-V`.
unfoldable pub lint_app : App
lint_app =
    with_rule (with_rule (with_rule (with_rule bare_app (name_rule (codes "LICENCE"))) (name_rule (codes "OPTIONS")))
    (span_rule (codes "expires-within"))) (span_rule (codes "on"))

-- the value of this name in words, by the rules of clap
unfoldable pub value_in : List Text → Text → Option Text
value_in words id = first_of id (matches_of lint_app words)

-- the kinds of clap's fault in words; there is none where it takes them
unfoldable pub faults_in : List Text → Kinds
faults_in words = fault_of lint_app words

-- the lint of values by their names
abbrev pub lint_found : (Text → Option Text) → Option LintWords
lint_found value = lint_by (value (codes "LICENCE")) (value (codes "OPTIONS")) (value (codes "expires-within")) (value (codes "on"))

abbrev pub unless_refused : Kinds → Option LintWords → Option LintWords
unless_refused [] lint = lint
unless_refused (kind ∷ kinds) lint = None

-- the lint that words are: clap takes them, and their values are those of one
abbrev pub lint_of : List Text → Option LintWords
lint_of words = unless_refused (faults_in words) (lint_found (value_in words))

-- the lint that the words of a command line are
abbrev pub lint_in : Words → Option LintWords
lint_in (words.Text texts) = lint_of (map string_bytes texts.items)
lint_in words.NotText = None
lint_in words.NoMemory = None

-- help or the version is among the kinds of clap's fault
abbrev pub IsShown : Kinds → Type 0
IsShown kinds = IsAmong DisplayHelp kinds ⊎ IsAmong DisplayVersion kinds

-- whether clap's fault of this kind is a text to show
abbrev pub is_shown : ErrorKind → Bool
is_shown DisplayHelp = true
is_shown DisplayVersion = true
is_shown kind = false

-- clap has a fault of another kind
abbrev pub HasFault : Kinds → Type 0
HasFault kinds = (kind : ErrorKind) × IsAmong kind kinds × (is_shown kind ≡ false)

-- words are no lint, and don't ask for help or the version
abbrev pub IsNoLintBy : List Text → Type 0
IsNoLintBy words = ((faults_in words ≡ []) × (lint_found (value_in words) ≡ None)) ⊎ HasFault (faults_in words)

abbrev pub IsNoLint : Words → Type 0
IsNoLint (words.Text texts) = IsNoLintBy (map string_bytes texts.items)
IsNoLint words.NotText = Unit {0}
IsNoLint words.NoMemory = ⊥

-- words ask for help or the version
abbrev pub AsksHelp : Words → Type 0
AsksHelp (words.Text texts) = IsShown (faults_in (map string_bytes texts.items))
AsksHelp words.NotText = ⊥
AsksHelp words.NoMemory = ⊥

-- what is asked for where clap takes the words and finds these values
abbrev pub FoundSays : (Text → Option Text) → Asked → Type 0
FoundSays value (Lint names) = lint_found value ≡ Some (lint_named names)
FoundSays value Usage = lint_found value ≡ None
FoundSays value (Shown text) = ⊥
FoundSays value NoMemory = ⊥

-- what is asked for where clap's fault is of this kind
abbrev pub RefusalShows : ErrorKind → Asked → Type 0
RefusalShows kind (Lint names) = ⊥
RefusalShows kind Usage = (is_shown kind ≡ false) × (kind ≡ OutOfMemory → ⊥)
RefusalShows kind (Shown text) = (kind ≡ DisplayHelp) ⊎ (kind ≡ DisplayVersion)
RefusalShows kind NoMemory = Unit {0}

-- what words ask for
abbrev pub IsAskedBy : List Text → Asked → Type 0
IsAskedBy words (Lint names) = lint_of words ≡ Some (lint_named names)
IsAskedBy words Usage = IsNoLintBy words
IsAskedBy words (Shown text) = IsShown (faults_in words)
IsAskedBy words NoMemory = Unit {0}

-- what the words of a command line ask for
abbrev pub IsAsked : Words → Asked → Type 0
IsAsked (words.Text texts) asked = IsAskedBy (map string_bytes texts.items) asked
IsAsked words.NotText asked = asked ≡ Usage
IsAsked words.NoMemory asked = asked ≡ NoMemory
