use Rattle.std.proofs.Common.{◌≡◌, inl, inr, true, List, [], ◌∷◌, Option, codes, refl, sym, ap, ◌∙◌, subst}
use Rattle.clap.proofs.OnLiterals.{clap_on_literals}
use Rattle.clap.proofs.WalkLemmas.{first_value-rows}
use Rattle.clap.specs.Words.{App, HasKind, HasMatchesOf, IsAmong, Kinds, Text, fault_of, first_of, first_value, found_of, is_simple, is_simple_and_free, kind_of, matches_of, rows_of}
use Rattle.clap.specs.declared.error.Error.{Error}
use Rattle.clap.specs.declared.error.kind.ErrorKind.{ErrorKind}
use Rattle.clap.specs.declared.error.kind.ErrorKind.TheVariants.{DisplayHelp, DisplayVersion}
use Rattle.clap.specs.declared.parser.matches.ArgMatches.{ArgMatches}
use Rattle.licence_lint.specs.Asked.{FoundSays, IsAskedBy, RefusalShows, faults_in, lint_app, lint_found, unless_refused, value_in}
use Rattle.licence_lint.specs.Words.{LintWords, lint_by}
use Rattle.licence_lint.specs.declared.words.Asked.{Asked}
use Rattle.licence_lint.specs.declared.words.Asked.TheVariants.{Lint, Shown, Usage, NoMemory}

pub lint_is_simple : is_simple lint_app ≡ true
unfolding clap_on_literals lint_app
lint_is_simple = refl

pub lint_is_free : is_simple_and_free lint_app ≡ true
unfolding clap_on_literals lint_app
lint_is_free = refl

taken : (kinds : Kinds) (lint same : Option LintWords) → kinds ≡ [] → lint ≡ same → unless_refused kinds lint ≡ same
taken [] lint same e f = f
taken (k ∷ ks) lint same e f = absurd cc

same_lint : (v w : Text → Option Text) → ((id : Text) → v id ≡ w id) → lint_found v ≡ lint_found w
same_lint v w e =
    ap (λ (x : Option Text). lint_by x (v (codes "OPTIONS")) (v (codes "expires-within")) (v (codes "on"))) (e (codes "LICENCE"))
    ∙ (ap (λ (x : Option Text). lint_by (w (codes "LICENCE")) x (v (codes "expires-within")) (v (codes "on"))) (e (codes "OPTIONS"))
    ∙ (ap (λ (x : Option Text). lint_by (w (codes "LICENCE")) (w (codes "OPTIONS")) x (v (codes "on"))) (e (codes "expires-within"))
    ∙ ap (λ (x : Option Text). lint_by (w (codes "LICENCE")) (w (codes "OPTIONS")) (w (codes "expires-within")) x) (e (codes "on"))))

-- the values that are found are those of clap's rules
values_found : (texts : List Text) (m : ArgMatches) → rows_of (found_of m) ≡ matches_of lint_app texts → (id : Text) → first_value (found_of m) id ≡ value_in texts id
unfolding value_in
values_found texts m rows id = first_value-rows (found_of m) id ∙ ap (first_of id) rows

found_answer : (texts : List Text) (m : ArgMatches) (asked : Asked) → rows_of (found_of m) ≡ matches_of lint_app texts → faults_in texts ≡ []
    → FoundSays (first_value (found_of m)) asked → IsAskedBy texts asked
found_answer texts m (Lint names) rows none says =
    taken (faults_in texts) (lint_found (value_in texts)) _ none (sym (same_lint (first_value (found_of m)) (value_in texts) (values_found texts m rows)) ∙ says)
found_answer texts m Usage rows none says = inl (none, sym (same_lint (first_value (found_of m)) (value_in texts) (values_found texts m rows)) ∙ says)
found_answer texts m (Shown text) rows none says = absurd says
found_answer texts m NoMemory rows none says = absurd says

-- where clap takes the words
pub asked_if_taken : (app : App) (texts same : List Text) (m : ArgMatches) (asked : Asked) → app ≡ lint_app → texts ≡ same → HasMatchesOf app texts m → fault_of app texts ≡ []
    → FoundSays (first_value (found_of m)) asked → IsAskedBy same asked
unfolding faults_in
asked_if_taken app texts same m asked is words matches none says =
    let P : List Text → Type 0 = λ ts. IsAskedBy ts asked in
    let Q : App → Type 0 = λ a. rows_of (found_of m) ≡ matches_of a texts in
    let R : App → Type 0 = λ a. fault_of a texts ≡ [] in
    let simple : is_simple app ≡ true = ap is_simple is ∙ lint_is_simple in
    subst P words (found_answer texts m asked (subst Q is (matches simple).0) (subst R is none) says)

shown_among : (kinds : Kinds) (k want : ErrorKind) → k ≡ want → IsAmong k kinds → IsAmong want kinds
shown_among kinds k want e among = let P : ErrorKind → Type 0 = λ x. IsAmong x kinds in subst P e among

refused_answer : (texts : List Text) (e : Error) (asked : Asked) → HasKind (faults_in texts) e → RefusalShows (kind_of e) asked → IsAskedBy texts asked
refused_answer texts e (Lint names) has says = absurd says
refused_answer texts e Usage (inl full) says = absurd (says.1 full)
refused_answer texts e Usage (inr among) says = inr (kind_of e, among, says.0)
refused_answer texts e (Shown text) (inl full) (inl help) = absurd cc
refused_answer texts e (Shown text) (inl full) (inr version) = absurd cc
refused_answer texts e (Shown text) (inr among) (inl help) = inl (shown_among (faults_in texts) (kind_of e) DisplayHelp help among)
refused_answer texts e (Shown text) (inr among) (inr version) = inr (shown_among (faults_in texts) (kind_of e) DisplayVersion version among)
refused_answer texts e NoMemory has says = tt

-- where it doesn't
pub asked_if_refused : (app : App) (texts same : List Text) (e : Error) (asked : Asked) → app ≡ lint_app → texts ≡ same → HasKind (fault_of app texts) e
    → RefusalShows (kind_of e) asked → IsAskedBy same asked
unfolding faults_in
asked_if_refused app texts same e asked is words has says =
    let P : List Text → Type 0 = λ ts. IsAskedBy ts asked in
    let Q : App → Type 0 = λ a. HasKind (fault_of a texts) e in
    subst P words (refused_answer texts e asked (subst Q is has) says)
