use Rattle.std.proofs.Common.{◌≡◌, ◌<◌, ◌≤◌, ◌^◌, true, List, [], ◌∷◌, length, map, refl, sym, ap, ◌∙◌, arith, leb, ltb, subst}
use Rattle.std.proofs.lemmas.Bool.{leb-true}
use Rattle.std.specs.List.{AllZip, list_all}
use Rattle.feature_lines.specs.Licence.{has_licences}
use Rattle.feature_lines.specs.declared.pool.Pool.{Pool}
use Rattle.options_machine.proofs.Counts.{and_left, and_right}
use Rattle.options_machine.proofs.Runs.{run_lawful}
use Rattle.options_machine.specs.Law.{AreSets}
use Rattle.options_machine.specs.Rules.{Rules}
use Rattle.options_text.specs.Options.{OptionsFile}
use Rattle.script_text.specs.Line.{AskedLine}
use Rattle.scripts.specs.Laws.{AreLawful, AreOrderly, AreRuns}
use Rattle.scripts.specs.Ledgers.{Ledger, new_ledgers}
use Rattle.scripts.specs.Script.{ledgers_of}
use Rattle.scripts.proofs.GoingOn.{GoesOn, IsGood, all_go_on, scripts_pooled}
use Rattle.scripts.proofs.Sets.{sets_of_files}

abbrev AllGood : List OptionsFile → List Ledger → Type 0
AllGood files [] = Unit {0}
AllGood files (l ∷ ls) = IsGood files l × AllGood files ls

all_begin : (files : List OptionsFile) (pools : List Pool) → AllGood files (new_ledgers pools files)
all_begin files [] = tt
all_begin files (pool ∷ pools) = (record { run = tt; small = omega arith; rules = refl }, all_begin files pools)

all_good : (files : List OptionsFile) (ls ms : List Ledger) → AllZip (GoesOn files) ls ms → AllGood files ls → AllGood files ms
all_good files [] [] g k = tt
all_good files [] (m ∷ ms) g k = absurd g
all_good files (l ∷ ls) [] g k = absurd g
all_good files (l ∷ ls) (m ∷ ms) g k = (g.0.good k.0, all_good files ls ms g.1 k.1)

-- the ledgers of a script are good
script_good : (pools : List Pool) (files : List OptionsFile) (lines : List AskedLine) → AllGood files (ledgers_of pools files lines)
script_good pools files lines = all_good files (new_ledgers pools files) (ledgers_of pools files lines) (all_go_on files (new_ledgers pools files) lines) (all_begin files pools)

all_run : (files : List OptionsFile) (ls : List Ledger) → AllGood files ls → AreRuns ls
all_run files [] k = tt
all_run files (l ∷ ls) k = (k.0.run, all_run files ls k.1)

-- the entries that a script makes at each pool are a run
pub scripts_run : (pools : List Pool) (files : List OptionsFile) (lines : List AskedLine) → AreRuns (ledgers_of pools files lines)
scripts_run pools files lines = all_run files (ledgers_of pools files lines) (script_good pools files lines)

is_short : (p : Pool) → has_licences p ≡ true → p.count < 2 ^ 32
is_short p has = let few : p.count ≤ 65535 = leb-true p.count 65535 (and_right (ltb 0 p.count) (leb p.count 65535) has) in omega arith

all_lawful : (files : List OptionsFile) (ls : List Ledger) → 0 < length files → length files ≤ 4 → AreOrderly files → list_all has_licences (map (λ (l : Ledger). l.pool) ls) ≡ true → AllGood files ls → AreLawful ls
all_lawful files [] some few orderly has k = tt
all_lawful files (l ∷ ls) some few orderly has k =
    let sets : AreSets l.sets l.pool.count = subst (λ (rs : List Rules). AreSets rs l.pool.count) (sym k.0.rules)
    (sets_of_files files l.pool some few orderly (is_short l.pool (and_left (has_licences l.pool) (list_all has_licences (map (λ (m : Ledger). m.pool) ls)) has))) in (
      run_lawful l.sets l.pool.count l.run sets k.0.run,
      all_lawful files ls some few orderly (and_right (has_licences l.pool) (list_all has_licences (map (λ (m : Ledger). m.pool) ls)) has) k.1,
    )

-- the state that a script leaves at each pool is lawful
pub scripts_lawful : (pools : List Pool) (files : List OptionsFile) (lines : List AskedLine) → 0 < length files → length files ≤ 4 → AreOrderly files → list_all has_licences pools ≡ true
    → AreLawful (ledgers_of pools files lines)
scripts_lawful pools files lines some few orderly has =
    let same = scripts_pooled pools files lines in
    all_lawful files (ledgers_of pools files lines) some few orderly (ap (list_all has_licences) same ∙ has) (script_good pools files lines)
