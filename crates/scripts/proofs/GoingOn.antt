-- How the ledgers of the pools go on: each pool stays, its run gains entries, and stays a run of the pool's rules.
use Rattle.std.proofs.Common.{◌≡◌, ℕ, ◌<◌, ◌^◌, List, [], ◌∷◌, ◌++◌, length, map, refl, sym, ap, ◌∙◌, subst, append_assoc}
use Rattle.std.proofs.lemmas.List.{append-nil, length-map}
use Rattle.std.specs.List.{AllZip}
use Rattle.feature_lines.specs.declared.pool.Pool.{Pool}
use Rattle.options_machine.specs.Run.{IsBelow, IsRun, after}
use Rattle.options_machine.specs.Step.{set_asked}
use Rattle.options_machine.specs.declared.reply.Entry.{Entry}
use Rattle.options_text.specs.Options.{OptionsFile}
use Rattle.policy.specs.Pools.{rules_of}
use Rattle.script_text.specs.Line.{AskedLine}
use Rattle.scripts.specs.Ledgers.{Ledger, new_ledgers}
use Rattle.scripts.specs.Script.{with_entry_of, entry_of, ledger_walk, ledgers_of}
use Rattle.scripts.specs.Walk.{after_line, after_lines}
use Rattle.scripts.proofs.Entries.{entry_follows, now_after}
use Rattle.scripts.proofs.Walks.{line_goes, lines_go, same_map}

-- a ledger whose entries are a run of its pool's rules so far
pub record IsGood (files : List OptionsFile) (l : Ledger) : Type 0 where
  pub run : IsRun l.sets l.run
  pub small : (after l.sets l.run).now < 2 ^ 40
  pub rules : l.sets ≡ map (rules_of l.pool) files

-- the later ledger goes on from the earlier one
pub record GoesOn (files : List OptionsFile) (old new : Ledger) : Type 0 where
  pub pool : old.pool ≡ new.pool
  pub rest : List Entry
  pub run : new.run ≡ old.run ++ rest
  pub good : IsGood files old → IsGood files new

module _ (files : List OptionsFile) where
  stays : (l : Ledger) → GoesOn files l l
  stays l = record { pool = refl; rest = []; run = sym (append-nil l.run); good = λ k. k }

  further : (a b c : Ledger) → GoesOn files a b → GoesOn files b c → GoesOn files a c
  further a b c g h = record {
    pool = g.pool ∙ h.pool;
    rest = g.rest ++ h.rest;
    run = h.run ∙ (ap (λ (r : List Entry). r ++ h.rest) g.run ∙ append_assoc a.run g.rest h.rest);
    good = λ k. h.good (g.good k);
  }

  good_on : (line : AskedLine) (l : Ledger) → IsBelow (set_asked line.kind) (length files) → IsGood files l → IsGood files (with_entry_of line l)
  good_on line l asks k =
      let many : length l.sets ≡ length files = ap length k.rules ∙ length-map files (rules_of l.pool) in
      record {
        run = entry_follows l.sets l.run line k.small (subst (λ (n : ℕ). IsBelow (set_asked line.kind) n) (sym many) asks) k.run;
        small = now_after l.sets l.run line k.small;
        rules = k.rules;
      }

  enters : (line : AskedLine) (l : Ledger) → IsBelow (set_asked line.kind) (length files) → GoesOn files l (with_entry_of line l)
  enters line l asks = record { pool = refl; rest = entry_of l.sets l.run line ∷ []; run = refl; good = good_on line l asks }

  -- the ledgers that lines leave go on from those before them
  pub all_go_on : (ls : List Ledger) (lines : List AskedLine) → AllZip (GoesOn files) ls (after_lines ledger_walk (length files) ls lines)
  all_go_on ls lines = lines_go ledger_walk (length files) (GoesOn files) stays further enters ls lines

  pools_stay : (ls ms : List Ledger) → AllZip (GoesOn files) ls ms → map (λ (l : Ledger). l.pool) ms ≡ map (λ (l : Ledger). l.pool) ls
  pools_stay ls ms k = sym (same_map (GoesOn files) (λ (l : Ledger). l.pool) (λ (l : Ledger). l.pool) (λ old new g. g.pool) ls ms k)

  -- a line changes no pool
  pub same_pools : (ls : List Ledger) (line : AskedLine) → map (λ (l : Ledger). l.pool) (after_line ledger_walk (length files) ls line) ≡ map (λ (l : Ledger). l.pool) ls
  same_pools ls line = pools_stay ls (after_line ledger_walk (length files) ls line) (line_goes ledger_walk (length files) (GoesOn files) stays further enters ls line)

  -- the ledgers begin with the pools
  pub opened_pools : (pools : List Pool) → map (λ (l : Ledger). l.pool) (new_ledgers pools files) ≡ pools
  opened_pools [] = refl
  opened_pools (pool ∷ pools) = ap (λ (ps : List Pool). pool ∷ ps) (opened_pools pools)

-- a script makes one history at each pool
pub scripts_pooled : (pools : List Pool) (files : List OptionsFile) (lines : List AskedLine) → map (λ (l : Ledger). l.pool) (ledgers_of pools files lines) ≡ pools
scripts_pooled pools files lines = pools_stay files (new_ledgers pools files) (ledgers_of pools files lines) (all_go_on files (new_ledgers pools files) lines) ∙ opened_pools files pools
