-- The run of a pool follows the pool's ledger.
use Rattle.std.proofs.Common.{◌≡◌, ℕ, ◌+◌, ◌-◌, ◌<◌, ◌^◌, Bool, true, false, ◌&&◌, List, [], ◌∷◌, length, map, get_or, refl, sym, ap, ◌∙◌, arith, length-append, eqb, ltb}
use Rattle.std.proofs.lemmas.Bool.{eq-eqb, lt-ltb}
use Rattle.std.proofs.lemmas.List.{get_or-replicate, length-map, length-replicate}
use Rattle.std.proofs.lemmas.Option.{unwrap_or-slice_get}
use Rattle.std.specs.List.{list_all}
use Rattle.feature_lines.specs.declared.pool.Pool.{Pool}
use Rattle.options_machine.specs.Rules.{Rules}
use Rattle.options_machine.specs.Run.{after}
use Rattle.options_machine.specs.State.{State}
use Rattle.options_machine.specs.Step.{set_asked, step}
use Rattle.options_machine.specs.declared.reply.Reply.{Reply}
use Rattle.options_text.specs.Options.{OptionsFile}
use Rattle.policy.specs.Pools.{rules_of}
use Rattle.script_text.specs.Line.{AskedLine}
use Rattle.scripts.specs.Ledgers.{Ledger, new_ledger, new_ledgers}
use Rattle.scripts.specs.Played.{AreRunsOf, IsRunOf}
use Rattle.scripts.specs.PoolRuns.{entered_at, is_ready, places_with, run_of, run_walk, served_at}
use Rattle.scripts.specs.Script.{with_entry_of, entry_of, ledger_walk, request_of}
use Rattle.scripts.specs.Walk.{after_line, line_answer}
use Rattle.scripts.specs.declared.answers.Answer.TheVariants as answers
use Rattle.scripts.specs.declared.pool_run.PoolRun.{PoolRun}
use Rattle.scripts.proofs.Entries.{after_entry_of, now_after, reply_of_entry}
use Rattle.scripts.proofs.Places.{length_moved, places_then}
use Rattle.scripts.proofs.Walks.{both_go, same_answer}

module _ (sets lines : ℕ) (line : AskedLine) (r : PoolRun) (l : Ledger) where
  -- the book answers by the ledger
  served_same : IsRunOf sets lines r l → served_at line r ≡ step l.sets (after l.sets l.run) (request_of line) line.moment
  unfolding served_at
  served_same k =
      ap (λ (s : State). step r.book.sets s (request_of line) line.moment) k.reached
      ∙ ap (λ (rules : List Rules). step rules (after l.sets l.run) (request_of line) line.moment) k.rules

  -- with the reply of the entry that the line makes
  replies_same : IsRunOf sets lines r l → (served_at line r).0 ≡ (entry_of l.sets l.run line).reply
  replies_same k = ap (λ (served : Reply × State). served.0) (served_same k) ∙ sym (reply_of_entry l.sets l.run line k.small)

  answers_same : IsRunOf sets lines r l → run_walk.answer line r ≡ ledger_walk.answer line l
  answers_same k = ap (λ (n : ℕ). answers.Entry (served_at line r).0 n) k.counted ∙ ap (λ (said : Reply). answers.Entry said (length l.run)) (replies_same k)

  kept_same : line.party < 256 → IsRunOf sets lines r l → run_walk.keeps line.party r ≡ ledger_walk.keeps line.party l
  kept_same within k = unwrap_or-slice_get r.places line.party false ∙ k.kept line.party within

  -- a run after the entry of a line
  run_entered : line.party < 256 → IsRunOf sets lines r l → IsRunOf sets (lines + 1) (entered_at line r) (with_entry_of line l)
  run_entered within k =
      let inside : line.party < length r.places = rw k.room within in
      record {
        pool = k.pool;
        rules = k.rules;
        many = k.many;
        parties = k.parties;
        reached = ap (λ (served : Reply × State). served.1) (served_same k) ∙ sym (after_entry_of l.sets l.run line k.small);
        small = now_after l.sets l.run line k.small;
        counted = omega (arith, k.counted, length-append l.run (entry_of l.sets l.run line ∷ []));
        few = omega (arith, k.few, length-append l.run (entry_of l.sets l.run line ∷ []));
        room = length_moved r.places line.party (served_at line r).0 (set_asked line.kind) ∙ k.room;
        kept = λ party h. ap (λ (said : Reply). get_or (places_with r.places line said) party false) (replies_same k)
            ∙ places_then l.run (entry_of l.sets l.run line) r.places party (set_asked line.kind) refl inside (k.kept party h);
      }

  -- and after a line that makes no entry there
  run_waits : IsRunOf sets lines r l → IsRunOf sets (lines + 1) r l
  run_waits k = record {
    pool = k.pool;
    rules = k.rules;
    many = k.many;
    parties = k.parties;
    reached = k.reached;
    small = k.small;
    counted = k.counted;
    few = omega (arith, k.few);
    room = k.room;
    kept = k.kept;
  }

module _ (sets lines : ℕ) (line : AskedLine) (within : line.party < 256) (rs : List PoolRun) (ls : List Ledger) where
  -- a line is answered at the runs as at the ledgers
  pub answered_same : AreRunsOf sets lines rs ls → line_answer run_walk sets rs line ≡ line_answer ledger_walk sets ls line
  answered_same k =
      same_answer run_walk ledger_walk line (IsRunOf sets lines) (IsRunOf sets (lines + 1)) (λ r l i. i.pool) (λ r l. kept_same sets lines line r l within) (answers_same sets lines line)
      (run_waits sets lines line) (λ r l. run_entered sets lines line r l within) sets rs ls k

  -- and then each run stands again where its ledger says
  pub follow_on : AreRunsOf sets lines rs ls → AreRunsOf sets (lines + 1) (after_line run_walk sets rs line) (after_line ledger_walk sets ls line)
  follow_on k =
      both_go run_walk ledger_walk line (IsRunOf sets lines) (IsRunOf sets (lines + 1)) (λ r l i. i.pool) (λ r l. kept_same sets lines line r l within) (answers_same sets lines line)
      (run_waits sets lines line) (λ r l. run_entered sets lines line r l within) sets rs ls k

all_true : (a b c : Bool) → a ≡ true → b ≡ true → c ≡ true → (a && (b && c)) ≡ true
all_true a b c p q r = rw (p, q, r) refl

-- each run can take one entry more
pub are_ready : (sets lines : ℕ) (rs : List PoolRun) (ls : List Ledger) → lines < 2 ^ 64 - 1 → AreRunsOf sets lines rs ls → list_all (is_ready sets) rs ≡ true
are_ready sets lines [] [] h k = refl
are_ready sets lines [] (l ∷ ls) h k = absurd k
are_ready sets lines (r ∷ rs) [] h k = absurd k
are_ready sets lines (r ∷ rs) (l ∷ ls) h k =
    let ready : is_ready sets r ≡ true = all_true (eqb r.book.parties 256) (eqb (length r.book.sets) sets) (ltb r.entries (2 ^ 64 - 1))
    (eq-eqb r.book.parties 256 k.0.parties)
    (eq-eqb (length r.book.sets) sets (ap length k.0.rules ∙ k.0.many))
    (lt-ltb r.entries (2 ^ 64 - 1) (omega (arith, k.0.counted, k.0.few, h))) in
    rw ready (are_ready sets lines rs ls h k.1)

-- the run of a pool before the first line
run_opened : (files : List OptionsFile) (pool : Pool) → IsRunOf (length files) 0 (run_of files pool) (new_ledger files pool)
run_opened files pool = record {
  pool = refl;
  rules = refl;
  many = length-map files (rules_of pool);
  parties = refl;
  reached = refl;
  small = omega arith;
  counted = refl;
  few = omega arith;
  room = length-replicate 256 false;
  kept = λ party h. get_or-replicate 256 party false false h;
}

pub runs_opened : (files : List OptionsFile) (pools : List Pool) → AreRunsOf (length files) 0 (map (run_of files) pools) (new_ledgers pools files)
runs_opened files [] = tt
runs_opened files (pool ∷ pools) = (run_opened files pool, runs_opened files pools)
