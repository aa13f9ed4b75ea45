-- Where a script stands while it is played, or entered for its report.
use Rattle.std.proofs.Common.{◌≡◌, ℕ, suc, ◌+◌, ◌-◌, ◌<◌, ◌^◌, true, ◌&&◌, List, [], ◌∷◌, ◌++◌, length, map, drop, get_or, take, Ok, Err, refl, sym, ap, ◌∙◌, add-one, append_assoc, ltb, subst, Option, Result}
use Rattle.std.proofs.Math.Seq.{drop-cons}
use Rattle.std.proofs.lemmas.Bool.{ltb-true}
use Rattle.std.specs.List.{list_all}
use Rattle.feature_lines.specs.declared.pool.Pool.{Pool}
use Rattle.options_machine.proofs.Counts.{and_left, and_right}
use Rattle.options_machine.specs.Rules.{Rules}
use Rattle.options_machine.specs.Run.{after}
use Rattle.options_machine.specs.State.{State}
use Rattle.options_text.specs.Options.{OptionsFile}
use Rattle.outside.specs.Told.{Wrote}
use Rattle.outside.specs.declared.sink.WriteFailed.{WriteFailed}
use Rattle.script_text.specs.Fits.{has_its_words, is_fit}
use Rattle.script_text.specs.Line.{AskedLine}
use Rattle.scripts.specs.Answers.{answer_text}
use Rattle.scripts.specs.Ledgers.{Ledger, new_ledgers}
use Rattle.scripts.specs.Played.{AreRunsOf, IsPlayed, IsReached, IsRunOf}
use Rattle.scripts.specs.PoolRuns.{is_ready, pools_of, run_of, run_walk}
use Rattle.scripts.specs.Reports.{reports, run_reports}
use Rattle.scripts.specs.Script.{ledger_walk, ledgers_of, output_of}
use Rattle.scripts.specs.Walk.{after_line, after_lines, line_answer, output_from}
use Rattle.scripts.specs.declared.answers.Answer.{Answer}
use Rattle.scripts.specs.declared.pool_run.PoolRun.{PoolRun}
use Rattle.stat_report.specs.Report.{report_text}
use Rattle.scripts.proofs.Follows.{answered_same, are_ready, follow_on, runs_opened}
use Rattle.scripts.proofs.GoingOn.{opened_pools, same_pools}
use Rattle.scripts.proofs.Steps.{one_of_all}
use Rattle.scripts.proofs.Walks.{same_map}
use Rattle.scripts.proofs.Writes.{all_left, left_more, left_over, left_same, wrote_rest}

-- the line at a place, and those behind it
pub next_line : (lines : List AskedLine) (i : ℕ) (line : AskedLine) → i < length lines → line ≡ get_or lines i line → drop i lines ≡ line ∷ drop (i + 1) lines
next_line lines i line h is = rw (add-one, drop-cons lines i line) (ap (λ (l : AskedLine). l ∷ drop (suc i) lines) (sym is))

-- its party is one of the 256
pub party_within : (lines : List AskedLine) (i : ℕ) (line : AskedLine) → list_all is_fit lines ≡ true → i < length lines → line ≡ get_or lines i line → line.party < 256
party_within lines i line fit h is =
    let here : is_fit line ≡ true = ap is_fit is ∙ one_of_all is_fit lines i line fit h in
    let more : (ltb line.party 256 && has_its_words line.kind line.feature line.version) ≡ true =
    and_right (ltb line.moment (2 ^ 40)) (ltb line.party 256 && has_its_words line.kind line.feature line.version) here in
    ltb-true line.party 256 (and_left (ltb line.party 256) (has_its_words line.kind line.feature line.version) more)

module _ (files : List OptionsFile) (pools : List Pool) where
  -- a script that begins
  abbrev reached_first : (rs : List PoolRun) → rs ≡ map (run_of files) pools → IsReached (length files) 0 pools rs
  reached_first rs is = record {
    ledgers = new_ledgers pools files;
    pooled = opened_pools files pools;
    follow = subst (λ (runs : List PoolRun). AreRunsOf (length files) 0 runs (new_ledgers pools files)) (sym is) (runs_opened files pools);
  }

  -- a line more was entered
  abbrev reached_more : (lines : ℕ) (rs : List PoolRun) (line : AskedLine) → line.party < 256 → IsReached (length files) lines pools rs → IsReached (length files) (lines + 1) pools (after_line run_walk (length files) rs line)
  reached_more lines rs line within k = record {
    ledgers = after_line ledger_walk (length files) k.ledgers line;
    pooled = same_pools files k.ledgers line ∙ k.pooled;
    follow = follow_on (length files) lines line within rs k.ledgers k.follow;
  }

-- the runs are ready for a line
pub ready_then : {sets lines : ℕ} {pools : List Pool} {rs : List PoolRun} → lines < 2 ^ 64 - 1 → IsReached sets lines pools rs → list_all (is_ready sets) rs ≡ true
ready_then {sets} {lines} {pools} {rs} h k = are_ready sets lines rs k.ledgers h k.follow

-- and at these pools
pub pools_then : {sets lines : ℕ} {pools : List Pool} {rs : List PoolRun} → IsReached sets lines pools rs → pools_of rs ≡ pools
pools_then {sets} {lines} {pools} {rs} k = same_map (IsRunOf sets lines) (λ (r : PoolRun). r.pool) (λ (l : Ledger). l.pool) (λ r l i. i.pool) rs k.ledgers k.follow ∙ k.pooled

-- Writing the output lines.

-- a script that begins
pub begins : {S : Type 0} (held : S → Option (List ℕ)) (faults : S → ℕ) (files : List OptionsFile) (pools : List Pool) (rs : List PoolRun) (lines : List AskedLine) (now : S) → rs ≡ map (run_of files) pools
    → IsPlayed held faults (length files) 0 pools rs lines now now [] (output_of pools files lines)
begins held faults files pools rs lines now is = record { reached = reached_first files pools rs is; text = all_left now (output_of pools files lines) }

-- the text that is left begins with the line's own
left_now : (files : List OptionsFile) {lines : ℕ} {pools : List Pool} {rs : List PoolRun} (line : AskedLine) {left : List AskedLine} (rest : List AskedLine) → line.party < 256 → left ≡ line ∷ rest
    → (answer : Answer) → answer ≡ line_answer run_walk (length files) rs line → (k : IsReached (length files) lines pools rs)
    → output_from ledger_walk (length files) k.ledgers left ≡ answer_text answer ++ output_from ledger_walk (length files) (after_line ledger_walk (length files) k.ledgers line) rest
left_now files {lines} {pools} {rs} line rest within next answer is k =
    ap (output_from ledger_walk (length files) k.ledgers) next
    ∙ ap (λ (a : Answer). answer_text a ++ output_from ledger_walk (length files) (after_line ledger_walk (length files) k.ledgers line) rest)
    (sym (is ∙ answered_same (length files) lines line within rs k.ledgers k.follow))

module _ {S : Type 0} {held : S → Option (List ℕ)} {faults : S → ℕ} (files : List OptionsFile) {pools : List Pool} {lines : ℕ} {rs : List PoolRun} (line : AskedLine) {left : List AskedLine} (rest : List AskedLine)
    {old now : S} {gathered whole : List ℕ} (within : line.party < 256) (next : left ≡ line ∷ rest) (answer : Answer) (is : answer ≡ line_answer run_walk (length files) rs line)
    (k : IsPlayed held faults (length files) lines pools rs left old now gathered whole) where
  -- a line more was played, and its output line gathered
  pub played_more : {more : List ℕ} → more ≡ gathered ++ answer_text answer → IsPlayed held faults (length files) (lines + 1) pools (after_line run_walk (length files) rs line) rest old now more whole
  played_more {more} e =
      let after_it : List ℕ = output_from ledger_walk (length files) (after_line ledger_walk (length files) k.reached.ledgers line) rest in
      record {
        reached = reached_more files pools lines rs line within k.reached;
        text = left_same
            (ap (λ (t : List ℕ). gathered ++ t) (left_now files line rest within next answer is k.reached)
            ∙ sym (append_assoc gathered (answer_text answer) after_it)
            ∙ ap (λ (t : List ℕ). t ++ after_it) (sym e))
            k.text;
      }

module _ {S : Type 0} {held : S → Option (List ℕ)} {faults : S → ℕ} {sets lines : ℕ} {pools : List Pool} {rs : List PoolRun} {left : List AskedLine} {old now new : S} {gathered whole : List ℕ}
    (k : IsPlayed held faults sets lines pools rs left old now gathered whole) where
  -- some of what was gathered was written
  pub played_written : {more : List ℕ} {u : Unit {0}} (written : List ℕ) → gathered ≡ written ++ more → Wrote held faults now new written (Ok u) → IsPlayed held faults sets lines pools rs left old new more whole
  played_written {more} written e w =
      let rest : List ℕ = output_from ledger_walk sets k.reached.ledgers left in
      record { reached = k.reached; text = left_more written (more ++ rest) k.text (ap (λ (t : List ℕ). t ++ rest) e ∙ append_assoc written more rest) w }

  -- writing it failed
  pub played_front : {e : WriteFailed} (written more : List ℕ) (fault : WriteFailed) → gathered ≡ written ++ more → Wrote held faults now new written (Err e) → Wrote held faults old new whole (Err fault)
  played_front written more fault e w =
      let rest : List ℕ = output_from ledger_walk sets k.reached.ledgers left in
      left_over written (more ++ rest) fault k.text (ap (λ (t : List ℕ). t ++ rest) e ∙ append_assoc written more rest) w

  -- where no line is left, all that was gathered is written
  pub played_all : (result : Result (Unit {0}) WriteFailed) → left ≡ [] → Wrote held faults now new gathered result → Wrote held faults old new whole result
  played_all result none w = wrote_rest result k.text (ap (λ (ls : List AskedLine). gathered ++ output_from ledger_walk sets k.reached.ledgers ls) none) w

-- Entering the lines for a report.

-- where a script stands after so many lines, and the lines that are left
pub record IsEntered (sets lines : ℕ) (pools : List Pool) (runs : List PoolRun) (left : List AskedLine) (whole : List Ledger) : Type 0 where
  pub reached : IsReached sets lines pools runs
  pub all : after_lines ledger_walk sets reached.ledgers left ≡ whole

pub enters : (files : List OptionsFile) (pools : List Pool) (rs : List PoolRun) (lines : List AskedLine) → rs ≡ map (run_of files) pools → IsEntered (length files) 0 pools rs lines (ledgers_of pools files lines)
enters files pools rs lines is = record { reached = reached_first files pools rs is; all = refl }

pub entered_more : (files : List OptionsFile) {lines : ℕ} {pools : List Pool} {rs : List PoolRun} (line : AskedLine) {left : List AskedLine} (rest : List AskedLine) {whole : List Ledger}
    → line.party < 256 → left ≡ line ∷ rest → IsEntered (length files) lines pools rs left whole → IsEntered (length files) (lines + 1) pools (after_line run_walk (length files) rs line) rest whole
entered_more files {lines} {pools} {rs} line rest within next k = record {
  reached = reached_more files pools lines rs line within k.reached;
  all = sym (ap (after_lines ledger_walk (length files) k.reached.ledgers) next) ∙ k.all;
}

-- where no line is left, the runs stand where the script leaves the ledgers
pub all_entered : (sets lines : ℕ) (pools : List Pool) (rs : List PoolRun) (left : List AskedLine) (whole : List Ledger) → left ≡ [] → IsEntered sets lines pools rs left whole → AreRunsOf sets lines rs whole
all_entered sets lines pools rs left whole none k =
    subst (λ (ls : List Ledger). AreRunsOf sets lines rs ls) (sym (ap (after_lines ledger_walk sets k.reached.ledgers) none) ∙ k.all) k.reached.follow

-- the reports of runs are those of their ledgers
pub same_reports : (sets lines at : ℕ) (rs : List PoolRun) (ls : List Ledger) → AreRunsOf sets lines rs ls → run_reports at rs ≡ reports at ls
same_reports sets lines at [] [] k = refl
same_reports sets lines at [] (l ∷ ls) k = absurd k
same_reports sets lines at (r ∷ rs) [] k = absurd k
same_reports sets lines at (r ∷ rs) (l ∷ ls) k =
    ap (λ (p : Pool). report_text at p r.book.sets r.book.state ++ run_reports (at + 1) rs) k.0.pool
    ∙ (ap (λ (s : List Rules). report_text at l.pool s r.book.state ++ run_reports (at + 1) rs) k.0.rules
    ∙ (ap (λ (s : State). report_text at l.pool l.sets s ++ run_reports (at + 1) rs) k.0.reached
    ∙ ap (λ (t : List ℕ). report_text at l.pool l.sets (after l.sets l.run) ++ t) (same_reports sets lines (at + 1) rs ls k.1)))

front : (new rest : List PoolRun) → take (length new) (new ++ rest) ≡ new
front [] rest = refl
front (r ∷ new) rest = ap (λ (rs : List PoolRun). r ∷ rs) (front new rest)

-- a list that was written over by as many
pub all_new : (len : ℕ) (new rest : List PoolRun) → length new ≡ len → take len (new ++ rest) ≡ new
all_new len new rest same = ap (λ (n : ℕ). take n (new ++ rest)) (sym same) ∙ front new rest
