-- The output lines are replies of entries of the histories that the whole script makes.
use Rattle.std.proofs.Common.{◌≡◌, ℕ, zero, suc, ◌<◌, List, [], ◌∷◌, ◌++◌, length, Option, None, Some, refl, ap, ◌∙◌, subst, arith, slice_get}
use Rattle.std.specs.List.{AllZip}
use Rattle.feature_lines.specs.declared.route.Found.{Found}
use Rattle.feature_lines.specs.declared.route.Found.TheVariants.{Pool as At, Unknown, Expired}
use Rattle.options_machine.specs.Step.{set_asked}
use Rattle.options_machine.specs.declared.reply.Entry.{Entry}
use Rattle.options_text.specs.Options.{OptionsFile}
use Rattle.script_text.specs.Line.{AskedLine}
use Rattle.scripts.specs.Answers.{answer_text}
use Rattle.scripts.specs.Laws.{AnswersLine, AreAnswered, IsAnswered}
use Rattle.scripts.specs.Ledgers.{Ledger}
use Rattle.scripts.specs.Script.{with_entry_of, entry_of, ledger_walk}
use Rattle.scripts.specs.Walk.{IsThere, after_asked, after_line, after_lines, after_sent, changed_at, entry_answer, destination, sent_answer}
use Rattle.scripts.proofs.GoingOn.{GoesOn, all_go_on}
use Rattle.scripts.proofs.Walks.{sent_there}

-- a ledger of the list, and the one that goes on from it
record Later (files : List OptionsFile) (at : ℕ) (l : Ledger) (ws : List Ledger) : Type 0 where
  ledger : Ledger
  there : slice_get ws at ≡ Some ledger
  goes : GoesOn files l ledger

later : (files : List OptionsFile) (at : ℕ) (ls ws : List Ledger) (l : Ledger) → AllZip (GoesOn files) ls ws → slice_get ls at ≡ Some l → Later files at l ws
later files at [] ws l k e = absurd cc
later files zero (x ∷ ls) [] l k e = absurd k
later files zero (x ∷ ls) (w ∷ ws) l k e = let same : x ≡ l = cc in record { ledger = w; there = refl; goes = subst (λ (y : Ledger). GoesOn files y w) same k.0 }
later files (suc at) (x ∷ ls) [] l k e = absurd k
later files (suc at) (x ∷ ls) (w ∷ ws) l k e = let found = later files at ls ws l k.1 e in record { ledger = found.ledger; there = found.there; goes = found.goes }

at_changed : (line : AskedLine) (at : ℕ) (ls : List Ledger) (l : Ledger) → slice_get ls at ≡ Some l → slice_get (changed_at at (with_entry_of line) ls) at ≡ Some (with_entry_of line l)
at_changed line at [] l e = absurd cc
at_changed line zero (x ∷ ls) l e = let same : x ≡ l = cc in ap (λ (y : Ledger). Some (with_entry_of line y)) same
at_changed line (suc at) (x ∷ ls) l e = at_changed line at ls l e

within : (at : ℕ) (ls : List Ledger) → at < length ls → (l : Ledger) × (slice_get ls at ≡ Some l)
within at [] h = absurd (omega arith)
within zero (l ∷ ls) h = (l, refl)
within (suc at) (l ∷ ls) h = within at ls (omega arith)

behind : (h : List Entry) (e : Entry) (rest : List Entry) → slice_get ((h ++ e ∷ []) ++ rest) (length h) ≡ Some e
behind [] e rest = refl
behind (x ∷ h) e rest = behind h e rest

-- the output line of a script line that went there
answered : (files : List OptionsFile) (whole ls : List Ledger) (line : AskedLine) (found : Found) → IsThere (length ls) found → AllZip (GoesOn files) (after_sent ledger_walk ls line found) whole
    → IsAnswered whole (answer_text (sent_answer ledger_walk ls line found)) found
answered files whole ls line (At at) h k =
    let (l, is) = within at ls h in
    let found = later files at (changed_at at (with_entry_of line) ls) whole (with_entry_of line l) k (at_changed line at ls l is) in
    record {
      pool = at;
      place = length l.run;
      ledger = found.ledger;
      entry = entry_of l.sets l.run line;
      there = found.there;
      entered = ap (λ (r : List Entry). slice_get r (length l.run)) found.goes.run ∙ behind l.run (entry_of l.sets l.run line) found.goes.rest;
      says = ap (λ (o : Option Ledger). answer_text (entry_answer ledger_walk line o)) is;
    }
answered files whole ls line Unknown h k = tt
answered files whole ls line (Expired day) h k = tt

asked_answered : (files : List OptionsFile) (whole ls : List Ledger) (line : AskedLine) (asked : Option ℕ) → AllZip (GoesOn files) (after_asked ledger_walk (length files) ls line asked) whole → AnswersLine whole ls line asked
asked_answered files whole ls line None k = answered files whole ls line (destination ledger_walk ls line line.feature) (sent_there ledger_walk ls line line.feature) k
asked_answered files whole ls line (Some n) k = tt

-- the output lines of script lines
pub all_answered : (files : List OptionsFile) (ls : List Ledger) (lines : List AskedLine) → AreAnswered (length files) (after_lines ledger_walk (length files) ls lines) ls lines
all_answered files ls [] = tt
all_answered files ls (line ∷ lines) =
    let next = after_line ledger_walk (length files) ls line in
    (asked_answered files (after_lines ledger_walk (length files) next lines) ls line (set_asked line.kind) (all_go_on files next lines), all_answered files next lines)
