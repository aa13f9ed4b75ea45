use Rattle.std.proofs.Common.{◌≡◌, ℕ, suc, ◌+◌, ◌<◌, ◌%◌, ◌^◌, Bool, List, [], ◌∷◌, ◌++◌, length, get_or, take, refl, ap, ◌∙◌, arith}
use Rattle.audit_log.specs.Summaries.{tally_text}
use Rattle.audit_log.specs.declared.queue.TheConstants.{ENTRY_LIMIT}
use Rattle.options_machine.specs.declared.reply.Entry.{Entry}
use Rattle.counter.specs.Account.{grants}
use Rattle.desk_book.specs.declared.end.DeskLog.{DeskLog}
use Rattle.feature_desk.specs.declared.closing.DeskTally.{DeskTally}
use Rattle.desk_logs.specs.Ends.{AreEnds, IsEnd, ends_text, log_end, tally_end}
use Rattle.desk_logs.specs.Text.{lines_with_count, log_of, logs_text, numbered_texts, tally_of}

-- texts are the same where each is
same_texts : {X Y : Type 0} (f : ℕ → X → List ℕ) (g : ℕ → Y → List ℕ) (d : Y) (n : ℕ) (xs : List X) (ys : List Y) → length xs ≡ length ys
    → ((k i : ℕ) (x : X) → i < length ys → f k (get_or xs i x) ≡ g k (get_or ys i d)) → numbered_texts f n xs ≡ numbered_texts g n ys
same_texts f g d n [] [] e h = refl
same_texts f g d n [] (y ∷ ys) e h = absurd (omega arith)
same_texts f g d n (x ∷ xs) [] e h = absurd (omega arith)
same_texts {X} {Y} f g d n (x ∷ xs) (y ∷ ys) e h =
    ap (λ (t : List ℕ). t ++ numbered_texts f (n + 1) xs) (h n 0 x (omega arith))
    ∙ ap (λ (t : List ℕ). g n y ++ t) (same_texts f g d (n + 1) xs ys (omega arith) (λ k i (u : X) l. h k (suc i) u (omega arith)))

-- a log with the first entries of a history is written as that history calls for
log_same : (k : ℕ) (l : DeskLog) (t : DeskTally) (h : List Entry) → IsEnd l t h → log_of k l ≡ log_end k h
log_same k l t h e =
    ap (λ (entries : List Entry). lines_with_count k entries l.cut) e.log_is.entries ∙ ap (λ (cut : Bool). lines_with_count k (take ENTRY_LIMIT h) cut) e.log_is.cut_is

tally_same : (k : ℕ) (l : DeskLog) (t : DeskTally) (h : List Entry) → IsEnd l t h → tally_of k t ≡ tally_end k h
tally_same k l t h e =
    ap (λ (n : ℕ). tally_text k n t.grants t.uses) e.calls_is
    ∙ (ap (λ (n : ℕ). tally_text k (length h % 2 ^ 64) n t.uses) e.grants_is
    ∙ ap (λ (n : ℕ). tally_text k (length h % 2 ^ 64) (grants h % 2 ^ 64) n) (e.uses_are ∙ e.grants_is))

the_first : {X : Type 0} (xs : List X) → 0 < length xs → X
the_first [] h = absurd (omega arith)
the_first (x ∷ xs) h = x

-- what is written of logs and tallies is what their histories call for
pub ends_same : (logs : List DeskLog) (tallies : List DeskTally) (histories : List (List Entry)) → AreEnds logs tallies histories → logs_text logs tallies ≡ ends_text histories
ends_same logs tallies histories a =
    ap (λ (t : List ℕ). t ++ numbered_texts tally_of 0 tallies)
    (same_texts log_of log_end [] 0 logs histories a.logs_are (λ k i (l : DeskLog) lt.
    let t : DeskTally = record { calls = 0; grants = 0; uses = 0 } in
    log_same k (get_or logs i l) (get_or tallies i t) (get_or histories i []) (a.each i l t lt)))
    ∙ ap (λ (t : List ℕ). numbered_texts log_end 0 histories ++ t)
    (same_texts tally_of tally_end [] 0 tallies histories a.tallies_are (λ k i (t : DeskTally) lt.
    let some : 0 < length logs = omega (arith, a.logs_are) in
    let l : DeskLog = the_first logs some in
    tally_same k (get_or logs i l) (get_or tallies i t) (get_or histories i []) (a.each i l t lt)))
