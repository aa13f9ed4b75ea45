-- What is due is due in one way: a log isn't a run and no run, and one line is the first that shows that it is none.
use Rattle.std.proofs.Common.{◌≡◌, ℕ, ◌+◌, inr, List, [], ◌∷◌, ◌++◌, get_or, map, refl, sym, ap, ◌∙◌, subst, append_assoc}
use Rattle.std.proofs.lemmas.List.{map-append}
use Rattle.std.proofs.lemmas.List.Elements.{filter-append}
use Rattle.feature_lines.specs.declared.pool.Pool.{Pool}
use Rattle.options_machine.specs.Rules.{Rules}
use Rattle.options_machine.specs.Run.{IsRun, RunsFrom, after_entry}
use Rattle.options_machine.specs.State.{State, opening}
use Rattle.options_machine.specs.declared.reply.Entry.{Entry}
use Rattle.options_machine.specs.declared.reply.Reply.{Reply}
use Rattle.log_audit.specs.Audit.{ArePlaces, IsFirstBad, IsRunLog, IsRunOf, entry_of, is_of_pool, of_pool}
use Rattle.log_audit.specs.declared.log.Numbered.{Numbered}
use Rattle.outside.specs.Told.{TakesPrefix, held_after}
use Rattle.licence_tool.specs.AuditText.{no_text}
use Rattle.licence_tool.specs.Files.{Bytes}
use Rattle.licence_tool.specs.Outcome.{Due, IsRefuted, IsTold, Text, Verdict}
use Rattle.licence_tool.specs.Tool.{DueSays}
use Rattle.licence_tool.specs.declared.command.LogReport.{LogReport}
use Rattle.licence_tool.specs.declared.command.LogReport.TheVariants.{Users, Days}
use Rattle.licence_tool.specs.declared.status.Status.TheVariants.{AuditNo, WriteFault}

-- A prefix of a run is a run.

runs_front : (sets : List Rules) (s : State) (h more : List Entry) → RunsFrom sets s (h ++ more) → RunsFrom sets s h
runs_front sets s [] more run = tt
runs_front sets s (x ∷ xs) more run = (run.0, runs_front sets (after_entry sets s x) xs more run.1)

places_front : (n : ℕ) (xs more : List Numbered) → ArePlaces n (xs ++ more) → ArePlaces n xs
places_front n [] more h = tt
places_front n (x ∷ xs) more h = (h.0, places_front (n + 1) xs more h.1)

run_front_of : (sets : List Rules) (xs more : List Numbered) → IsRunOf sets (xs ++ more) → IsRunOf sets xs
run_front_of sets xs more r = record {
  run = runs_front sets opening (map entry_of xs) (map entry_of more) (subst (IsRun sets) (map-append entry_of xs more) r.run);
  places = places_front 0 xs more r.places;
}

log_front : (pools : List (List Rules)) (xs more : List Numbered) → IsRunLog pools (xs ++ more) → IsRunLog pools xs
log_front pools xs more r = λ pool low.
    run_front_of (get_or pools pool []) (of_pool pool xs) (of_pool pool more) (subst (IsRunOf (get_or pools pool [])) (filter-append (is_of_pool pool) xs more) (r pool low))

-- Two ways to cut a list at an element.

pub data Cut {X : Type 0} (a b : List X) (x y : X) : Type 0 where
  Same : (x ≡ y) → Cut a b x y
  First : (k : List X) → (b ≡ (a ++ x ∷ []) ++ k) → Cut a b x y
  Second : (k : List X) → (a ≡ (b ++ y ∷ []) ++ k) → Cut a b x y

cut_behind : {X : Type 0} (z w : X) (a b : List X) (x y : X) → z ≡ w → Cut a b x y → Cut (z ∷ a) (w ∷ b) x y
cut_behind z w a b x y e (Same is) = Same is
cut_behind {X = X} z w a b x y e (First k is) = First k (ap (λ (l : List X). w ∷ l) is ∙ ap (λ (v : X). v ∷ ((a ++ x ∷ []) ++ k)) (sym e))
cut_behind {X = X} z w a b x y e (Second k is) = Second k (ap (λ (l : List X). z ∷ l) is ∙ ap (λ (v : X). v ∷ ((b ++ y ∷ []) ++ k)) e)

first_of : {X : Type 0} (x y : X) (r s : List X) → x ∷ r ≡ y ∷ s → x ≡ y
first_of x y r s e = cc

rest_of : {X : Type 0} (x y : X) (r s : List X) → x ∷ r ≡ y ∷ s → r ≡ s
rest_of x y r s e = cc

cut : {X : Type 0} (a b : List X) (x y : X) (r s : List X) → a ++ x ∷ r ≡ b ++ y ∷ s → Cut a b x y
cut [] [] x y r s e = Same (first_of x y r s e)
cut {X = X} [] (w ∷ b) x y r s e = First b (ap (λ (v : X). v ∷ b) (sym (first_of x w r (b ++ y ∷ s) e)))
cut {X = X} (z ∷ a) [] x y r s e = Second a (ap (λ (v : X). v ∷ a) (first_of z y (a ++ x ∷ r) s e))
cut (z ∷ a) (w ∷ b) x y r s e = cut_behind z w a b x y (first_of z w (a ++ x ∷ r) (b ++ y ∷ s) e) (cut a b x y r s (rest_of z w (a ++ x ∷ r) (b ++ y ∷ s) e))

-- The verdicts.

-- a log that is a run has no first line that shows that it is none
no_bad : (pools : List (List Rules)) (xs : List Numbered) (line place moment : ℕ) (said : Reply) → IsRunLog pools xs → IsFirstBad pools xs line place moment said → ⊥
no_bad pools xs line place moment said run bad =
    bad.ends (log_front pools (bad.before ++ bad.bad ∷ []) bad.rest
    (subst (IsRunLog pools) (bad.log ∙ sym (append_assoc bad.before (bad.bad ∷ []) bad.rest)) run))

-- and else just one
one_bad_of : (pools : List (List Rules)) (xs : List Numbered) (line place moment : ℕ) (said : Reply) (other there then : ℕ) (answer : Reply)
    → (p : IsFirstBad pools xs line place moment said) → (q : IsFirstBad pools xs other there then answer) → Cut p.before q.before p.bad q.bad → line ≡ other
one_bad_of pools xs line place moment said other there then answer p q (Same is) = p.shown ∙ (ap (λ (x : Numbered). x.line) is ∙ sym q.shown)
one_bad_of pools xs line place moment said other there then answer p q (First k is) = absurd (p.ends (log_front pools (p.before ++ p.bad ∷ []) k (subst (IsRunLog pools) is q.runs)))
one_bad_of pools xs line place moment said other there then answer p q (Second k is) = absurd (q.ends (log_front pools (q.before ++ q.bad ∷ []) k (subst (IsRunLog pools) is p.runs)))

one_bad : (pools : List (List Rules)) (xs : List Numbered) (line place moment : ℕ) (said : Reply) (other there then : ℕ) (answer : Reply)
    → IsFirstBad pools xs line place moment said → IsFirstBad pools xs other there then answer → line ≡ other
one_bad pools xs line place moment said other there then answer p q =
    one_bad_of pools xs line place moment said other there then answer p q (cut p.before q.before p.bad q.bad p.rest q.rest (sym p.log ∙ q.log))

-- what is due is told or refuted, and not both
pub told_or_refuted : (due : Due) (text other : List ℕ) (line : ℕ) → IsTold due text → IsRefuted due line other → ⊥
told_or_refuted (Text due) text other line told refuted = refuted
told_or_refuted (Verdict Users pools rules log) text other line told refuted = no_bad rules log line refuted.place refuted.moment refuted.said told.run refuted.first
told_or_refuted (Verdict Days pools rules log) text other line told refuted = no_bad rules log line refuted.place refuted.moment refuted.said told.run refuted.first

-- and it is refuted by one line
pub refuted_at : (due : Due) (text other : List ℕ) (line at : ℕ) → IsRefuted due line text → IsRefuted due at other → line ≡ at
refuted_at (Text due) text other line at h k = absurd h
refuted_at (Verdict report pools rules log) text other line at h k = one_bad rules log line h.place h.moment h.said at k.place k.moment k.said h.first k.first

-- The line of a log that is no run was written, or a prefix of it.

pub no_written : (OutFailed : Type 0) (old new : Bytes) (report : LogReport) (pools : List Pool) (rules : List (List Rules)) (log : List Numbered) (line place moment : ℕ) (said : Reply)
    → IsFirstBad rules log line place moment said → new ≡ held_after old (no_text line place moment said) → DueSays OutFailed old new (Verdict report pools rules log) (AuditNo line)
no_written OutFailed old new report pools rules log line place moment said first is =
    (no_text line place moment said, record { place = place; moment = moment; said = said; first = first; is = refl }, is)

pub no_unwritten : (OutFailed : Type 0) (old new : Bytes) (report : LogReport) (pools : List Pool) (rules : List (List Rules)) (log : List Numbered) (line place moment : ℕ) (said : Reply)
    → IsFirstBad rules log line place moment said → OutFailed → TakesPrefix old new (no_text line place moment said) → DueSays OutFailed old new (Verdict report pools rules log) WriteFault
no_unwritten OutFailed old new report pools rules log line place moment said first failed front =
    (failed, (no_text line place moment said, inr (line, record { place = place; moment = moment; said = said; first = first; is = refl }), front))
