use Rattle.std.proofs.Common.{◌≡◌, ℕ, ◌<◌, ◌^◌, Bool, true, false, ◌||◌, List, [], ◌∷◌, ◌++◌, length, Option, None, Some, cond, refl, ap, ◌∙◌}
use Rattle.options_machine.specs.declared.reply.Entry.{Entry}
use Rattle.options_machine.specs.declared.reply.Reply.{Reply}
use Rattle.options_machine.specs.Own.{holds, is_of_holding, is_of_queueing, is_some_of, queues, standing, stands_for}
use Rattle.options_machine.specs.Rules.{Rules}
use Rattle.options_machine.specs.Run.{IsBelow, IsRun, after}
use Rattle.options_machine.specs.Settle.{later_moment}
use Rattle.options_machine.specs.State.{State, opening}
use Rattle.options_machine.specs.Step.{set_asked, step}
use Rattle.options_machine.proofs.Quits.{standing-snoc}
use Rattle.options_machine.proofs.Runs.{after-snoc, run_more}
use Rattle.script_text.specs.Line.{AskedLine}
use Rattle.scripts.specs.PoolRuns.{says_place}
use Rattle.scripts.specs.Script.{entry_of, request_of}
use Rattle.options_machine.proofs.Moments.{moved_later, moved_within, step_again, step_now}

-- the state after the entry that a line makes
pub after_entry_of : (sets : List Rules) (h : List Entry) (line : AskedLine) → (after sets h).now < 2 ^ 40 → after sets (h ++ entry_of sets h line ∷ []) ≡ (step sets (after sets h) (request_of line) line.moment).1
after_entry_of sets h line small =
    after-snoc sets opening h (entry_of sets h line) ∙ ap (λ (served : Reply × State). served.1) (step_again sets (after sets h) (request_of line) line.moment small)

-- its moment
pub now_after : (sets : List Rules) (h : List Entry) (line : AskedLine) → (after sets h).now < 2 ^ 40 → (after sets (h ++ entry_of sets h line ∷ [])).now < 2 ^ 40
now_after sets h line small =
    let now : (after sets (h ++ entry_of sets h line ∷ [])).now ≡ later_moment (after sets h).now line.moment =
    ap (λ (s : State). s.now) (after_entry_of sets h line small) ∙ step_now sets (after sets h) (request_of line) line.moment in
    rw now (moved_within (after sets h).now line.moment small)

-- its reply
pub reply_of_entry : (sets : List Rules) (h : List Entry) (line : AskedLine) → (after sets h).now < 2 ^ 40 → (entry_of sets h line).reply ≡ (step sets (after sets h) (request_of line) line.moment).0
reply_of_entry sets h line small = ap (λ (served : Reply × State). served.0) (step_again sets (after sets h) (request_of line) line.moment small)

-- the run goes on
pub entry_follows : (sets : List Rules) (h : List Entry) (line : AskedLine) → (after sets h).now < 2 ^ 40 → IsBelow (set_asked line.kind) (length sets) → IsRun sets h → IsRun sets (h ++ entry_of sets h line ∷ [])
entry_follows sets h line small asks run = run_more sets opening h (entry_of sets h line) run (record {
  later = moved_later (after sets h).now line.moment;
  within = moved_within (after sets h).now line.moment small;
  fits = asks;
  reply = refl;
})

standing_place : (o : Option Reply) (e : Entry) (b : Bool) → (is_some_of is_of_holding (cond b (Some e.reply) o) || is_some_of is_of_queueing (cond b (Some e.reply) o)) ≡ cond b (says_place e.reply) (is_some_of is_of_holding o || is_some_of is_of_queueing o)
standing_place o e true = refl
standing_place o e false = refl

-- whether a party keeps a place after one more entry
pub place_then : (h : List Entry) (e : Entry) (party : ℕ) → (holds (h ++ e ∷ []) party || queues (h ++ e ∷ []) party) ≡ cond (stands_for party e) (says_place e.reply) (holds h party || queues h party)
place_then h e party = rw (standing-snoc party None h e) (standing_place (standing h party) e (stands_for party e))
