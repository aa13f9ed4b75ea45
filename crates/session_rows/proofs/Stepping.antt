-- One step of the value behind the lock.
use Rattle.std.proofs.Common.{◌≡◌, ℕ, ◌+◌, cond, List, [], ◌∷◌, ◌++◌, refl, ap, sym, ◌∙◌, subst, arith}
use Rattle.options_machine.specs.declared.reply.Entry.{Entry}
use Rattle.options_machine.specs.declared.reply.Reply.{Reply}
use Rattle.options_machine.specs.declared.reply.Request.{Request}
use Rattle.options_machine.specs.Rules.{Rules}
use Rattle.options_machine.specs.Run.{AsksForSet, IsRun, after}
use Rattle.options_machine.specs.Settle.{later_moment}
use Rattle.options_machine.specs.State.{State, opening}
use Rattle.options_machine.specs.Step.{step}
use Rattle.options_machine.proofs.Counts.{count-cons}
use Rattle.options_machine.proofs.Runs.{after-snoc, run_more}
use Rattle.counter.specs.Account.{brings_seat, grants}
use Rattle.policy.specs.Books.{Book}
use Rattle.session_rows.specs.Books.{Call, Runs, entry_of, entries_of, used_at}
use Rattle.options_machine.proofs.Moments.{moved_later, moved_within, now_after, step_again, step_now}

-- the calls, and one more
pub entries-snoc : (h : List Call) (c : Call) → entries_of (h ++ c ∷ []) ≡ entries_of h ++ entry_of c ∷ []
entries-snoc [] c = refl
entries-snoc (x ∷ xs) c = ap (λ (z : List Entry). entry_of x ∷ z) (entries-snoc xs c)

pub grants-snoc : (h : List Entry) (e : Entry) → grants (h ++ e ∷ []) ≡ grants h + cond (brings_seat e.reply) 1 0
grants-snoc [] e = let one : grants (e ∷ []) ≡ cond (brings_seat e.reply) 1 0 + 0 = count-cons (λ (x : Entry). brings_seat x.reply) e [] in omega (arith, one)
grants-snoc (x ∷ xs) e =
    let one = count-cons (λ (y : Entry). brings_seat y.reply) x (xs ++ e ∷ []) in
    let two = count-cons (λ (y : Entry). brings_seat y.reply) x xs in
    omega (arith, one, two, grants-snoc xs e)

-- a step at a state that a run reaches
module _ (sets : List Rules) (h : List Entry) (request : Request) (moment used : ℕ) (reply : Reply) (new : State)
    (run : IsRun sets h) (fits : AsksForSet sets request) (stepped : (reply, new) ≡ step sets (after sets h) request moment) (used_is : used ≡ later_moment (after sets h).now moment) where
  abbrev made : Entry
  made = record { request = request; moment = used; reply = reply }

  again : step sets (after sets h) request used ≡ (reply, new)
  again = ap (step sets (after sets h) request) used_is ∙ (step_again sets (after sets h) request moment (now_after sets h run) ∙ sym stepped)

  -- is the next entry of the run
  pub run_on : IsRun sets (h ++ made ∷ [])
  run_on = run_more sets opening h made run (record {
    later = let l = moved_later (after sets h).now moment in omega (arith, l, used_is);
    within = let l = moved_within (after sets h).now moment (now_after sets h run) in omega (arith, l, used_is);
    fits = fits;
    reply = sym (ap (λ (z : Reply × State). z.0) again);
  })

  -- and leaves the state that the longer run reaches
  pub stands_on : new ≡ after sets (h ++ made ∷ [])
  stands_on = sym (after-snoc sets opening h made ∙ ap (λ (z : Reply × State). z.1) again)

-- what is known of one step of the locked book
module _ (old new : Book) (c : Call) (moment : ℕ) (h : List Call)
    (fits : AsksForSet old.sets c.request) (stepped : (c.answer, new.state) ≡ step old.sets old.state c.request moment) (used_is : c.used ≡ new.state.now)
    (same : new.sets ≡ old.sets) (stood : old.state ≡ after old.sets (entries_of h)) (ran : Runs (record { sets = old.sets; parties = old.parties }) h) where
  there : (c.answer, new.state) ≡ step old.sets (after old.sets (entries_of h)) c.request moment
  there = stepped ∙ ap (λ (s : State). step old.sets s c.request moment) stood

  pub moment_more : c.used ≡ used_at (record { sets = old.sets; parties = old.parties }) h moment
  moment_more = used_is ∙ (ap (λ (z : Reply × State). z.1.now) there ∙ step_now old.sets (after old.sets (entries_of h)) c.request moment)

  pub runs_more : Runs (record { sets = old.sets; parties = old.parties }) (h ++ c ∷ [])
  runs_more = record {
    sets = ran.sets;
    run = subst (IsRun old.sets) (sym (entries-snoc h c)) (run_on old.sets (entries_of h) c.request moment c.used c.answer new.state ran.run fits there moment_more);
  }

  pub stands_more : new.state ≡ after new.sets (entries_of (h ++ c ∷ []))
  stands_more = stands_on old.sets (entries_of h) c.request moment c.used c.answer new.state ran.run fits there moment_more ∙ (λ i. after (sym same i) (sym (entries-snoc h c) i))
