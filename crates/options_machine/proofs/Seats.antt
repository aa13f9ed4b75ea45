use Rattle.options_machine.specs.declared.reply.Ask.TheVariants as ask
use Rattle.options_machine.specs.declared.reply.Task.TheVariants.{Answer}
use Rattle.std.proofs.Common.{refl, ◌≡◌, ℕ, true, false, sym, ◌∙◌, not, ◌||◌, Option, List, arith, ap}
use Rattle.lic_types.specs.declared.client.Client.{Client}
use Rattle.options_machine.specs.declared.decision.Place.{Place}
use Rattle.options_machine.specs.declared.decision.Place.TheVariants.{Told}
use Rattle.options_machine.specs.declared.reply.Reply.{Reply}
use Rattle.options_machine.specs.declared.reply.Task.{Task}
use Rattle.options_machine.specs.declared.rows.Holder.{Holder}
use Rattle.options_machine.specs.Rules.{Rules}
use Rattle.options_machine.specs.State.{State, in_force, is_holder, opening, place}
use Rattle.options_machine.specs.Apply.{IsPlace}
use Rattle.options_machine.specs.Step.{task, step_of_task}
use Rattle.options_machine.specs.Run.{Follows, after}
use Rattle.options_machine.specs.Own.{Agrees, SeatsStay, brings_seat, fits_holder, is_of_holding, is_some_of, standing}
use Rattle.options_machine.specs.Replies.{state_found, is_told}
use Rattle.options_machine.proofs.Counts.{all_found, find_passes}
use Rattle.options_machine.proofs.Owns.{agrees_settle}
use Rattle.options_machine.proofs.OwnSteps.{runs_agree}
use Rattle.options_machine.proofs.Runs.{run_front, run_last}
use Rattle.options_machine.proofs.Steps.{place_is}

-- a reply of holding that brings no seat comes to a told holder
told_done : (sets : List Rules) (s : State) (party : ℕ) (client : Client) (t : Task) (at : Place) → place s party ≡ at
    → is_of_holding (step_of_task sets s party client t).0 ≡ true → brings_seat (step_of_task sets s party client t).0 ≡ false → is_told at ≡ true
told_done sets s party client t (Told h) f e b = refl
told_done sets s party client (Answer (ask.Seat may_wait)) other f e b = grind arith
told_done sets s party client t other f e b = grind arith

-- a told holder's standing reply is of holding
told_stands : (o : Option Reply) (s : State) (p : ℕ) (at : Place) → IsPlace s p at → is_told at ≡ true → Agrees o s p → is_some_of is_of_holding o ≡ true
told_stands o s p (Told h) (e, t) is a =
    let fits : (not (is_holder p h) || fits_holder o h) ≡ true = all_found (is_holder p) (λ (x : Holder). not (is_holder p x) || fits_holder o x) s.holders h e a.holders in
    grind (arith, find_passes (is_holder p) s.holders h e)
told_stands o s p other i is a = grind arith

pub seats_stay : SeatsStay
seats_stay sets count h e g run held brings =
    let p : ℕ = e.request.party in
    let s : State = after sets h in
    let follows : Follows sets s e = run_last sets opening h e run in
    let found : State = state_found sets s e.moment in
    let told : is_told (place found p) ≡ true = told_done sets found p e.request.client (task e.request.kind) (place found p) refl (ap is_of_holding (sym follows.reply) ∙ held) (ap brings_seat (sym follows.reply) ∙ brings) in
    told_stands (standing h p) found p (place found p) (place_is found p) told (agrees_settle (standing h p) p (in_force sets s) s e.moment (runs_agree sets count h p g (run_front sets opening h e run)))
