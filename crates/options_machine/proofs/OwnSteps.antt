use Rattle.std.proofs.Common.{◌≡◌, ℕ, Bool, true, false, cond, List, [], ◌∷◌, length, refl, sym, subst, eqb, ◌&&◌, Option, None, Some}
use Rattle.std.specs.Option.{is_none}
use Rattle.std.proofs.lemmas.Bool.{eqb-true, eqb-false}
use Rattle.lic_types.specs.declared.client.Client.{Client}
use Rattle.options_machine.specs.declared.reply.Entry.{Entry}
use Rattle.options_machine.specs.declared.reply.Reply.{Reply}
use Rattle.options_machine.specs.declared.reply.Task.{Task}
use Rattle.options_machine.specs.declared.reply.Task.TheVariants.{Answer, Reread}
use Rattle.options_machine.specs.Rules.{Rules}
use Rattle.options_machine.specs.State.{State, opening, set_at}
use Rattle.options_machine.specs.Settle.{settle}
use Rattle.options_machine.specs.State.{in_force}
use Rattle.options_machine.specs.Step.{set_of, step, step_of_task, task}
use Rattle.options_machine.specs.Run.{Follows, IsBelow, IsRun, RunsFrom, after, after_entry, after_from}
use Rattle.options_machine.specs.Law.{AreSets}
use Rattle.options_machine.specs.Own.{Agrees, standing, standing_from, standing_then}
use Rattle.options_machine.proofs.Steps.{IsKeptBy, effect_at, kept_done, kept_settled, kept_step}
use Rattle.options_machine.proofs.Runs.{opening_kept}
use Rattle.options_machine.proofs.Owns.{agree_place, agrees_anew, agrees_settle, other_apply}
use Rattle.options_machine.proofs.Sayings.{Says, says_done}

-- the party's own answer
own_done : (sets : List Rules) (count : ℕ) (s : State) (party : ℕ) (client : Client) (t : Task) → set_of t ≡ None → IsBelow (set_of t) (length sets) → AreSets sets count → IsKeptBy sets s → Agrees (Some (step_of_task sets s party client t).0) (step_of_task sets s party client t).1 party
own_done sets count s party client t n below g k =
    let says : Says (step_of_task sets s party client t) party = says_done sets s party client t n (k.kept.single party) in
    let after : IsKeptBy sets (step_of_task sets s party client t).1 = kept_done sets count s party client t below g k in
    agree_place (step_of_task sets s party client t).0 (step_of_task sets s party client t).1 party says.at says.is says.holding says.queueing (after.kept.single party)

-- an entry

done_agrees : (sets : List Rules) (count : ℕ) (o : Option Reply) (p : ℕ) (s : State) (party : ℕ) (client : Client) (t : Task) (b : Bool) → eqb party p ≡ b → IsBelow (set_of t) (length sets) → AreSets sets count → IsKeptBy sets s → Agrees o s p
    → Agrees (cond (b && is_none (set_of t)) (Some (step_of_task sets s party client t).0) o) (step_of_task sets s party client t).1 p
done_agrees sets count o p s party client (Reread m) true f below g k a = agrees_anew o p (set_at sets m) (record s { set = m }) (record { holders = a.holders; queue = a.queue })
done_agrees sets count o p s party client (Reread m) false f below g k a = agrees_anew o p (set_at sets m) (record s { set = m }) (record { holders = a.holders; queue = a.queue })
done_agrees sets count o p s party client (Answer asked) true f below g k a =
    subst (λ (x : ℕ). Agrees (Some (step_of_task sets s party client (Answer asked)).0) (step_of_task sets s party client (Answer asked)).1 x) (eqb-true party p f) (own_done sets count s party client (Answer asked) refl below g k)
done_agrees sets count o p s party client (Answer asked) false f below g k a = other_apply o p s party client (effect_at sets s party client asked) (eqb-false party p f) a

agrees_entry : (sets : List Rules) (count : ℕ) (o : Option Reply) (p : ℕ) (s : State) (e : Entry) → AreSets sets count → IsKeptBy sets s → Follows sets s e → Agrees o s p → Agrees (standing_then p o e) (after_entry sets s e) p
agrees_entry sets count o p s e g k follows a =
    let mid : State = settle (in_force sets s) s e.moment in
    let stands : Bool = eqb e.request.party p && is_none (set_of (task e.request.kind)) in
    let all : Agrees (cond stands (Some (step sets s e.request e.moment).0) o) (after_entry sets s e) p =
    done_agrees sets count o p mid e.request.party e.request.client (task e.request.kind) (eqb e.request.party p) refl follows.fits g (kept_settled sets count s e.moment g k) (agrees_settle o p (in_force sets s) s e.moment a) in
    subst (λ (x : Reply). Agrees (cond stands (Some x) o) (after_entry sets s e) p) (sym follows.reply) all

agrees_run : (sets : List Rules) (count : ℕ) (o : Option Reply) (p : ℕ) (s : State) (h : List Entry) → AreSets sets count → IsKeptBy sets s → RunsFrom sets s h → Agrees o s p → Agrees (standing_from p o h) (after_from sets s h) p
agrees_run sets count o p s [] g k run a = a
agrees_run sets count o p s (e ∷ es) g k (first, others) a =
    agrees_run sets count (standing_then p o e) p (after_entry sets s e) es g (kept_step sets count s e.request e.moment g first.fits k) others (agrees_entry sets count o p s e g k first a)

-- in each state of a run each party's standing reply agrees with what it has
pub runs_agree : (sets : List Rules) (count : ℕ) (h : List Entry) (p : ℕ) → AreSets sets count → IsRun sets h → Agrees (standing h p) (after sets h) p
runs_agree sets count h p g run = agrees_run sets count None p opening h g (opening_kept sets count g) run (record { holders = refl; queue = refl })
