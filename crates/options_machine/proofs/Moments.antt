use Rattle.std.proofs.Common.{◌≡◌, ℕ, ◌<◌, ◌≤◌, ◌^◌, List, [], ◌∷◌, filter, refl, ap, ◌∙◌, arith, ltb}
use Rattle.lic_types.specs.declared.client.Client.{Client}
use Rattle.options_machine.specs.declared.reply.Entry.{Entry}
use Rattle.options_machine.specs.declared.reply.Request.{Request}
use Rattle.options_machine.specs.declared.reply.Task.{Task}
use Rattle.options_machine.specs.declared.reply.Task.TheVariants.{Answer, Reread}
use Rattle.options_machine.specs.declared.rows.Lingerer.{Lingerer}
use Rattle.options_machine.specs.Rules.{Rules}
use Rattle.options_machine.specs.Settle.{in_time, later_moment, serve, settle}
use Rattle.options_machine.specs.State.{State, in_force, opening}
use Rattle.options_machine.specs.Step.{step, step_of_task, task}
use Rattle.options_machine.specs.Run.{RunsFrom, after_entry, after_from}
use Rattle.options_machine.specs.Law.{MomentsAreBounded, StepsUseTheirMoment}
use Rattle.options_machine.proofs.Steps.{apply_now, effect_at, settle_now}

-- a moment stays below 2^40
pub moved_within : (now moment : ℕ) → now < 2 ^ 40 → later_moment now moment < 2 ^ 40
moved_within now moment h = omega (arith, h)

-- a moment never goes back
pub moved_later : (now moment : ℕ) → now ≤ later_moment now moment
moved_later now moment = omega arith

-- the moment that was used moves no further
pub moved_again : (now moment : ℕ) → now < 2 ^ 40 → later_moment now (later_moment now moment) ≡ later_moment now moment
moved_again now moment h = omega (arith, h)

-- a step is the same at the moment that it uses
pub step_again : (sets : List Rules) (s : State) (request : Request) (moment : ℕ) → s.now < 2 ^ 40 → step sets s request (later_moment s.now moment) ≡ step sets s request moment
step_again sets s request moment h =
    ap (λ (now : ℕ). step_of_task sets (serve (in_force sets s) (record s { holders = in_time (in_force sets s).timeout now s.holders; lingering = filter (λ (l : Lingerer). ltb now l.until) s.lingering; now = now; queue = [] }) s.queue) request.party request.client (task request.kind))
    (moved_again s.now moment h)

done_now : (sets : List Rules) (s : State) (party : ℕ) (client : Client) (t : Task) → (step_of_task sets s party client t).1.now ≡ s.now
done_now sets s party client (Answer asked) = apply_now s party client (effect_at sets s party client asked)
done_now sets s party client (Reread n) = refl

-- the moment of the state that a step leaves
pub step_now : (sets : List Rules) (s : State) (request : Request) (moment : ℕ) → (step sets s request moment).1.now ≡ later_moment s.now moment
step_now sets s request moment = done_now sets (settle (in_force sets s) s moment) request.party request.client (task request.kind) ∙ settle_now (in_force sets s) s moment

pub steps_use : StepsUseTheirMoment
steps_use sets s request moment h = (step_again sets s request moment h, step_now sets s request moment, moved_later s.now moment, moved_within s.now moment h)

now_from : (sets : List Rules) (s : State) (h : List Entry) → RunsFrom sets s h → s.now < 2 ^ 40 → (after_from sets s h).now < 2 ^ 40
now_from sets s [] run small = small
now_from sets s (e ∷ es) (first, others) small =
    now_from sets (after_entry sets s e) es others (omega (arith, step_now sets s e.request e.moment, moved_within s.now e.moment small))

-- the moment of the state that a run reaches
pub now_after : MomentsAreBounded
now_after sets h run = now_from sets opening h run (omega arith)
