-- Looks change nothing at the desk for tests but its moment.
use Rattle.std.proofs.Common.{◌≡◌, ℕ, ◌++◌, ◌⊎◌, ⊎_elim, true, false, List, [], ◌∷◌, refl, ap, sym, subst, ◌∙◌}
use Rattle.counter.specs.Glances.{numbers_of}
use Rattle.lic_types.specs.declared.client.Client.{Client}
use Rattle.options_machine.specs.declared.reply.Entry.{Entry}
use Rattle.options_machine.specs.declared.reply.Kind.TheVariants.{Look}
use Rattle.options_machine.specs.declared.reply.Reply.{Reply}
use Rattle.options_machine.specs.Rules.{Rules}
use Rattle.options_machine.specs.Run.{after_entry}
use Rattle.options_machine.specs.Settle.{later_moment}
use Rattle.options_machine.specs.State.{State, opening}
use Rattle.options_machine.proofs.Runs.{after-snoc}
use Rattle.stat_board.specs.Fronts.{longer}
use Rattle.stat_board.specs.OneSeat.{one_seat, IsIdle}
use Rattle.stat_board.specs.Rule.{Posted}
use Rattle.stat_board.specs.Shows.{HasNumbers}

-- the entry of a look
abbrev looked : ℕ → Client → ℕ → Reply → Entry
looked party client moment reply = record { request = record { party = party; client = client; kind = Look }; moment = moment; reply = reply }

look_stays : (now party : ℕ) (client : Client) (moment : ℕ) (reply : Reply)
    → after_entry one_seat (record opening { now = now }) (looked party client moment reply) ≡ record opening { now = later_moment now moment }
look_stays now party client moment reply = refl

-- one look more
pub idle_on : (list : List Entry) (party : ℕ) (client : Client) (moment : ℕ) (reply : Reply) (e : Entry) → e ≡ looked party client moment reply → IsIdle list → IsIdle (list ++ e ∷ [])
idle_on list party client moment reply e is idle = (
  later_moment idle.0 moment,
  after-snoc one_seat opening list e ∙ (ap (λ (s : State). after_entry one_seat s e) idle.1 ∙ (ap (after_entry one_seat (record opening { now = idle.0 })) is ∙ look_stays idle.0 party client moment reply)),
)

-- the numbers of such a desk
pub idle_numbers : (sets : List Rules) (list : List Entry) (front : ℕ) → sets ≡ one_seat → IsIdle list → HasNumbers sets list (record { front = front; held = 0; lingering = 0; taken = 0; free = 1; queued = 0 })
idle_numbers sets list front is idle = let P : List Rules → Type 0 = λ z. HasNumbers z list (record { front = front; held = 0; lingering = 0; taken = 0; free = 1; queued = 0 }) in subst P (sym is) (sym (ap (numbers_of one_seat front) idle.1))

-- whether or not the entry was published
pub idle_published : (old new : Posted) (e : Entry) → ((old.live ≡ true) × (new ≡ record old { front = longer old.front e })) ⊎ (new ≡ record old { live = false }) → IsIdle old.front.list → IsIdle (old.front.list ++ e ∷ []) → IsIdle new.front.list
idle_published old new e or idle on =
    let P : List Entry → Type 0 = IsIdle in
    ⊎_elim (λ (t : (old.live ≡ true) × (new ≡ record old { front = longer old.front e })). subst P (sym (ap (λ b. b.front.list) t.1)) on) (λ (same : new ≡ record old { live = false }). subst P (sym (ap (λ b. b.front.list) same)) idle) or
