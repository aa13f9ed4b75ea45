use Rattle.std.proofs.Common.{◌≡◌, ℕ, ◌+◌, ◌<◌, ◌≤◌, Bool, true, false, cond, List, [], ◌∷◌, refl, sym, arith, subst, ltb}
use Rattle.std.specs.List.{list_all}
use Rattle.std.specs.Option.{is_none}
use Rattle.std.proofs.lemmas.Bool.{ltb-true}
use Rattle.lic_types.specs.declared.client.Client.{Client}
use Rattle.options_machine.specs.declared.decision.Decision.{Decision}
use Rattle.options_machine.specs.declared.decision.Decision.TheVariants.{Retake, Grant}
use Rattle.options_machine.specs.declared.effect.Effect.{Effect}
use Rattle.options_machine.specs.declared.effect.Effect.TheVariants.{Tell, Release, Linger, Seat, Reseat}
use Rattle.options_machine.specs.declared.reply.Charge.{Charge}
use Rattle.options_machine.specs.declared.reply.Charge.TheVariants.{Reserve, Open}
use Rattle.options_machine.specs.declared.reply.Entry.{Entry}
use Rattle.options_machine.specs.declared.reply.Task.{Task}
use Rattle.options_machine.specs.declared.reply.Task.TheVariants.{Answer, Reread}
use Rattle.options_machine.specs.declared.rows.Holder.{Holder}
use Rattle.options_machine.specs.declared.rows.Lingerer.{Lingerer}
use Rattle.options_machine.specs.declared.rows.Queuer.{Queuer}
use Rattle.options_machine.specs.Rules.{Rules}
use Rattle.options_machine.specs.State.{State, charges, in_force, opening, same_charge, set_at}
use Rattle.options_machine.specs.Decide.{decide, reserve_line_with_room}
use Rattle.options_machine.specs.Settle.{later_moment, serve, settle, timely, with_offer, with_seat, with_seat_again}
use Rattle.options_machine.specs.Apply.{Fits, apply}
use Rattle.options_machine.specs.Step.{set_of, step_of_task, task}
use Rattle.options_machine.specs.Run.{IsRun, after, after_entry, after_from}
use Rattle.options_machine.specs.Law.{AreSets, asks_for_none}
use Rattle.options_machine.proofs.Counts.{and_left, and_right, count-filter_le}
use Rattle.options_machine.proofs.Keeps.{GrantOf, charges-reseated, charges-seated, granted, retakes, timed_count}
use Rattle.options_machine.proofs.Steps.{apply_set, charges-left, charges-released, charges-told, effect_at, fits_at, settle_set}

-- the seats that are charged to Open are at most those that no RESERVE line keeps
abbrev IsFree : Rules → State → Type 0
IsFree r s = charges s Open ≤ r.free

-- a grant of Open has room

one_open : (r : Rules) (s : State) (client : Client) (charge : Charge) → GrantOf (reserve_line_with_room r s client) (ltb (charges s Open) r.free) charge → IsFree r s → charges s Open + cond (same_charge charge Open) 1 0 ≤ r.free
one_open r s client Open e k = let room : charges s Open < r.free = ltb-true _ _ e in omega (arith, room)
one_open r s client (Reserve line) e k = omega (arith, k)

free_seated : (r : Rules) (s : State) (party : ℕ) (client : Client) (charge : Charge) (told : Bool) → decide r s client ≡ Grant charge → IsFree r s → IsFree r (with_seat s party client charge told)
free_seated r s party client charge told e k = omega (arith, charges-seated s party client charge told Open, one_open r s client charge (granted r s client charge e) k)

free_reseated : (r : Rules) (s : State) (party : ℕ) (client : Client) (charge : Charge) (told : Bool) → decide r s client ≡ Retake charge → IsFree r s → IsFree r (with_seat_again s party client charge told)
free_reseated r s party client charge told e k = omega (arith, charges-reseated s party client charge told Open (retakes r s client charge e), k)

-- settling

free_offered : (r : Rules) (s : State) (q : Queuer) (d : Decision) → decide r s q.client ≡ d → IsFree r s → IsFree r (with_offer s q d)
free_offered r s q (Retake charge) e k = free_reseated r s q.party q.client charge false e k
free_offered r s q (Grant charge) e k = free_seated r s q.party q.client charge false e k
free_offered r s q other e k = k

free_serve : (r : Rules) (s : State) (qs : List Queuer) → IsFree r s → IsFree r (serve r s qs)
free_serve r s [] k = k
free_serve r s (q ∷ qs) k = free_serve r (with_offer s q (decide r s q.client)) qs (free_offered r s q (decide r s q.client) refl k)

free_settle : (r : Rules) (s : State) (moment : ℕ) → IsFree r s → IsFree r (settle r s moment)
free_settle r s moment k =
    let now : ℕ = later_moment s.now moment in
    free_serve r (record (timely r s moment) { queue = [] }) s.queue
    (omega (arith, k, timed_count (λ (h : Holder). same_charge h.charge Open) r.timeout now s.holders, count-filter_le (λ (l : Lingerer). same_charge l.charge Open) (λ (l : Lingerer). ltb now l.until) s.lingering))

-- an effect

free_apply : (r : Rules) (s : State) (party : ℕ) (client : Client) (x : Effect) → Fits r s party client x → IsFree r s → IsFree r (apply s party client x)
free_apply r s party client Tell f k = omega (arith, charges-told s party Open, k)
free_apply r s party client Release f k = omega (arith, charges-released s party Open, k)
free_apply r s party client (Linger l) (h, e, who, same, room) k = omega (arith, charges-left s party h l Open e same, k)
free_apply r s party client (Seat charge) (none, e) k = free_seated r s party client charge true e k
free_apply r s party client (Reseat charge) (none, e) k = free_reseated r s party client charge true e k
free_apply r s party client other f k = k

-- one step that asks for no rule set keeps it, and so does a run

-- the state of a rule set keeps Open within what is free
abbrev IsFreeBy : List Rules → State → Type 0
IsFreeBy sets s = IsFree (in_force sets s) s

free_settled : (sets : List Rules) (s : State) (moment : ℕ) → IsFreeBy sets s → IsFreeBy sets (settle (in_force sets s) s moment)
free_settled sets s moment k =
    subst (λ (n : ℕ). IsFree (set_at sets n) (settle (in_force sets s) s moment)) (sym (settle_set (in_force sets s) s moment)) (free_settle (in_force sets s) s moment k)

free_done : (sets : List Rules) (s : State) (party : ℕ) (client : Client) (t : Task) → is_none (set_of t) ≡ true → IsFreeBy sets s → IsFreeBy sets (step_of_task sets s party client t).1
free_done sets s party client (Answer asked) e k =
    let x : Effect = effect_at sets s party client asked in
    subst (λ (n : ℕ). IsFree (set_at sets n) (apply s party client x)) (sym (apply_set s party client x))
    (free_apply (in_force sets s) s party client x (fits_at sets s party client asked) k)
free_done sets s party client (Reread n) e k = let no : false ≡ true = e in cc

free_step : (sets : List Rules) (s : State) (x : Entry) → asks_for_none x ≡ true → IsFreeBy sets s → IsFreeBy sets (after_entry sets s x)
free_step sets s x e k = free_done sets (settle (in_force sets s) s x.moment) x.request.party x.request.client (task x.request.kind) e (free_settled sets s x.moment k)

free_run : (sets : List Rules) (s : State) (h : List Entry) → list_all asks_for_none h ≡ true → IsFreeBy sets s → IsFreeBy sets (after_from sets s h)
free_run sets s [] e k = k
free_run sets s (x ∷ xs) e k =
    free_run sets (after_entry sets s x) xs (and_right (asks_for_none x) (list_all asks_for_none xs) e) (free_step sets s x (and_left (asks_for_none x) (list_all asks_for_none xs) e) k)

-- in every state of a run that asks for no rule set, Open is within what is free
pub run_free : (sets : List Rules) (count : ℕ) (h : List Entry) → AreSets sets count → IsRun sets h → list_all asks_for_none h ≡ true → charges (after sets h) Open ≤ (in_force sets (after sets h)).free
run_free sets count h g run e = free_run sets opening h e (omega arith)
