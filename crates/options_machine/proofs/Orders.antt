use Rattle.std.proofs.Common.{◌≡◌, ℕ, ◌-◌, ◌<◌, Bool, true, false, List, [], ◌∷◌, ◌++◌, refl, ◌∙◌, arith, ltb, not, Option, None, Some, map, filter}
use Rattle.std.specs.List.{count_by, list_all}
use Rattle.lic_types.specs.declared.client.Client.{Client}
use Rattle.options_machine.specs.declared.decision.Decision.{Decision}
use Rattle.options_machine.specs.declared.decision.Decision.TheVariants.{Retake, Grant}
use Rattle.options_machine.specs.declared.decision.Place.TheVariants.{Away}
use Rattle.options_machine.specs.declared.effect.Effect.{Effect}
use Rattle.options_machine.specs.declared.effect.Effect.TheVariants.{Tell, Release, Linger, Seat, Reseat}
use Rattle.options_machine.specs.declared.reply.Charge.{Charge}
use Rattle.options_machine.specs.declared.reply.Entry.{Entry}
use Rattle.options_machine.specs.declared.reply.Task.{Task}
use Rattle.options_machine.specs.declared.reply.Task.TheVariants.{Answer, Reread}
use Rattle.options_machine.specs.declared.rows.Holder.{Holder}
use Rattle.options_machine.specs.declared.rows.Queuer.{Queuer}
use Rattle.options_machine.specs.Rules.{IsSound, Rules}
use Rattle.options_machine.specs.State.{State, in_force, is_holder, is_queuer, opening, set_at}
use Rattle.options_machine.specs.Decide.{decide}
use Rattle.options_machine.specs.Settle.{in_time, later_moment, serve, settle, timely, with_holder, with_offer, with_seat}
use Rattle.options_machine.specs.Apply.{Fits, IsPlace, apply, told_if, with_told}
use Rattle.options_machine.specs.Step.{holders_anew, next_charge, step_of_task, task}
use Rattle.options_machine.specs.Run.{IsRun, RunsFrom, after, after_entry, after_from}
use Rattle.options_machine.specs.Law.{AreSets, are_in_order}
use Rattle.options_machine.specs.Kept.{IsKept}
use Rattle.options_machine.proofs.Counts.{count-cons, count_none}
use Rattle.options_machine.proofs.Keeps.{Keeps, keeps_offered, keeps_timely}
use Rattle.options_machine.proofs.Steps.{told_party, IsKeptBy, effect_at, fits_at, kept_step}
use Rattle.options_machine.proofs.Owns.{all_filter, all_with}
use Rattle.options_machine.proofs.Runs.{opening_kept}
use Rattle.std.proofs.lemmas.Bool.Decides.{nat_tests}

-- whether all holders are of parties above this one
abbrev are_above : ℕ → List Holder → Bool
are_above p hs = list_all (λ (g : Holder). ltb p g.party) hs

lower : (low p : ℕ) (hs : List Holder) → low < p → are_above p hs ≡ true → are_above low hs ≡ true
lower low p [] h e = refl
lower low p (g ∷ gs) h e = grind (arith, nat_tests, lower low p gs h)

-- without some holders

order_filter : (q : Holder → Bool) (hs : List Holder) → are_in_order hs ≡ true → are_in_order (filter q hs) ≡ true
order_filter q [] e = refl
order_filter q (h ∷ hs) e = grind (arith, all_filter q (λ (g : Holder). ltb h.party g.party) hs, order_filter q hs)

order_timed : (timeout : Option ℕ) (now : ℕ) (hs : List Holder) → are_in_order hs ≡ true → are_in_order (in_time timeout now hs) ≡ true
order_timed None now hs e = e
order_timed (Some t) now hs e = order_filter (λ (h : Holder). ltb (now - h.beat) t) hs e

-- with one more holder, of a party that has no seat

order_with : (h : Holder) (hs : List Holder) → count_by (is_holder h.party) hs ≡ 0 → are_in_order hs ≡ true → are_in_order (with_holder h hs) ≡ true
order_with h [] none e = refl
order_with h (g ∷ gs) none e =
    grind (arith, nat_tests, count-cons (is_holder h.party) g gs, lower h.party g.party gs, all_with (λ (x : Holder). ltb g.party x.party) h gs, order_with h gs)

-- settling

first_waits : (r : Rules) (s : State) (q : Queuer) (qs : List Queuer) → Keeps r s (q ∷ qs) → count_by (is_holder q.party) s.holders ≡ 0
first_waits r s q qs k = grind (arith, nat_tests, count-cons (is_queuer q.party) q qs, k.single q.party)

order_offered : (r : Rules) (s : State) (q : Queuer) (qs : List Queuer) (d : Decision) → Keeps r s (q ∷ qs) → are_in_order s.holders ≡ true → are_in_order (with_offer s q d).holders ≡ true
order_offered r s q qs (Retake charge) k e = order_with (record { party = q.party; client = q.client; charge = charge; beat = s.now; told = false }) s.holders (first_waits r s q qs k) e
order_offered r s q qs (Grant charge) k e = order_with (record { party = q.party; client = q.client; charge = charge; beat = s.now; told = false }) s.holders (first_waits r s q qs k) e
order_offered r s q qs other k e = e

order_serve : (r : Rules) (s : State) (qs : List Queuer) → IsSound r → Keeps r s qs → are_in_order s.holders ≡ true → are_in_order (serve r s qs).holders ≡ true
order_serve r s [] g k e = e
order_serve r s (q ∷ qs) g k e =
    order_serve r (with_offer s q (decide r s q.client)) qs g (keeps_offered r s q qs (decide r s q.client) refl g k) (order_offered r s q qs (decide r s q.client) k e)

order_settle : (r : Rules) (s : State) (moment : ℕ) → IsSound r → IsKept r s → are_in_order s.holders ≡ true → are_in_order (settle r s moment).holders ≡ true
order_settle r s moment g k e =
    order_serve r (record (timely r s moment) { queue = [] }) s.queue g (keeps_timely r s moment k) (order_timed r.timeout (later_moment s.now moment) s.holders e)

-- a change that leaves the parties

above_map : (p : ℕ) (f : Holder → Holder) (hs : List Holder) → ((h : Holder) → (f h).party ≡ h.party) → are_above p (map f hs) ≡ are_above p hs
above_map p f [] same = refl
above_map p f (h ∷ hs) same = rw (same h, above_map p f hs same) refl

order_map : (f : Holder → Holder) (hs : List Holder) → ((h : Holder) → (f h).party ≡ h.party) → are_in_order (map f hs) ≡ are_in_order hs
order_map f [] same = refl
order_map f (h ∷ hs) same = rw (same h, above_map h.party f hs same, order_map f hs same) refl

order_told : (s : State) (party : ℕ) → are_in_order s.holders ≡ true → are_in_order (with_told s party).holders ≡ true
order_told s party e = order_map (λ (h : Holder). told_if (is_holder party h) s.now h) s.holders (λ h. told_party (is_holder party h) s.now h) ∙ e

above_anew : (p : ℕ) (r : Rules) (given : List Charge) (hs : List Holder) → are_above p (holders_anew r given hs) ≡ are_above p hs
above_anew p r given [] = refl
above_anew p r given (h ∷ hs) = rw (above_anew p r (given ++ next_charge r given h.client ∷ []) hs) refl

order_anew : (r : Rules) (given : List Charge) (hs : List Holder) → are_in_order (holders_anew r given hs) ≡ are_in_order hs
order_anew r given [] = refl
order_anew r given (h ∷ hs) = rw (above_anew h.party r (given ++ next_charge r given h.client ∷ []) hs, order_anew r (given ++ next_charge r given h.client ∷ []) hs) refl

-- an effect

order_seated : (r : Rules) (s : State) (party : ℕ) (client : Client) (charge : Charge) → IsPlace s party Away → are_in_order s.holders ≡ true → are_in_order (with_seat s party client charge true).holders ≡ true
order_seated r s party client charge none e =
    order_with (record { party = party; client = client; charge = charge; beat = s.now; told = true }) s.holders (count_none (is_holder party) s.holders none.0) e

order_apply : (r : Rules) (s : State) (party : ℕ) (client : Client) (x : Effect) → Fits r s party client x → are_in_order s.holders ≡ true → are_in_order (apply s party client x).holders ≡ true
order_apply r s party client Tell f e = order_told s party e
order_apply r s party client Release f e = order_filter (λ (h : Holder). not (is_holder party h)) s.holders e
order_apply r s party client (Linger l) f e = order_filter (λ (h : Holder). not (is_holder party h)) s.holders e
order_apply r s party client (Seat charge) (none, d) e = order_seated r s party client charge none e
order_apply r s party client (Reseat charge) (none, d) e = order_seated r s party client charge none e
order_apply r s party client other f e = e

order_done : (sets : List Rules) (s : State) (party : ℕ) (client : Client) (t : Task) → are_in_order s.holders ≡ true → are_in_order (step_of_task sets s party client t).1.holders ≡ true
order_done sets s party client (Answer asked) e = order_apply (in_force sets s) s party client (effect_at sets s party client asked) (fits_at sets s party client asked) e
order_done sets s party client (Reread n) e = order_anew (set_at sets n) [] s.holders ∙ e

-- one step keeps the order, and so does a run

order_step : (sets : List Rules) (count : ℕ) (s : State) (x : Entry) → AreSets sets count → IsKeptBy sets s → are_in_order s.holders ≡ true → are_in_order (after_entry sets s x).holders ≡ true
order_step sets count s x g k e =
    order_done sets (settle (in_force sets s) s x.moment) x.request.party x.request.client (task x.request.kind)
    (order_settle (in_force sets s) s x.moment (g.sound s.set k.set) k.kept e)

order_run : (sets : List Rules) (count : ℕ) (s : State) (h : List Entry) → AreSets sets count → RunsFrom sets s h → IsKeptBy sets s → are_in_order s.holders ≡ true → are_in_order (after_from sets s h).holders ≡ true
order_run sets count s [] g run k e = e
order_run sets count s (x ∷ xs) g (first, others) k e =
    order_run sets count (after_entry sets s x) xs g others (kept_step sets count s x.request x.moment g first.fits k) (order_step sets count s x g k e)

-- in every state of a run the holders stand in order
pub run_in_order : (sets : List Rules) (count : ℕ) (h : List Entry) → AreSets sets count → IsRun sets h → are_in_order (after sets h).holders ≡ true
run_in_order sets count h g run = order_run sets count opening h g run (opening_kept sets count g) refl
