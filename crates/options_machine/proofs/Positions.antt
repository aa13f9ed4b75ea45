use Rattle.std.proofs.Common.{◌≡◌, ℕ, ◌+◌, ◌<◌, ◌≤◌, Bool, true, false, List, [], ◌∷◌, ◌++◌, length, refl, ap, sym, ◌∙◌, arith, ◌↔◌, ◌⊎◌, inl, inr, None, Some}
use Rattle.std.specs.List.{find, position, position_or_len}
use Rattle.std.specs.Option.{option_map}
use Rattle.std.proofs.lemmas.Bool.{eq-eqb}
use Rattle.lic_types.specs.declared.client.Client.{Client}
use Rattle.options_machine.specs.declared.decision.Decision.{Decision}
use Rattle.options_machine.specs.declared.decision.Decision.TheVariants.{Barred, Full}
use Rattle.options_machine.specs.declared.decision.Place.{Place}
use Rattle.options_machine.specs.declared.decision.Place.TheVariants.{Told, Untold, Waiting, Away}
use Rattle.options_machine.specs.declared.effect.Effect.{Effect}
use Rattle.options_machine.specs.declared.reply.Ask.{Ask}
use Rattle.options_machine.specs.declared.reply.Ask.TheVariants as ask
use Rattle.options_machine.specs.declared.reply.Entry.{Entry}
use Rattle.options_machine.specs.declared.reply.Reply.{Reply}
use Rattle.options_machine.specs.declared.reply.Reply.TheVariants as reply
use Rattle.options_machine.specs.declared.reply.Request.{Request}
use Rattle.options_machine.specs.declared.reply.Task.{Task}
use Rattle.options_machine.specs.declared.reply.Task.TheVariants.{Answer, Reread}
use Rattle.options_machine.specs.declared.rows.Holder.{Holder}
use Rattle.options_machine.specs.declared.rows.Queuer.{Queuer}
use Rattle.options_machine.specs.Rules.{Rules}
use Rattle.options_machine.specs.State.{State, entries, in_force, is_holder, is_queuer, opening, place}
use Rattle.options_machine.specs.Decide.{decide}
use Rattle.options_machine.specs.Settle.{with_queuer}
use Rattle.options_machine.specs.Apply.{IsPlace, apply}
use Rattle.options_machine.specs.Step.{answer_by_decision, answer_of, answer_of_return, entry_left, lingers, position_of, standing_of, step, step_of_task, task}
use Rattle.options_machine.specs.Run.{IsRun, after}
use Rattle.options_machine.specs.Law.{AreSets}
use Rattle.options_machine.specs.Replies.{asks_such, state_found, is_about_itself, is_of_itself, is_waiting, one_more, position_in_queue, reply_to}
use Rattle.options_machine.proofs.Owns.{found_one}
use Rattle.options_machine.proofs.Runs.{kept_run, opening_kept}
use Rattle.options_machine.proofs.Sayings.{none_of_count, place_after, place_applied, place_joined}
use Rattle.options_machine.proofs.Steps.{IsKeptBy, effect_at, fits_at, kept_apply, kept_settled, place_is}
use Rattle.options_machine.specs.Kept.{IsKept}
use Rattle.std.proofs.lemmas.Bool.Decides.{nat_tests}
use Rattle.std.proofs.lemmas.Grind.{common_steps}

-- the first place that passes

place_of_found : {X : Type 0} (p : X → Bool) (xs : List X) (y : X) → find p xs ≡ Some y → position_or_len p xs < length xs
place_of_found p [] y e = grind arith
place_of_found p (x ∷ xs) y e = grind (arith, place_of_found p xs y)

position_of_found : {X : Type 0} (p : X → Bool) (xs : List X) (y : X) → find p xs ≡ Some y → position p xs ≡ Some (position_or_len p xs)
position_of_found p xs y e = grind (arith, nat_tests, place_of_found p xs y e)

-- where none passes it is the end
end_of_none : {X : Type 0} (p : X → Bool) (xs : List X) → find p xs ≡ None → position_or_len p xs ≡ length xs
end_of_none p [] e = refl
end_of_none p (x ∷ xs) e = grind (arith, end_of_none p xs)

position_of_none : {X : Type 0} (p : X → Bool) (xs : List X) → find p xs ≡ None → position p xs ≡ None
position_of_none p xs e = grind (arith, nat_tests, end_of_none p xs e)

-- one more at the end, of which the first passes
place_of_last : {X : Type 0} (p : X → Bool) (xs : List X) (y : X) → p y ≡ true → find p xs ≡ None → position_or_len p (xs ++ y ∷ []) ≡ length xs
place_of_last p xs y one e = grind (arith, common_steps, end_of_none p xs e)

-- a party that doesn't wait has no position

holder_waits_not : (s : State) (party : ℕ) (h : Holder) → find (is_holder party) s.holders ≡ Some h → entries s party ≤ 1 → find (is_queuer party) s.queue ≡ None
holder_waits_not s party h e one = none_of_count (is_queuer party) s.queue (omega (arith, one, found_one (is_holder party) s.holders h e))

no_place : (s : State) (party : ℕ) (at : Place) → IsPlace s party at → entries s party ≤ 1 → is_waiting at ≡ false → find (is_queuer party) s.queue ≡ None
no_place s party (Told h) (e, t) one w = holder_waits_not s party h e one
no_place s party (Untold h) (e, t) one w = holder_waits_not s party h e one
no_place s party (Waiting q) (e, f) one w = let never : true ≡ false = w in absurd (cc)
no_place s party Away (e, f) one w = f

nowhere : (s : State) (party : ℕ) (at : Place) → IsPlace s party at → entries s party ≤ 1 → is_waiting at ≡ false → position_in_queue s party ≡ None
nowhere s party at p one w = ap (option_map one_more) (position_of_none (is_queuer party) s.queue (no_place s party at p one w))

-- an answer tells no position and leaves its party in no queue, or it tells the position at which the party waits then
abbrev Tells : State → ℕ → Client → Place → Reply × Effect → Type 0
Tells s party client at a =
    (((n : ℕ) → a.0 ≡ reply.Queued n → ⊥) × (is_waiting (place_after s party client at a.1) ≡ false))
    ⊎ ((n : ℕ) × (a.0 ≡ reply.Queued n) × (position_in_queue (apply s party client a.1) party ≡ Some n))

waits_here : (s : State) (party : ℕ) (q : Queuer) → find (is_queuer party) s.queue ≡ Some q → position_in_queue s party ≡ Some (position_of s party)
waits_here s party q e = ap (option_map one_more) (position_of_found (is_queuer party) s.queue q e)

tells_standing : (s : State) (party : ℕ) (client : Client) (q : Queuer) (d : Decision) → find (is_queuer party) s.queue ≡ Some q → Tells s party client (Waiting q) (standing_of s party d)
tells_standing s party client q (Barred line) e = inl (λ n f. cc, refl)
tells_standing s party client q other e = inr (position_of s party, refl, waits_here s party q e)

joins_here : (s : State) (party : ℕ) (client : Client) → IsPlace s party Away → position_in_queue (with_queuer s (record { party = party; client = client })) party ≡ Some (length s.queue + 1)
joins_here s party client (f, e) =
    let q : Queuer = record { party = party; client = client } in
    let self : is_queuer party q ≡ true = eq-eqb party party refl in
    ap (option_map one_more) (position_of_found (is_queuer party) (s.queue ++ q ∷ []) q (place_joined s party q refl (f, e)).1 ∙ ap Some (place_of_last (is_queuer party) s.queue q self e))

tells_decided : (r : Rules) (s : State) (party : ℕ) (client : Client) (may_wait : Bool) (d : Decision) → IsPlace s party Away → Tells s party client Away (answer_by_decision r s may_wait d)
tells_decided r s party client true Full e = inr (length s.queue + 1, refl, joins_here s party client e)
tells_decided r s party client false Full e = inl (λ n f. cc, refl)
tells_decided r s party client may_wait other e = inl (λ n f. cc, refl)

tells_given_back : (r : Rules) (s : State) (party : ℕ) (client : Client) (h : Holder) (at : Place) (b : Bool) → lingers r s ≡ b → Tells s party client at (answer_of_return (entry_left r s h))
tells_given_back r s party client h at true e = rw e (inl (λ n f. cc, refl))
tells_given_back r s party client h at false e = rw e (inl (λ n f. cc, refl))

tells_after : (r : Rules) (s : State) (party : ℕ) (client : Client) (asked : Ask) (at : Place) → is_of_itself asked ≡ true → IsPlace s party at → Tells s party client at (answer_of r s party client asked at)
tells_after r s party client ask.GiveBack (Told h) about p = tells_given_back r s party client h (Told h) (lingers r s) refl
tells_after r s party client ask.GiveBack (Untold h) about p = inl (λ n f. cc, refl)
tells_after r s party client asked (Told h) about p = inl (λ n f. cc, refl)
tells_after r s party client asked (Untold h) about p = inl (λ n f. cc, refl)
tells_after r s party client ask.GiveBack (Waiting q) about p = inl (λ n f. cc, refl)
tells_after r s party client ask.Count (Waiting q) about p = let never : false ≡ true = about in absurd (cc)
tells_after r s party client asked (Waiting q) about (e, f) = tells_standing s party client q (decide r s q.client) f
tells_after r s party client (ask.Seat may_wait) Away about p = tells_decided r s party client may_wait (decide r s client) p
tells_after r s party client asked Away about p = inl (λ n f. cc, refl)

-- of the step

told_at : (r : Rules) (s : State) (party : ℕ) (client : Client) (at : Place) (a : Reply × Effect) (n : ℕ) → IsPlace (apply s party client a.1) party (place_after s party client at a.1) → entries (apply s party client a.1) party ≤ 1 → Tells s party client at a
    → (a.0 ≡ reply.Queued n) ↔ (position_in_queue (apply s party client a.1) party ≡ Some n)
told_at r s party client at a n p one (inl (never, w)) =
    let none : position_in_queue (apply s party client a.1) party ≡ None = nowhere (apply s party client a.1) party (place_after s party client at a.1) p one w in
    (λ e. absurd (never n e), λ e. let both : None ≡ Some n = sym none ∙ e in cc)
told_at r s party client at a n p one (inr (m, same, here)) =
    (λ e. let both : reply.Queued m ≡ reply.Queued n = sym same ∙ e in here ∙ cc, λ e. let both : Some m ≡ Some n = sym here ∙ e in same ∙ cc)

done_tells : (sets : List Rules) (count : ℕ) (s : State) (party : ℕ) (client : Client) (t : Task) (n : ℕ) → AreSets sets count → IsKeptBy sets s
    → ((step_of_task sets s party client t).0 ≡ reply.Queued n) ↔ ((asks_such is_of_itself t ≡ true) × (position_in_queue (step_of_task sets s party client t).1 party ≡ Some n))
done_tells sets count s party client (Answer ask.Count) n g k = grind arith
done_tells sets count s party client (Reread m) n g k = grind arith
done_tells sets count s party client (Answer asked) n g k =
    let r : Rules = in_force sets s in
    let x : Effect = effect_at sets s party client asked in
    let after : IsKept r (apply s party client x) = kept_apply r s party client x (fits_at sets s party client asked) (g.sound s.set k.set) k.kept in
    let both : _ ↔ _ = told_at r s party client (place s party) (answer_of r s party client asked (place s party)) n
    (place_applied r s party client (place s party) x (place_is s party) (k.kept.single party) (fits_at sets s party client asked)) (after.single party)
    (tells_after r s party client asked (place s party) refl (place_is s party)) in
    (λ e. (refl, both.0 e), λ c. both.1 c.1)

pub positions_told : (sets : List Rules) (count : ℕ) (h : List Entry) (request : Request) (moment n : ℕ) → AreSets sets count → IsRun sets h
    → (reply_to sets (after sets h) request moment ≡ reply.Queued n)
    ↔ ((is_about_itself request.kind ≡ true) × (position_in_queue (step sets (after sets h) request moment).1 request.party ≡ Some n))
positions_told sets count h request moment n g run =
    let kept : IsKeptBy sets (state_found sets (after sets h) moment) = kept_settled sets count (after sets h) moment g (kept_run sets count opening h g run (opening_kept sets count g)) in
    done_tells sets count (state_found sets (after sets h) moment) request.party request.client (task request.kind) n g kept
