use Rattle.std.proofs.lemmas.Bool.{or_parts}
use Rattle.std.proofs.Common.{◌≡◌, ℕ, Bool, true, false, List, [], ◌∷◌, ◌++◌, refl, ap, ◌∙◌, arith, not, filter, append_assoc, append-nil}
use Rattle.std.specs.List.{list_any}
use Rattle.std.proofs.lemmas.List.{length-map}
use Rattle.lic_types.specs.declared.client.Client.{Client}
use Rattle.lic_types.specs.declared.client.RuleLine.{RuleLine}
use Rattle.options_machine.specs.declared.decision.Decision.{Decision}
use Rattle.options_machine.specs.declared.effect.Effect.{Effect}
use Rattle.options_machine.specs.declared.effect.Effect.TheVariants.{Nothing, Tell, Release, Linger, Unqueue, Seat, Reseat, Join}
use Rattle.options_machine.specs.declared.rows.Holder.{Holder}
use Rattle.options_machine.specs.declared.rows.Queuer.{Queuer}
use Rattle.options_machine.specs.Rules.{Rules, applies}
use Rattle.options_machine.specs.State.{State, is_holder, is_queuer}
use Rattle.options_machine.specs.Decide.{decide, is_seat}
use Rattle.options_machine.specs.Settle.{serve, with_offer, with_queuer, with_seat, with_seat_again}
use Rattle.options_machine.specs.Apply.{Fits, apply, told_if, with_told}
use Rattle.options_machine.specs.Law.{IsServed}
use Rattle.options_machine.proofs.Counts.{count-map}
use Rattle.options_machine.proofs.Keeps.{retakes}
use Rattle.options_machine.proofs.Served.{IsFuller, joined_served, reseated_fuller, seated_fuller, still_served}
use Rattle.options_machine.proofs.Steps.{charges-told}

-- a queue that nobody of leaves is as it was

stays_step : (s : State) (q : Queuer) (d : Decision) → is_seat d ≡ false → with_offer s q d ≡ with_queuer s q
stays_step s q d e = grind arith

serve_none : (r : Rules) (s : State) (front qs : List Queuer) → list_any (λ (q : Queuer). is_seat (decide r s q.client)) qs ≡ false → serve r (record s { queue = front }) qs ≡ record s { queue = front ++ qs }
serve_none r s front [] e = rw append-nil refl
serve_none r s front (q ∷ qs) e =
    let (here, others) = or_parts (is_seat (decide r s q.client)) (list_any (λ (x : Queuer). is_seat (decide r s x.client)) qs) e in
    ap (λ (t : State). serve r t qs) (stays_step (record s { queue = front }) q (decide r s q.client) here)
    ∙ serve_none r s (front ++ q ∷ []) qs others
    ∙ ap (λ (xs : List Queuer). record s { queue = xs }) (append_assoc front (q ∷ []) qs)

-- where nobody waits who could have a seat, serving the queue changes nothing
pub served_stays : (r : Rules) (s : State) → IsServed r s → serve r (record s { queue = [] }) s.queue ≡ s
served_stays r s e = serve_none r s [] s.queue e

-- which effects may leave somebody waiting who could have a seat: those that free one, or let one linger
abbrev pub may_free : Effect → Bool
may_free Release = true
may_free (Linger l) = true
may_free other = false

told_client : (r : Rules) (line : RuleLine) (b : Bool) (now : ℕ) (h : Holder) → applies r.groups (told_if b now h).client line ≡ applies r.groups h.client line
told_client r line b now h = grind arith

told_fuller : (r : Rules) (s : State) (party : ℕ) → IsFuller r s (with_told s party)
told_fuller r s party =
    let f : Holder → Holder = λ (h : Holder). told_if (is_holder party h) s.now h in
    record {
      lingers = λ c h. h;
      matched = λ line. omega (arith, count-map (λ (h : Holder). applies r.groups h.client line) f (λ h. told_client r line (is_holder party h) s.now h) s.holders);
      charges = λ c. omega (arith, charges-told s party c);
      in_use = omega (arith, length-map s.holders f);
    }

none_filter : {X : Type 0} (p q : X → Bool) (xs : List X) → list_any p xs ≡ false → list_any p (filter q xs) ≡ false
none_filter p q [] h = refl
none_filter p q (x ∷ xs) h = grind (arith, none_filter p q xs)

-- the others leave nobody waiting who could have a seat
pub served_after : (r : Rules) (s : State) (party : ℕ) (client : Client) (x : Effect) → may_free x ≡ false → Fits r s party client x → IsServed r s → IsServed r (apply s party client x)
served_after r s party client Tell e f h = still_served r s (with_told s party) s.queue (told_fuller r s party) h
served_after r s party client Unqueue e f h = none_filter (λ (q : Queuer). is_seat (decide r s q.client)) (λ (q : Queuer). not (is_queuer party q)) s.queue h
served_after r s party client (Seat charge) e f h = still_served r s (with_seat s party client charge true) s.queue (seated_fuller r s party client charge true) h
served_after r s party client (Reseat charge) e (none, d) h = still_served r s (with_seat_again s party client charge true) s.queue (reseated_fuller r s party client charge true (retakes r s client charge d)) h
served_after r s party client Join e (none, d) h = joined_served r s (record { party = party; client = client }) (ap is_seat d) h
served_after r s party client Nothing e f h = h
served_after r s party client other e f h = let never : true ≡ false = e in absurd (cc)
