use Rattle.std.proofs.Common.{◌≡◌, ℕ, ◌+◌, ◌-◌, ◌<◌, ◌≤◌, Bool, true, false, cond, List, [], ◌∷◌, ◌++◌, Some, filter, map, refl, ap, sym, ◌∙◌, arith, subst, ltb, not}
use Rattle.std.proofs.lemmas.Bool.{ltb-true, ltb-false, lt-ltb, le-ltb}
use Rattle.lic_types.specs.declared.client.Client.{Client}
use Rattle.options_machine.specs.declared.decision.Decision.{Decision}
use Rattle.options_machine.specs.declared.decision.Decision.TheVariants.{Barred, Retake, Capped, Grant, Full}
use Rattle.options_machine.specs.declared.effect.Effect.{Effect}
use Rattle.options_machine.specs.declared.effect.Effect.TheVariants.{Nothing, Tell, Release, Linger, Unqueue, Seat, Reseat, Join}
use Rattle.options_machine.specs.declared.reply.Charge.{Charge}
use Rattle.options_machine.specs.declared.rows.Holder.{Holder}
use Rattle.options_machine.specs.declared.rows.Queuer.{Queuer}
use Rattle.options_machine.specs.Rules.{Rules}
use Rattle.options_machine.specs.State.{State, is_holder}
use Rattle.options_machine.specs.Decide.{decide}
use Rattle.options_machine.specs.Settle.{in_time, later_moment, serve, settle, timely, with_holder, with_offer}
use Rattle.options_machine.specs.Apply.{apply, told_if}
use Rattle.options_machine.specs.Step.{holders_anew, next_charge}
use Rattle.options_machine.proofs.Counts.{count-cons, count-filter_le, count-with_holder}
use Rattle.options_machine.proofs.Keeps.{timed_count}
use Rattle.options_machine.proofs.Moments.{moved_later}
use Rattle.options_machine.proofs.Steps.{apply_now, settle_now}
use Rattle.seat_book.specs.Beats.{heard_after}

-- a holder more, whose beat is now

now_heard : (now beat : ℕ) → beat ≡ now → cond (ltb now beat) 1 0 ≤ 0
now_heard now beat e = rw (le-ltb now beat (omega (arith, e))) (omega arith)

pub heard_after-with_holder : (h : Holder) (hs : List Holder) (now : ℕ) → h.beat ≡ now → heard_after now (with_holder h hs) ≡ heard_after now hs
heard_after-with_holder h hs now e = omega (arith, count-with_holder (λ (x : Holder). ltb now x.beat) h hs, now_heard now h.beat e)

heard_after-with_offer : (s : State) (q : Queuer) (d : Decision) → heard_after s.now (with_offer s q d).holders ≡ heard_after s.now s.holders
heard_after-with_offer s q (Barred line) = refl
heard_after-with_offer s q (Retake charge) = heard_after-with_holder (record { party = q.party; client = q.client; charge = charge; beat = s.now; told = false }) s.holders s.now refl
heard_after-with_offer s q (Capped line) = refl
heard_after-with_offer s q (Grant charge) = heard_after-with_holder (record { party = q.party; client = q.client; charge = charge; beat = s.now; told = false }) s.holders s.now refl
heard_after-with_offer s q Full = refl

offered_now : (s : State) (q : Queuer) (d : Decision) → (with_offer s q d).now ≡ s.now
offered_now s q (Barred line) = refl
offered_now s q (Retake charge) = refl
offered_now s q (Capped line) = refl
offered_now s q (Grant charge) = refl
offered_now s q Full = refl

heard_after-serve : (r : Rules) (s : State) (qs : List Queuer) → heard_after s.now (serve r s qs).holders ≡ heard_after s.now s.holders
heard_after-serve r s [] = refl
heard_after-serve r s (q ∷ qs) =
    let d : Decision = decide r s q.client in
    subst (λ (n : ℕ). heard_after n (serve r (with_offer s q d) qs).holders ≡ heard_after n (with_offer s q d).holders) (offered_now s q d) (heard_after-serve r (with_offer s q d) qs)
    ∙ heard_after-with_offer s q d

-- later fewer were heard after the moment

later_cond : (now later beat : ℕ) (b c : Bool) → ltb now beat ≡ b → ltb later beat ≡ c → now ≤ later → cond c 1 0 ≤ cond b 1 0
later_cond now later beat true c e f h = cond_le c
  where
    cond_le : (c : Bool) → cond c 1 0 ≤ 1
    cond_le true = omega arith
    cond_le false = omega arith
later_cond now later beat false true e f h = let before : beat ≤ now = ltb-false now beat e in let after : later < beat = ltb-true later beat f in absurd (omega (arith, before, after, h))
later_cond now later beat false false e f h = omega arith

pub heard_after_later : (now later : ℕ) (hs : List Holder) → now ≤ later → heard_after later hs ≤ heard_after now hs
heard_after_later now later [] h = omega arith
heard_after_later now later (x ∷ xs) h =
    omega (arith, count-cons (λ (y : Holder). ltb now y.beat) x xs, count-cons (λ (y : Holder). ltb later y.beat) x xs, later_cond now later x.beat (ltb now x.beat) (ltb later x.beat) refl refl h, heard_after_later now later xs h)

-- a settling, an effect and a rereading leave none that was heard after the moment

pub unheard_timely : (r : Rules) (s : State) (moment : ℕ) → heard_after s.now s.holders ≡ 0 → heard_after (later_moment s.now moment) (in_time r.timeout (later_moment s.now moment) s.holders) ≡ 0
unheard_timely r s moment e =
    omega (arith, e, heard_after_later s.now (later_moment s.now moment) s.holders (moved_later s.now moment), timed_count (λ (h : Holder). ltb (later_moment s.now moment) h.beat) r.timeout (later_moment s.now moment) s.holders)

pub unheard_settle : (r : Rules) (s : State) (moment : ℕ) → heard_after s.now s.holders ≡ 0 → heard_after (settle r s moment).now (settle r s moment).holders ≡ 0
unheard_settle r s moment e =
    subst (λ (n : ℕ). heard_after n (settle r s moment).holders ≡ 0) (sym (settle_now r s moment))
    (heard_after-serve r (record (timely r s moment) { queue = [] }) s.queue ∙ unheard_timely r s moment e)

told_step : (b : Bool) (now : ℕ) (h : Holder) → cond (ltb now (told_if b now h).beat) 1 0 ≤ cond (ltb now h.beat) 1 0
told_step true now h = omega (arith, now_heard now now refl)
told_step false now h = omega arith

heard_after-told : (now party : ℕ) (hs : List Holder) → heard_after now (map (λ (h : Holder). told_if (is_holder party h) now h) hs) ≤ heard_after now hs
heard_after-told now party [] = omega arith
heard_after-told now party (x ∷ xs) =
    omega (arith, count-cons (λ (y : Holder). ltb now y.beat) x xs, count-cons (λ (y : Holder). ltb now y.beat) (told_if (is_holder party x) now x) (map (λ (h : Holder). told_if (is_holder party h) now h) xs), told_step (is_holder party x) now x, heard_after-told now party xs)

heard_after-apply : (s : State) (party : ℕ) (client : Client) (x : Effect) → heard_after s.now (apply s party client x).holders ≤ heard_after s.now s.holders
heard_after-apply s party client Nothing = omega arith
heard_after-apply s party client Tell = heard_after-told s.now party s.holders
heard_after-apply s party client Release = count-filter_le (λ (h : Holder). ltb s.now h.beat) (λ (h : Holder). not (is_holder party h)) s.holders
heard_after-apply s party client (Linger l) = count-filter_le (λ (h : Holder). ltb s.now h.beat) (λ (h : Holder). not (is_holder party h)) s.holders
heard_after-apply s party client Unqueue = omega arith
heard_after-apply s party client (Seat charge) = omega (arith, heard_after-with_holder (record { party = party; client = client; charge = charge; beat = s.now; told = true }) s.holders s.now refl)
heard_after-apply s party client (Reseat charge) = omega (arith, heard_after-with_holder (record { party = party; client = client; charge = charge; beat = s.now; told = true }) s.holders s.now refl)
heard_after-apply s party client Join = omega arith

pub unheard_apply : (s : State) (party : ℕ) (client : Client) (x : Effect) → heard_after s.now s.holders ≡ 0 → heard_after (apply s party client x).now (apply s party client x).holders ≡ 0
unheard_apply s party client x e =
    subst (λ (n : ℕ). heard_after n (apply s party client x).holders ≡ 0) (sym (apply_now s party client x)) (omega (arith, e, heard_after-apply s party client x))

pub heard_after-anew : (r : Rules) (given : List Charge) (now : ℕ) (hs : List Holder) → heard_after now (holders_anew r given hs) ≡ heard_after now hs
heard_after-anew r given now [] = refl
heard_after-anew r given now (h ∷ hs) =
    let c : Charge = next_charge r given h.client in
    count-cons (λ (y : Holder). ltb now y.beat) (record h { charge = c }) (holders_anew r (given ++ c ∷ []) hs) ∙ rw (heard_after-anew r (given ++ c ∷ []) now hs) (sym (count-cons (λ (y : Holder). ltb now y.beat) h hs))

-- who is silent for a timeout wasn't heard after the moment that lies so far back

late_cases : (now t beat : ℕ) (b : Bool) → ltb (now - t) beat ≡ b → beat ≤ now → t ≤ now → ltb (now - beat) t ≡ ltb (now - t) beat
late_cases now t beat true e was back = let less : now - t < beat = ltb-true (now - t) beat e in rw e (lt-ltb (now - beat) t (omega (arith, less, was, back)))
late_cases now t beat false e was back = let more : beat ≤ now - t = ltb-false (now - t) beat e in rw e (le-ltb (now - beat) t (omega (arith, more, was, back)))

timed_step : (t now : ℕ) (x : Holder) (xs : List Holder) (b : Bool) → ltb now x.beat ≡ b → t ≤ now → heard_after now (x ∷ xs) ≡ 0
    → (heard_after now xs ≡ 0 → filter (λ (h : Holder). ltb (now - h.beat) t) xs ≡ filter (λ (h : Holder). ltb (now - t) h.beat) xs)
    → filter (λ (h : Holder). ltb (now - h.beat) t) (x ∷ xs) ≡ filter (λ (h : Holder). ltb (now - t) h.beat) (x ∷ xs)
timed_step t now x xs true e back none rest =
    let one : heard_after now (x ∷ xs) ≡ 1 + heard_after now xs = count-cons (λ (h : Holder). ltb now h.beat) x xs ∙ rw e refl in
    absurd (omega (arith, one, none))
timed_step t now x xs false e back none rest =
    let was : x.beat ≤ now = ltb-false now x.beat e in
    let zero : heard_after now (x ∷ xs) ≡ 0 + heard_after now xs = count-cons (λ (h : Holder). ltb now h.beat) x xs ∙ rw e refl in
    by (ltb (now - t) x.beat) refl (late_cases now t x.beat (ltb (now - t) x.beat) refl was back) (rest (omega (arith, zero, none)))
  where
    by : (b : Bool) → ltb (now - t) x.beat ≡ b → ltb (now - x.beat) t ≡ ltb (now - t) x.beat → filter (λ (h : Holder). ltb (now - h.beat) t) xs ≡ filter (λ (h : Holder). ltb (now - t) h.beat) xs
        → filter (λ (h : Holder). ltb (now - h.beat) t) (x ∷ xs) ≡ filter (λ (h : Holder). ltb (now - t) h.beat) (x ∷ xs)
    by true f same rest = let also : ltb (now - x.beat) t ≡ true = same ∙ f in rw (also, f) (ap (λ (ys : List Holder). x ∷ ys) rest)
    by false f same rest = let also : ltb (now - x.beat) t ≡ false = same ∙ f in rw (also, f) rest

pub timed_back : (t now : ℕ) (hs : List Holder) → t ≤ now → heard_after now hs ≡ 0 → in_time (Some t) now hs ≡ filter (λ (h : Holder). ltb (now - t) h.beat) hs
timed_back t now [] back none = refl
timed_back t now (x ∷ xs) back none = timed_step t now x xs (ltb now x.beat) refl back none (λ e. timed_back t now xs back e)
