use Rattle.std.proofs.Common.{◌≡◌, ℕ, ◌-◌, ◌≤◌, Bool, true, false, List, [], ◌∷◌, ◌++◌, refl, ap, ◌∙◌, arith, ltb, not, ◌||◌, ◌&&◌, Option, None, Some, map, filter}
use Rattle.std.specs.List.{count_by, find, list_all}
use Rattle.std.proofs.lemmas.Bool.Decides.{nat_tests}
use Rattle.std.proofs.lemmas.List.Folds.{list_all-append}
use Rattle.lic_types.specs.declared.client.Client.{Client}
use Rattle.options_machine.specs.declared.decision.Decision.{Decision}
use Rattle.options_machine.specs.declared.decision.Decision.TheVariants.{Retake, Grant}
use Rattle.options_machine.specs.declared.decision.Place.{Place}
use Rattle.options_machine.specs.declared.decision.Place.TheVariants.{Told, Untold, Waiting, Away}
use Rattle.options_machine.specs.declared.effect.Effect.{Effect}
use Rattle.options_machine.specs.declared.effect.Effect.TheVariants.{Nothing, Tell, Release, Linger, Unqueue, Seat, Reseat, Join}
use Rattle.options_machine.specs.declared.reply.Charge.{Charge}
use Rattle.options_machine.specs.declared.reply.Reply.{Reply}
use Rattle.options_machine.specs.declared.rows.Holder.{Holder}
use Rattle.options_machine.specs.declared.rows.Queuer.{Queuer}
use Rattle.options_machine.specs.Rules.{Rules}
use Rattle.options_machine.specs.State.{State, entries, is_holder, is_queuer}
use Rattle.options_machine.specs.Decide.{decide, is_left_by}
use Rattle.options_machine.specs.Settle.{in_time, later_moment, serve, settle, timely, with_holder, with_offer, with_queuer, with_seat, without_first}
use Rattle.options_machine.specs.Apply.{IsPlace, apply, told_if, with_told, without_holder, without_queuer}
use Rattle.options_machine.specs.Step.{holders_anew, next_charge, with_charges_anew}
use Rattle.options_machine.specs.Own.{Agrees, fits_holder, is_of_holding, is_of_queueing, says_queueing}
use Rattle.options_machine.specs.Replies.{is_pending, is_told}
use Rattle.options_machine.proofs.Counts.{and_left, and_right, count-cons, count_none}

-- what passes everywhere passes in what is left

pub all_filter : {X : Type 0} (q p : X → Bool) (xs : List X) → list_all p xs ≡ true → list_all p (filter q xs) ≡ true
all_filter q p [] h = refl
all_filter q p (x ∷ xs) h = grind (arith, all_filter q p xs)

pub all_timed : (p : Holder → Bool) (timeout : Option ℕ) (now : ℕ) (hs : List Holder) → list_all p hs ≡ true → list_all p (in_time timeout now hs) ≡ true
all_timed p None now hs h = h
all_timed p (Some t) now hs h = all_filter (λ (x : Holder). ltb (now - x.beat) t) p hs h

pub all_with : (p : Holder → Bool) (h : Holder) (hs : List Holder) → p h ≡ true → list_all p hs ≡ true → list_all p (with_holder h hs) ≡ true
all_with p h [] one all = rw one refl
all_with p h (g ∷ gs) one all = grind (arith, all_with p h gs)

all_push : {X : Type 0} (p : X → Bool) (xs : List X) (y : X) → list_all p xs ≡ true → p y ≡ true → list_all p (xs ++ y ∷ []) ≡ true
all_push p xs y all one = list_all-append p xs (y ∷ []) ∙ rw (all, one) refl

-- settling

agrees_offered : (o : Option Reply) (party : ℕ) (s : State) (q : Queuer) (d : Decision) → (not (is_queuer party q) || says_queueing o) ≡ true → Agrees o s party → Agrees o (with_offer s q d) party
agrees_offered o party s q (Retake charge) one a = record { holders = all_with (λ (h : Holder). not (is_holder party h) || fits_holder o h) (record { party = q.party; client = q.client; charge = charge; beat = s.now; told = false }) s.holders one a.holders; queue = a.queue }
agrees_offered o party s q (Grant charge) one a = record { holders = all_with (λ (h : Holder). not (is_holder party h) || fits_holder o h) (record { party = q.party; client = q.client; charge = charge; beat = s.now; told = false }) s.holders one a.holders; queue = a.queue }
agrees_offered o party s q other one a = record { holders = a.holders; queue = all_push (λ (x : Queuer). not (is_queuer party x) || says_queueing o) s.queue q a.queue one }

agrees_serve : (o : Option Reply) (party : ℕ) (r : Rules) (s : State) (qs : List Queuer) → list_all (λ (q : Queuer). not (is_queuer party q) || says_queueing o) qs ≡ true → Agrees o s party → Agrees o (serve r s qs) party
agrees_serve o party r s [] all a = a
agrees_serve o party r s (q ∷ qs) all a =
    agrees_serve o party r (with_offer s q (decide r s q.client)) qs (and_right (not (is_queuer party q) || says_queueing o) (list_all (λ (x : Queuer). not (is_queuer party x) || says_queueing o) qs) all)
    (agrees_offered o party s q (decide r s q.client) (and_left (not (is_queuer party q) || says_queueing o) (list_all (λ (x : Queuer). not (is_queuer party x) || says_queueing o) qs) all) a)

pub agrees_settle : (o : Option Reply) (party : ℕ) (r : Rules) (s : State) (moment : ℕ) → Agrees o s party → Agrees o (settle r s moment) party
agrees_settle o party r s moment a =
    agrees_serve o party r (record (timely r s moment) { queue = [] }) s.queue a.queue
    (record { holders = all_timed (λ (h : Holder). not (is_holder party h) || fits_holder o h) r.timeout (later_moment s.now moment) s.holders a.holders; queue = refl })

-- rereading

anew_same : (o : Option Reply) (party : ℕ) (r : Rules) (given : List Charge) (hs : List Holder) → list_all (λ (h : Holder). not (is_holder party h) || fits_holder o h) (holders_anew r given hs) ≡ list_all (λ (h : Holder). not (is_holder party h) || fits_holder o h) hs
anew_same o party r given [] = refl
anew_same o party r given (h ∷ hs) = ap (λ (b : Bool). (not (is_holder party h) || fits_holder o h) && b) (anew_same o party r (given ++ next_charge r given h.client ∷ []) hs)

pub agrees_anew : (o : Option Reply) (party : ℕ) (r : Rules) (s : State) → Agrees o s party → Agrees o (with_charges_anew r s) party
agrees_anew o party r s a = record { holders = anew_same o party r [] s.holders ∙ a.holders; queue = a.queue }

-- an effect on another party

all_told : (o : Option Reply) (party p now : ℕ) (hs : List Holder) → (party ≡ p → ⊥) → list_all (λ (h : Holder). not (is_holder p h) || fits_holder o h) hs ≡ true
    → list_all (λ (h : Holder). not (is_holder p h) || fits_holder o h) (map (λ (h : Holder). told_if (is_holder party h) now h) hs) ≡ true
all_told o party p now [] other all = refl
all_told o party p now (h ∷ hs) other all = grind (arith, nat_tests, all_told o party p now hs other)

agrees_told : (o : Option Reply) (party p : ℕ) (s : State) → (party ≡ p → ⊥) → Agrees o s p → Agrees o (with_told s party) p
agrees_told o party p s other a = record { holders = all_told o party p s.now s.holders other a.holders; queue = a.queue }

agrees_released : (o : Option Reply) (party p : ℕ) (s : State) → Agrees o s p → Agrees o (without_holder s party) p
agrees_released o party p s a = record { holders = all_filter (λ (h : Holder). not (is_holder party h)) (λ (h : Holder). not (is_holder p h) || fits_holder o h) s.holders a.holders; queue = a.queue }

agrees_unqueued : (o : Option Reply) (party p : ℕ) (s : State) → Agrees o s p → Agrees o (without_queuer s party) p
agrees_unqueued o party p s a = record { holders = a.holders; queue = all_filter (λ (q : Queuer). not (is_queuer party q)) (λ (q : Queuer). not (is_queuer p q) || says_queueing o) s.queue a.queue }

agrees_seated : (o : Option Reply) (p : ℕ) (s : State) (party : ℕ) (client : Client) (charge : Charge) (told : Bool) → (party ≡ p → ⊥) → Agrees o s p → Agrees o (with_seat s party client charge told) p
agrees_seated o p s party client charge told other a =
    let h : Holder = record { party = party; client = client; charge = charge; beat = s.now; told = told } in
    record { holders = all_with (λ (x : Holder). not (is_holder p x) || fits_holder o x) h s.holders (grind (arith, nat_tests)) a.holders; queue = a.queue }

agrees_joined : (o : Option Reply) (p : ℕ) (s : State) (q : Queuer) → (q.party ≡ p → ⊥) → Agrees o s p → Agrees o (with_queuer s q) p
agrees_joined o p s q other a = record { holders = a.holders; queue = all_push (λ (x : Queuer). not (is_queuer p x) || says_queueing o) s.queue q a.queue (grind (arith, nat_tests)) }

pub other_apply : (o : Option Reply) (p : ℕ) (s : State) (party : ℕ) (client : Client) (x : Effect) → (party ≡ p → ⊥) → Agrees o s p → Agrees o (apply s party client x) p
other_apply o p s party client Nothing other a = a
other_apply o p s party client Tell other a = agrees_told o party p s other a
other_apply o p s party client Release other a = agrees_released o party p s a
other_apply o p s party client (Linger l) other a = let gone : Agrees o (without_holder s party) p = agrees_released o party p s a in record { holders = gone.holders; queue = gone.queue }
other_apply o p s party client Unqueue other a = agrees_unqueued o party p s a
other_apply o p s party client (Seat charge) other a = agrees_seated o p s party client charge true other a
other_apply o p s party client (Reseat charge) other a =
    agrees_seated o p (record s { lingering = without_first (is_left_by client) s.lingering }) party client charge true other (record { holders = a.holders; queue = a.queue })
other_apply o p s party client Join other a = agrees_joined o p s (record { party = party; client = client }) other a

-- the party's own answer: where the state after it is read off by place

none_all : {X : Type 0} (t ok : X → Bool) (xs : List X) → count_by t xs ≡ 0 → list_all (λ (x : X). not (t x) || ok x) xs ≡ true
none_all t ok [] e = refl
none_all t ok (x ∷ xs) e = grind (arith, count-cons t x xs, none_all t ok xs)

-- where one is found and there is one at most, all that pass are it
only_all : {X : Type 0} (t ok : X → Bool) (xs : List X) (y : X) → find t xs ≡ Some y → count_by t xs ≤ 1 → ok y ≡ true → list_all (λ (z : X). not (t z) || ok z) xs ≡ true
only_all t ok [] y e one good = refl
only_all t ok (x ∷ xs) y e one good = grind (arith, count-cons t x xs, none_all t ok xs, only_all t ok xs y)

pub found_one : {X : Type 0} (t : X → Bool) (xs : List X) (y : X) → find t xs ≡ Some y → 1 ≤ count_by t xs
found_one t [] y e = grind arith
found_one t (x ∷ xs) y e = grind (arith, count-cons t x xs, found_one t xs y)

-- a reply that says what the party has agrees with it
pub agree_place : (x : Reply) (s : State) (p : ℕ) (at : Place) → IsPlace s p at → is_of_holding x ≡ is_told at → is_of_queueing x ≡ is_pending at → entries s p ≤ 1 → Agrees (Some x) s p
agree_place x s p (Told h) (e, t) f g one =
    let here : 1 ≤ count_by (is_holder p) s.holders = found_one (is_holder p) s.holders h e in
    record {
      holders = only_all (is_holder p) (fits_holder (Some x)) s.holders h e (omega (arith, one)) (rw (t, f, g) refl);
      queue = none_all (is_queuer p) (λ (q : Queuer). says_queueing (Some x)) s.queue (omega (arith, here, one));
    }
agree_place x s p (Untold h) (e, t) f g one =
    let here : 1 ≤ count_by (is_holder p) s.holders = found_one (is_holder p) s.holders h e in
    record {
      holders = only_all (is_holder p) (fits_holder (Some x)) s.holders h e (omega (arith, one)) (rw (t, f, g) refl);
      queue = none_all (is_queuer p) (λ (q : Queuer). says_queueing (Some x)) s.queue (omega (arith, here, one));
    }
agree_place x s p (Waiting q) (e, w) f g one = record {
  holders = none_all (is_holder p) (fits_holder (Some x)) s.holders (count_none (is_holder p) s.holders e);
  queue = only_all (is_queuer p) (λ (y : Queuer). says_queueing (Some x)) s.queue q w (omega (arith, one)) (rw (f, g) refl);
}
agree_place x s p Away (e, w) f g one = record {
  holders = none_all (is_holder p) (fits_holder (Some x)) s.holders (count_none (is_holder p) s.holders e);
  queue = none_all (is_queuer p) (λ (q : Queuer). says_queueing (Some x)) s.queue (count_none (is_queuer p) s.queue w);
}
