use Rattle.std.proofs.Common.{◌≡◌, ℕ, ◌≤◌, Bool, true, false, cond, List, [], ◌∷◌, refl, ap, sym, ◌∙◌, arith, ltb, not, ◌||◌, ◌&&◌, Option}
use Rattle.std.specs.List.{list_any}
use Rattle.std.specs.Option.{is_some}
use Rattle.std.proofs.lemmas.Bool.{false_from_ne_true}
use Rattle.std.proofs.lemmas.List.Folds.{list_any-append}
use Rattle.lic_types.specs.declared.client.Client.{Client}
use Rattle.lic_types.specs.declared.client.RuleLine.{RuleLine}
use Rattle.options_machine.specs.declared.decision.Decision.{Decision}
use Rattle.options_machine.specs.declared.decision.Decision.TheVariants.{Barred, Retake, Capped, Grant, Full}
use Rattle.options_machine.specs.declared.limits.Limit.{Limit}
use Rattle.options_machine.specs.declared.reply.Charge.{Charge}
use Rattle.options_machine.specs.declared.reply.Charge.TheVariants.{Reserve, Open}
use Rattle.options_machine.specs.declared.rows.Holder.{Holder}
use Rattle.options_machine.specs.declared.rows.Lingerer.{Lingerer}
use Rattle.options_machine.specs.declared.rows.Queuer.{Queuer}
use Rattle.lic_types.specs.Groups.{same_name}
use Rattle.options_machine.specs.Rules.{Rules, applies}
use Rattle.options_machine.specs.State.{State, charges, in_use}
use Rattle.options_machine.specs.Decide.{decide, excluding_line, has_room, is_left_by, is_reached, is_seat, lingering_charge, match_count, number_of_limit, reached_max_line, reserve_line_with_room, same_client, unless, unmet_include_line}
use Rattle.options_machine.specs.Settle.{serve, settle, timely, with_offer, with_queuer, with_seat, with_seat_again, without_first}
use Rattle.options_machine.specs.Law.{IsServed}
use Rattle.options_machine.proofs.Counts.{any_weaker, count-with_holder, count-without_first, find_passes, some_found}
use Rattle.options_machine.proofs.Keeps.{LingersFor, charges-seated, charges-reseated, in_use-seated, in_use-reseated, retakes}
use Rattle.std.proofs.lemmas.Bool.Decides.{nat_tests}

-- a state that is at least as full: nothing lingers for a client for whom nothing did, and no count is smaller
pub record IsFuller (r : Rules) (s new : State) : Type 0 where
  pub lingers : (c : Client) → list_any (is_left_by c) new.lingering ≡ true → list_any (is_left_by c) s.lingering ≡ true
  pub matched : (line : RuleLine) → match_count r s line ≤ match_count r new line
  pub charges : (c : Charge) → charges s c ≤ charges new c
  pub in_use : in_use s ≤ in_use new

-- whether it is a seat, by the cases
seat_of : (a b : Option ℕ) (d : Option Charge) (e f : Option ℕ) (g : Bool)
    → is_seat (unless a Barred (unless b Barred (unless d Retake (unless e Capped (unless f (λ line. Grant (Reserve line)) (cond g (Grant Open) Full))))))
    ≡ (not (is_some a) && (not (is_some b) && (is_some d || (not (is_some e) && (is_some f || g)))))
seat_of a b d e f g = grind arith

-- fewer seats where less lingers, more is reached and less has room
fewer : (a b d d' e e' f f' g g' : Bool) → (d' ≡ true → d ≡ true) → (e ≡ true → e' ≡ true) → (f' ≡ true → f ≡ true) → (g' ≡ true → g ≡ true)
    → (a && (b && (d' || (not e' && (f' || g'))))) ≡ true → (a && (b && (d || (not e && (f || g))))) ≡ true
fewer a b d d' e e' f f' g g' hd he hf hg h = grind arith

reached_more : (r : Rules) (s new : State) (c : Client) (m : Limit) → IsFuller r s new → is_reached r s c m ≡ true → is_reached r new c m ≡ true
reached_more r s new c m u h = grind (arith, nat_tests, u.matched m.line)

room_less : (r : Rules) (s new : State) (c : Client) (m : Limit) → IsFuller r s new → has_room r new c m ≡ true → has_room r s c m ≡ true
room_less r s new c m u h = grind (arith, nat_tests, u.charges (Reserve m.line.line))

-- whether a RESERVE line with room is found
reserved_some : (r : Rules) (s : State) (c : Client) → is_some (reserve_line_with_room r s c) ≡ (ltb (in_use s) r.count && list_any (has_room r s c) r.reserves)
reserved_some r s c = grind (arith, some_found number_of_limit (has_room r s c) r.reserves)

reserved_less : (r : Rules) (s new : State) (c : Client) → IsFuller r s new → is_some (reserve_line_with_room r new c) ≡ true → is_some (reserve_line_with_room r s c) ≡ true
reserved_less r s new c u h =
    let weaker : list_any (has_room r new c) r.reserves ≡ true → list_any (has_room r s c) r.reserves ≡ true = any_weaker (has_room r new c) (has_room r s c) (λ m. room_less r s new c m u) r.reserves in
    grind (arith, nat_tests, reserved_some r s c, reserved_some r new c, weaker, u.in_use)

open_before : (r : Rules) (s new : State) → IsFuller r s new → ltb (charges new Open) r.free ≡ true → ltb (charges s Open) r.free ≡ true
open_before r s new u e = grind (arith, nat_tests, u.charges Open)

-- in a fuller state there is a seat only where there was one
pub seat_before : (r : Rules) (s new : State) (c : Client) → IsFuller r s new → is_seat (decide r new c) ≡ true → is_seat (decide r s c) ≡ true
seat_before r s new c u h =
    let after : (not (is_some (excluding_line r c)) && (not (is_some (unmet_include_line r c)) && (is_some (lingering_charge new c) || (not (is_some (reached_max_line r new c)) && (is_some (reserve_line_with_room r new c) || ltb (charges new Open) r.free))))) ≡ true
    = sym (seat_of (excluding_line r c) (unmet_include_line r c) (lingering_charge new c) (reached_max_line r new c) (reserve_line_with_room r new c) (ltb (charges new Open) r.free)) ∙ h in
    let before : (not (is_some (excluding_line r c)) && (not (is_some (unmet_include_line r c)) && (is_some (lingering_charge s c) || (not (is_some (reached_max_line r s c)) && (is_some (reserve_line_with_room r s c) || ltb (charges s Open) r.free))))) ≡ true
    = fewer (not (is_some (excluding_line r c))) (not (is_some (unmet_include_line r c))) (is_some (lingering_charge s c)) (is_some (lingering_charge new c)) (is_some (reached_max_line r s c)) (is_some (reached_max_line r new c))
    (is_some (reserve_line_with_room r s c)) (is_some (reserve_line_with_room r new c)) (ltb (charges s Open) r.free) (ltb (charges new Open) r.free)
    (λ e. some_found (λ (l : Lingerer). l.charge) (is_left_by c) s.lingering ∙ u.lingers c (sym (some_found (λ (l : Lingerer). l.charge) (is_left_by c) new.lingering) ∙ e))
    (λ e. some_found number_of_limit (is_reached r new c) r.maxes ∙ any_weaker (is_reached r s c) (is_reached r new c) (λ m. reached_more r s new c m u) r.maxes (sym (some_found number_of_limit (is_reached r s c) r.maxes) ∙ e))
    (λ e. reserved_less r s new c u e)
    (λ e. open_before r s new u e)
    after in
    seat_of (excluding_line r c) (unmet_include_line r c) (lingering_charge s c) (reached_max_line r s c) (reserve_line_with_room r s c) (ltb (charges s Open) r.free) ∙ before

-- equal clients

name_eq : (a b : List ℕ) → same_name a b ≡ true → a ≡ b
name_eq [] [] e = refl
name_eq [] (y ∷ ys) e = grind arith
name_eq (x ∷ xs) [] e = grind arith
name_eq (x ∷ xs) (y ∷ ys) e = grind (arith, name_eq xs ys)

pub client_eq : (a b : Client) → same_client a b ≡ true → a ≡ b
client_eq a b e = grind (arith, name_eq a.user b.user, name_eq a.host b.host, name_eq a.display b.display, name_eq a.project b.project)

-- a seat leaves a fuller state

pub seated_fuller : (r : Rules) (s : State) (party : ℕ) (client : Client) (charge : Charge) (told : Bool) → IsFuller r s (with_seat s party client charge told)
seated_fuller r s party client charge told = record {
  lingers = λ c h. h;
  matched = λ line. omega (arith, count-with_holder (λ (h : Holder). applies r.groups h.client line) (record { party = party; client = client; charge = charge; beat = s.now; told = told }) s.holders);
  charges = λ c. omega (arith, charges-seated s party client charge told c);
  in_use = omega (arith, in_use-seated s party client charge told);
}

without_weaker : (p q : Lingerer → Bool) (xs : List Lingerer) → list_any p (without_first q xs) ≡ true → list_any p xs ≡ true
without_weaker p q [] h = h
without_weaker p q (x ∷ xs) h = grind (arith, without_weaker p q xs)

pub reseated_fuller : (r : Rules) (s : State) (party : ℕ) (client : Client) (charge : Charge) (told : Bool) → LingersFor s client charge → IsFuller r s (with_seat_again s party client charge told)
reseated_fuller r s party client charge told (l, e, f) =
    let h : Holder = record { party = party; client = client; charge = charge; beat = s.now; told = told } in
    let same : l.client ≡ client = client_eq l.client client (find_passes (is_left_by client) s.lingering l e) in
    record {
      lingers = λ c. without_weaker (is_left_by c) (is_left_by client) s.lingering;
      matched = λ line.
          let more : _ ≡ _ = count-with_holder (λ (x : Holder). applies r.groups x.client line) h s.holders in
          let less : _ ≡ _ = rw same at (count-without_first (λ (x : Lingerer). applies r.groups x.client line) (is_left_by client) s.lingering l e) in
          omega (arith, more, less);
      charges = λ c. omega (arith, charges-reseated s party client charge told c (l, e, f));
      in_use = omega (arith, in_use-reseated s party client charge told (l, e, f));
    }

-- whoever stays in the queue has no seat then, and none later

pub still_served : (r : Rules) (s new : State) (qs : List Queuer) → IsFuller r s new → list_any (λ (q : Queuer). is_seat (decide r s q.client)) qs ≡ false → list_any (λ (q : Queuer). is_seat (decide r new q.client)) qs ≡ false
still_served r s new qs u h =
    let had : Queuer → Bool = λ (q : Queuer). is_seat (decide r s q.client) in
    let has : Queuer → Bool = λ (q : Queuer). is_seat (decide r new q.client) in
    false_from_ne_true (list_any has qs) (λ e. let some : list_any had qs ≡ true = any_weaker has had (λ q. seat_before r s new q.client u) qs e in let never : true ≡ false = sym some ∙ h in cc)

pub joined_served : (r : Rules) (s : State) (q : Queuer) → is_seat (decide r s q.client) ≡ false → IsServed r s → IsServed r (with_queuer s q)
joined_served r s q e h = list_any-append (λ (x : Queuer). is_seat (decide r s x.client)) s.queue (q ∷ []) ∙ rw (h, e) refl

offered_served : (r : Rules) (s : State) (q : Queuer) (d : Decision) → decide r s q.client ≡ d → IsServed r s → IsServed r (with_offer s q d)
offered_served r s q (Retake charge) e h = still_served r s (with_seat_again s q.party q.client charge false) s.queue (reseated_fuller r s q.party q.client charge false (retakes r s q.client charge e)) h
offered_served r s q (Grant charge) e h = still_served r s (with_seat s q.party q.client charge false) s.queue (seated_fuller r s q.party q.client charge false) h
offered_served r s q other e h = joined_served r s q (ap is_seat e) h

served_all : (r : Rules) (s : State) (qs : List Queuer) → IsServed r s → IsServed r (serve r s qs)
served_all r s [] h = h
served_all r s (q ∷ qs) h = served_all r (with_offer s q (decide r s q.client)) qs (offered_served r s q (decide r s q.client) refl h)

-- right after settling nobody waits who could have a seat
pub settled_served : (r : Rules) (s : State) (moment : ℕ) → IsServed r (settle r s moment)
settled_served r s moment = served_all r (record (timely r s moment) { queue = [] }) s.queue refl
