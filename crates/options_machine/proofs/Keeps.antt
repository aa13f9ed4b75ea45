use Rattle.std.proofs.Common.{◌≡◌, ℕ, ◌+◌, ◌-◌, ◌<◌, ◌≤◌, Bool, true, false, cond, List, [], ◌∷◌, ◌++◌, length, refl, sym, arith, subst, ltb, eqb, not, Option, None, Some, map, filter, length-append, ap}
use Rattle.std.proofs.lemmas.List.{length-map}
use Rattle.std.specs.List.{count_by, find, sum_by}
use Rattle.std.specs.Option.{option_map}
use Rattle.std.proofs.lemmas.List.Filters.{length-filter_both}
use Rattle.std.proofs.lemmas.List.Sums.{length-filter, sum_by-cons}
use Rattle.std.proofs.lemmas.Bool.{eq-eqb, ltb-true}
use Rattle.lic_types.specs.declared.client.Client.{Client}
use Rattle.options_machine.specs.declared.decision.Decision.{Decision}
use Rattle.options_machine.specs.declared.decision.Decision.TheVariants.{Retake, Grant}
use Rattle.options_machine.specs.declared.limits.Limit.{Limit}
use Rattle.options_machine.specs.declared.reply.Charge.{Charge}
use Rattle.options_machine.specs.declared.reply.Charge.TheVariants.{Reserve, Open}
use Rattle.options_machine.specs.declared.rows.Holder.{Holder}
use Rattle.options_machine.specs.declared.rows.Lingerer.{Lingerer}
use Rattle.options_machine.specs.declared.rows.Queuer.{Queuer}
use Rattle.options_machine.specs.Rules.{IsSound, Rules, cut_of}
use Rattle.options_machine.specs.State.{State, charges, entries, in_use, is_holder, is_queuer, same_charge}
use Rattle.options_machine.specs.Decide.{decide, has_room, is_left_by, number_of_limit, reserve_line_with_room}
use Rattle.options_machine.specs.Settle.{in_time, later_moment, serve, settle, timely, with_offer, with_queuer, with_seat, with_seat_again, without_first}
use Rattle.options_machine.specs.Kept.{IsKept, entries_by}
use Rattle.options_machine.proofs.Places.{length-with_holder}
use Rattle.options_machine.proofs.Counts.{count-cons, count-append, count-push, count-with_holder, count-filter_le, length-filter_le, find_passes, count-without_first, length-without_first, none_left, all_found, count-mapped}
use Rattle.std.proofs.lemmas.Bool.Decides.{nat_tests}

-- what is kept, where these entries of the queue are still to be taken
pub record Keeps (r : Rules) (s : State) (qs : List Queuer) : Type 0 where
  pub within : in_use s ≤ r.count
  pub reserved : (line : ℕ) → charges s (Reserve line) ≤ cut_of line r.reserves
  pub single : (party : ℕ) → entries s party + count_by (is_queuer party) qs ≤ 1

-- a charge has room for one more
abbrev pub FitsCharge : Rules → State → Charge → Type 0
FitsCharge r s Open = Unit {0}
FitsCharge r s (Reserve line) = charges s (Reserve line) < cut_of line r.reserves

-- one more seat

pub charges-seated : (s : State) (party : ℕ) (client : Client) (charge : Charge) (told : Bool) (c : Charge) → charges (with_seat s party client charge told) c ≡ charges s c + cond (same_charge charge c) 1 0
charges-seated s party client charge told c =
    omega (arith, count-with_holder (λ (h : Holder). same_charge h.charge c) (record { party = party; client = client; charge = charge; beat = s.now; told = told }) s.holders)

pub in_use-seated : (s : State) (party : ℕ) (client : Client) (charge : Charge) (told : Bool) → in_use (with_seat s party client charge told) ≡ in_use s + 1
in_use-seated s party client charge told = omega (arith, length-with_holder (record { party = party; client = client; charge = charge; beat = s.now; told = told }) s.holders)

pub entries-seated : (s : State) (party : ℕ) (client : Client) (charge : Charge) (told : Bool) (test : ℕ → Bool) → entries_by test (with_seat s party client charge told) ≡ entries_by test s + cond (test party) 1 0
entries-seated s party client charge told test = omega (arith, count-with_holder (λ (h : Holder). test h.party) (record { party = party; client = client; charge = charge; beat = s.now; told = told }) s.holders)

reserved_more : (r : Rules) (s : State) (charge : Charge) (line : ℕ) → FitsCharge r s charge → charges s (Reserve line) ≤ cut_of line r.reserves → charges s (Reserve line) + cond (same_charge charge (Reserve line)) 1 0 ≤ cut_of line r.reserves
reserved_more r s Open line f k = omega (arith, k)
reserved_more r s (Reserve m) line f k =
    let moved : m ≡ line → charges s (Reserve m) ≡ charges s (Reserve line) = ap (λ (n : ℕ). charges s (Reserve n)) in
    grind (arith, nat_tests, moved)

-- a seat for an entry of the queue
pub keeps_seated : (r : Rules) (s : State) (party : ℕ) (client : Client) (charge : Charge) (told : Bool) (qs qs' : List Queuer) → in_use s < r.count → FitsCharge r s charge
    → ((p : ℕ) → cond (eqb party p) 1 0 + count_by (is_queuer p) qs' ≤ count_by (is_queuer p) qs) → Keeps r s qs → Keeps r (with_seat s party client charge told) qs'
keeps_seated r s party client charge told qs qs' u f q k = record {
  within = omega (arith, in_use-seated s party client charge told, u);
  reserved = λ line. omega (arith, charges-seated s party client charge told (Reserve line), reserved_more r s charge line f (k.reserved line));
  single = λ p. omega (arith, entries-seated s party client charge told (λ y. eqb y p), q p, k.single p);
}

-- a seat that lingers

-- an entry lingers for the client
abbrev pub LingersFor : State → Client → Charge → Type 0
LingersFor s client charge = (l : Lingerer) × (find (is_left_by client) s.lingering ≡ Some l) × (l.charge ≡ charge)

pub charges-reseated : (s : State) (party : ℕ) (client : Client) (charge : Charge) (told : Bool) (c : Charge) → LingersFor s client charge → charges (with_seat_again s party client charge told) c ≡ charges s c
charges-reseated s party client charge told c (l, e, f) =
    let more : _ ≡ _ = count-with_holder (λ (h : Holder). same_charge h.charge c) (record { party = party; client = client; charge = charge; beat = s.now; told = told }) s.holders in
    let less : _ ≡ _ = rw f at (count-without_first (λ (x : Lingerer). same_charge x.charge c) (is_left_by client) s.lingering l e) in
    omega (arith, more, less)

pub in_use-reseated : (s : State) (party : ℕ) (client : Client) (charge : Charge) (told : Bool) → LingersFor s client charge → in_use (with_seat_again s party client charge told) ≡ in_use s
in_use-reseated s party client charge told (l, e, f) =
    omega (arith, length-with_holder (record { party = party; client = client; charge = charge; beat = s.now; told = told }) s.holders, length-without_first (is_left_by client) s.lingering l e)

pub keeps_reseated : (r : Rules) (s : State) (party : ℕ) (client : Client) (charge : Charge) (told : Bool) (qs qs' : List Queuer) → LingersFor s client charge
    → ((p : ℕ) → cond (eqb party p) 1 0 + count_by (is_queuer p) qs' ≤ count_by (is_queuer p) qs) → Keeps r s qs → Keeps r (with_seat_again s party client charge told) qs'
keeps_reseated r s party client charge told qs qs' l q k = record {
  within = omega (arith, in_use-reseated s party client charge told l, k.within);
  reserved = λ line. omega (arith, charges-reseated s party client charge told (Reserve line) l, k.reserved line);
  single = λ p. omega (arith, entries-seated (record s { lingering = without_first (is_left_by client) s.lingering }) party client charge told (λ y. eqb y p), q p, k.single p);
}

-- what the cases of a decision say

-- a grant is of the first RESERVE line with room, or of Open where there is room
abbrev pub GrantOf : Option ℕ → Bool → Charge → Type 0
GrantOf o b Open = b ≡ true
GrantOf o b (Reserve line) = o ≡ Some line

pub granted : (r : Rules) (s : State) (client : Client) (charge : Charge) → decide r s client ≡ Grant charge → GrantOf (reserve_line_with_room r s client) (ltb (charges s Open) r.free) charge
granted r s client Open e = grind arith
granted r s client (Reserve line) e = grind arith

-- a RESERVE line with room

reserve_cases : (r : Rules) (s : State) (client : Client) (line : ℕ) (o : Option Limit) → IsSound r → find (has_room r s client) r.reserves ≡ o → cond (ltb (in_use s) r.count) (option_map number_of_limit o) None ≡ Some line
    → (in_use s < r.count) × (charges s (Reserve line) < cut_of line r.reserves)
reserve_cases r s client line None g found e = grind arith
reserve_cases r s client line (Some m) g found e =
    let passes : has_room r s client m ≡ true = find_passes (has_room r s client) r.reserves m found in
    let first : eqb m.number (cut_of m.line.line r.reserves) ≡ true = all_found (has_room r s client) (λ (x : Limit). eqb x.number (cut_of x.line.line r.reserves)) r.reserves m found g.apart in
    let moved : m.line.line ≡ line → charges s (Reserve m.line.line) ≡ charges s (Reserve line) = ap (λ (n : ℕ). charges s (Reserve n)) in
    grind (arith, nat_tests, passes, first, moved)

-- a client takes back what lingers for it
pub retakes : (r : Rules) (s : State) (client : Client) (charge : Charge) → decide r s client ≡ Retake charge → LingersFor s client charge
retakes r s client charge e = grind arith

-- seats in use are charged to Open, or to RESERVE lines within their cut numbers

-- where no line has a charge, all are Open
all_open : (cs : List Charge) → ((line : ℕ) → count_by (λ (c : Charge). same_charge c (Reserve line)) cs ≤ 0) → length cs ≤ count_by (λ (c : Charge). same_charge c Open) cs + 0
all_open [] h = omega arith
all_open (Open ∷ cs) h =
    let others : (line : ℕ) → count_by (λ (c : Charge). same_charge c (Reserve line)) cs ≤ 0 = λ line. omega (arith, h line, count-cons (λ (c : Charge). same_charge c (Reserve line)) Open cs) in
    omega (arith, all_open cs others, count-cons (λ (c : Charge). same_charge c Open) Open cs)
all_open (Reserve n ∷ cs) h = grind (arith, nat_tests, h n, count-cons (λ (c : Charge). same_charge c (Reserve n)) (Reserve n) cs)

less_one : (cs : List Charge) (m : Limit) (ms : List Limit) (line : ℕ) → count_by (λ (c : Charge). same_charge c (Reserve line)) cs ≤ cut_of line (m ∷ ms)
    → count_by (λ (c : Charge). same_charge c (Reserve line)) (filter (λ (c : Charge). not (same_charge c (Reserve m.line.line))) cs) ≤ cut_of line ms
less_one cs m ms line h =
    let others : List Charge = filter (λ (c : Charge). not (same_charge c (Reserve m.line.line))) cs in
    let of : ℕ → ℕ = λ (n : ℕ). count_by (λ (c : Charge). same_charge c (Reserve n)) others in
    let moved : m.line.line ≡ line → of m.line.line ≡ of line = ap of in
    let fewer : of line ≤ _ = count-filter_le (λ (c : Charge). same_charge c (Reserve line)) (λ (c : Charge). not (same_charge c (Reserve m.line.line))) cs in
    grind (arith, nat_tests, moved, fewer, none_left (λ (c : Charge). same_charge c (Reserve m.line.line)) cs)

pub length_charged : (cs : List Charge) (ms : List Limit) → ((line : ℕ) → count_by (λ (c : Charge). same_charge c (Reserve line)) cs ≤ cut_of line ms)
    → length cs ≤ count_by (λ (c : Charge). same_charge c Open) cs + sum_by (λ (m : Limit). m.number) ms
length_charged cs [] h = all_open cs h
length_charged cs (m ∷ ms) h =
    let has : Charge → Bool = λ (c : Charge). same_charge c (Reserve m.line.line) in
    let others : List Charge = filter (λ (c : Charge). not (has c)) cs in
    let rest : length others ≤ count_by (λ (c : Charge). same_charge c Open) others + sum_by (λ (x : Limit). x.number) ms = length_charged others ms (λ line. less_one cs m ms line (h line)) in
    let here : count_by has cs ≤ m.number = rw (eq-eqb m.line.line m.line.line refl) at (h m.line.line) in
    let parts : length (filter has cs) + length others ≡ length cs = length-filter_both has (λ (c : Charge). not (has c)) (λ c. refl) cs in
    omega (arith, rest, here, parts, sum_by-cons (λ (x : Limit). x.number) m ms, length-filter has cs, count-filter_le (λ (c : Charge). same_charge c Open) (λ (c : Charge). not (has c)) cs)

-- the charges of a state, one after another
abbrev pub charges_of : List Holder → List Lingerer → List Charge
charges_of hs ls = map (λ (h : Holder). h.charge) hs ++ map (λ (l : Lingerer). l.charge) ls

pub charges_is : (s : State) (c : Charge) → count_by (λ (d : Charge). same_charge d c) (charges_of s.holders s.lingering) ≡ charges s c
charges_is s c =
    let has : Charge → Bool = λ (d : Charge). same_charge d c in
    let both : _ ≡ _ = count-append has (map (λ (h : Holder). h.charge) s.holders) (map (λ (l : Lingerer). l.charge) s.lingering) in
    omega (arith, both, count-mapped has (λ (h : Holder). h.charge) s.holders, count-mapped has (λ (l : Lingerer). l.charge) s.lingering)

in_use_is : (s : State) → length (charges_of s.holders s.lingering) ≡ in_use s
in_use_is s = simp (length-append, length-map)

-- all seats in use that aren't charged to RESERVE lines are charged to Open
pub in_use_within : (r : Rules) (s : State) → ((line : ℕ) → charges s (Reserve line) ≤ cut_of line r.reserves) → in_use s ≤ charges s Open + sum_by (λ (m : Limit). m.number) r.reserves
in_use_within r s h =
    let all : _ ≤ _ = length_charged (charges_of s.holders s.lingering) r.reserves (λ line. subst (λ (n : ℕ). n ≤ cut_of line r.reserves) (sym (charges_is s (Reserve line))) (h line)) in
    omega (arith, all, charges_is s Open, in_use_is s)

-- a grant has room

pub grants : (r : Rules) (s : State) (client : Client) (charge : Charge) → IsSound r → ((line : ℕ) → charges s (Reserve line) ≤ cut_of line r.reserves) → decide r s client ≡ Grant charge → (in_use s < r.count) × FitsCharge r s charge
grants r s client Open g h e = (omega (arith, ltb-true _ _ (granted r s client Open e), in_use_within r s h, g.parted), tt)
grants r s client (Reserve line) g h e = reserve_cases r s client line (find (has_room r s client) r.reserves) g refl (granted r s client (Reserve line) e)

-- the queue

pub taken_in_turn : (q : Queuer) (qs : List Queuer) (p : ℕ) → cond (eqb q.party p) 1 0 + count_by (is_queuer p) qs ≤ count_by (is_queuer p) (q ∷ qs)
taken_in_turn q qs p = omega (arith, count-cons (is_queuer p) q qs)

keeps_joined : (r : Rules) (s : State) (q : Queuer) (qs : List Queuer) → Keeps r s (q ∷ qs) → Keeps r (with_queuer s q) qs
keeps_joined r s q qs k = record {
  within = k.within;
  reserved = k.reserved;
  single = λ p. omega (arith, k.single p, count-push (is_queuer p) s.queue q, count-cons (is_queuer p) q qs);
}

pub keeps_offered : (r : Rules) (s : State) (q : Queuer) (qs : List Queuer) (d : Decision) → decide r s q.client ≡ d → IsSound r → Keeps r s (q ∷ qs) → Keeps r (with_offer s q d) qs
keeps_offered r s q qs (Retake charge) e g k = keeps_reseated r s q.party q.client charge false (q ∷ qs) qs (retakes r s q.client charge e) (taken_in_turn q qs) k
keeps_offered r s q qs (Grant charge) e g k =
    let room : (in_use s < r.count) × FitsCharge r s charge = grants r s q.client charge g k.reserved e in
    keeps_seated r s q.party q.client charge false (q ∷ qs) qs room.0 room.1 (taken_in_turn q qs) k
keeps_offered r s q qs other e g k = keeps_joined r s q qs k

pub keeps_serve : (r : Rules) (s : State) (qs : List Queuer) → IsSound r → Keeps r s qs → IsKept r (serve r s qs)
keeps_serve r s [] g k = record { within = k.within; reserved = k.reserved; single = λ p. omega (arith, k.single p) }
keeps_serve r s (q ∷ qs) g k = keeps_serve r (with_offer s q (decide r s q.client)) qs g (keeps_offered r s q qs (decide r s q.client) refl g k)

-- time

pub timed_count : (p : Holder → Bool) (timeout : Option ℕ) (now : ℕ) (hs : List Holder) → count_by p (in_time timeout now hs) ≤ count_by p hs
timed_count p None now hs = omega arith
timed_count p (Some t) now hs = count-filter_le p (λ (h : Holder). ltb (now - h.beat) t) hs

timed_length : (timeout : Option ℕ) (now : ℕ) (hs : List Holder) → length (in_time timeout now hs) ≤ length hs
timed_length None now hs = omega arith
timed_length (Some t) now hs = length-filter_le (λ (h : Holder). ltb (now - h.beat) t) hs

pub keeps_timely : (r : Rules) (s : State) (moment : ℕ) → IsKept r s → Keeps r (record (timely r s moment) { queue = [] }) s.queue
keeps_timely r s moment k =
    let now : ℕ = later_moment s.now moment in
    let lasting : Lingerer → Bool = λ (l : Lingerer). ltb now l.until in
    record {
      within = omega (arith, k.within, timed_length r.timeout now s.holders, length-filter_le lasting s.lingering);
      reserved = λ line. omega (arith, k.reserved line, timed_count (λ (h : Holder). same_charge h.charge (Reserve line)) r.timeout now s.holders, count-filter_le (λ (l : Lingerer). same_charge l.charge (Reserve line)) lasting s.lingering);
      single = λ p. omega (arith, k.single p, timed_count (is_holder p) r.timeout now s.holders);
    }

-- settling keeps what every step keeps
pub kept_settle : (r : Rules) (s : State) (moment : ℕ) → IsSound r → IsKept r s → IsKept r (settle r s moment)
kept_settle r s moment g k = keeps_serve r (record (timely r s moment) { queue = [] }) s.queue g (keeps_timely r s moment k)
