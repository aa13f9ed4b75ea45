use Rattle.std.proofs.Common.{◌≡◌, ℕ, ◌+◌, ◌<◌, ◌≤◌, Bool, true, false, cond, List, [], ◌∷◌, ◌++◌, length, refl, sym, ◌∙◌, arith, subst, ltb, eqb, not, ◌&&◌, Option, None, Some, map, filter, length-append, append_assoc, append-nil, ap}
use Rattle.std.specs.List.{count_by, find}
use Rattle.std.specs.Option.{option_map}
use Rattle.std.proofs.lemmas.List.{length-map}
use Rattle.std.proofs.lemmas.Bool.{eqb-true}
use Rattle.lic_types.specs.declared.client.Client.{Client}
use Rattle.options_machine.specs.declared.decision.Decision.{Decision}
use Rattle.options_machine.specs.declared.decision.Decision.TheVariants.{Barred, Retake, Grant, Full}
use Rattle.options_machine.specs.declared.decision.Place.{Place}
use Rattle.options_machine.specs.declared.decision.Place.TheVariants.{Told, Untold, Waiting, Away}
use Rattle.options_machine.specs.declared.effect.Effect.{Effect}
use Rattle.options_machine.specs.declared.effect.Effect.TheVariants.{Nothing, Tell, Release, Linger, Unqueue, Seat, Reseat, Join}
use Rattle.options_machine.specs.declared.limits.Limit.{Limit}
use Rattle.options_machine.specs.declared.reply.Ask.{Ask}
use Rattle.options_machine.specs.declared.reply.Ask.TheVariants as ask
use Rattle.options_machine.specs.declared.reply.Charge.{Charge}
use Rattle.options_machine.specs.declared.reply.Charge.TheVariants.{Reserve, Open}
use Rattle.options_machine.specs.declared.reply.Request.{Request}
use Rattle.options_machine.specs.declared.reply.Task.{Task}
use Rattle.options_machine.specs.declared.reply.Task.TheVariants.{Answer, Reread}
use Rattle.options_machine.specs.declared.rows.Holder.{Holder}
use Rattle.options_machine.specs.declared.rows.Lingerer.{Lingerer}
use Rattle.options_machine.specs.declared.rows.Queuer.{Queuer}
use Rattle.options_machine.specs.Rules.{IsSound, Rules, applies, cut_of}
use Rattle.options_machine.specs.State.{State, charges, entries, in_force, in_use, is_holder, is_queuer, place, same_charge, set_at}
use Rattle.options_machine.specs.Decide.{decide, number_of_limit}
use Rattle.options_machine.specs.Settle.{later_moment, serve, settle, timely, with_offer, with_queuer, with_seat, with_seat_again}
use Rattle.options_machine.specs.Apply.{Fits, IsPlace, apply, told_if, with_lingerer, with_told, without_holder, without_queuer}
use Rattle.options_machine.specs.Step.{answer_by_decision, answer_of, answer_of_return, entry_left, holders_anew, lingering_anew, lingers, next_charge, reserve_or_open, set_of, standing_of, step, step_of_task, task, times, with_charges_anew}
use Rattle.options_machine.specs.Run.{AsksForSet, IsBelow}
use Rattle.options_machine.specs.Law.{AreSets}
use Rattle.options_machine.specs.Kept.{IsKept}
use Rattle.options_machine.proofs.Counts.{count-cons, count-push, count-filter_le, count-filter_found, length-filter_le, count-map, count_none, find_passes, all_found}
use Rattle.options_machine.proofs.Keeps.{FitsCharge, Keeps, charges_is, grants, keeps_reseated, keeps_seated, kept_settle, retakes, taken_in_turn}
use Rattle.std.proofs.lemmas.Bool.Decides.{nat_tests}

-- where all numbers are at most what they were, what is kept stays
pub kept_less : (r : Rules) (s new : State) → in_use new ≤ in_use s → ((c : Charge) → charges new c ≤ charges s c) → ((p : ℕ) → entries new p ≤ entries s p) → IsKept r s → IsKept r new
kept_less r s new u c e k = record {
  within = omega (arith, u, k.within);
  reserved = λ line. omega (arith, c (Reserve line), k.reserved line);
  single = λ p. omega (arith, e p, k.single p);
}

-- telling a party changes no number

pub told_charge : (b : Bool) (now : ℕ) (c : Charge) (h : Holder) → same_charge (told_if b now h).charge c ≡ same_charge h.charge c
told_charge b now c h = grind arith

pub told_party : (b : Bool) (now : ℕ) (h : Holder) → (told_if b now h).party ≡ h.party
told_party b now h = grind arith

pub charges-told : (s : State) (party : ℕ) (c : Charge) → charges (with_told s party) c ≡ charges s c
charges-told s party c =
    omega (arith, count-map (λ (h : Holder). same_charge h.charge c) (λ (h : Holder). told_if (is_holder party h) s.now h) (λ h. told_charge (is_holder party h) s.now c h) s.holders)

pub charges-released : (s : State) (party : ℕ) (c : Charge) → charges (without_holder s party) c ≤ charges s c
charges-released s party c = omega (arith, count-filter_le (λ (h : Holder). same_charge h.charge c) (λ (h : Holder). not (is_holder party h)) s.holders)

-- what lingers of a holder has its charge
pub charges-left : (s : State) (party : ℕ) (h : Holder) (l : Lingerer) (c : Charge) → find (is_holder party) s.holders ≡ Some h → l.charge ≡ h.charge → charges (with_lingerer s party l) c ≤ charges s c
charges-left s party h l c e same =
    let has : Lingerer → Bool = λ (x : Lingerer). same_charge x.charge c in
    let more : count_by has (s.lingering ++ l ∷ []) ≡ count_by has s.lingering + cond (same_charge h.charge c) 1 0 = subst (λ (x : Charge). count_by has (s.lingering ++ l ∷ []) ≡ count_by has s.lingering + cond (same_charge x c) 1 0) same (count-push has s.lingering l) in
    omega (arith, more, count-filter_found (λ (x : Holder). same_charge x.charge c) (is_holder party) s.holders h e)

kept_told : (r : Rules) (s : State) (party : ℕ) → IsKept r s → IsKept r (with_told s party)
kept_told r s party k =
    let f : Holder → Holder = λ (h : Holder). told_if (is_holder party h) s.now h in
    kept_less r s (with_told s party)
    (omega (arith, length-map s.holders f))
    (λ c. omega (arith, charges-told s party c))
    (λ p. omega (arith, count-map (is_holder p) f (λ h. ap (λ y. eqb y p) (told_party (is_holder party h) s.now h)) s.holders))
    k

kept_released : (r : Rules) (s : State) (party : ℕ) → IsKept r s → IsKept r (without_holder s party)
kept_released r s party k =
    let others : Holder → Bool = λ (h : Holder). not (is_holder party h) in
    kept_less r s (without_holder s party)
    (omega (arith, length-filter_le others s.holders))
    (λ c. charges-released s party c)
    (λ p. omega (arith, count-filter_le (is_holder p) others s.holders))
    k

kept_unqueued : (r : Rules) (s : State) (party : ℕ) → IsKept r s → IsKept r (without_queuer s party)
kept_unqueued r s party k =
    let others : Queuer → Bool = λ (q : Queuer). not (is_queuer party q) in
    kept_less r s (without_queuer s party) (omega arith) (λ c. omega arith) (λ p. omega (arith, count-filter_le (is_queuer p) others s.queue)) k

-- a told holder that gives its seat back

length_all : {X : Type 0} (xs : List X) → count_by (λ (x : X). true) xs ≡ length xs
length_all [] = refl
length_all (x ∷ xs) = grind (arith, count-cons (λ (y : _). true) x xs, length_all xs)

-- its seat lingers
kept_left : (r : Rules) (s : State) (party : ℕ) (h : Holder) (l : Lingerer) → find (is_holder party) s.holders ≡ Some h → l.charge ≡ h.charge → IsKept r s → IsKept r (with_lingerer s party l)
kept_left r s party h l e same k =
    let others : List Holder = filter (λ (x : Holder). not (is_holder party x)) s.holders in
    kept_less r s (with_lingerer s party l)
    (omega (arith, length-append s.lingering (l ∷ []), length_all others, length_all s.holders, count-filter_found (λ (x : Holder). true) (is_holder party) s.holders h e))
    (λ c. charges-left s party h l c e same)
    (λ p. omega (arith, count-filter_le (is_holder p) (λ (x : Holder). not (is_holder party x)) s.holders))
    k

-- a party that has nothing has no entry
abbrev pub HasNone : State → ℕ → Type 0
HasNone s party = entries s party ≡ 0

one_at : (r : Rules) (s : State) (party : ℕ) (client : Client) (p : ℕ) (b : Bool) → eqb party p ≡ b → HasNone s party → IsKept r s → entries s p + count_by (is_queuer p) ((record { party = party; client = client }) ∷ []) ≤ 1
one_at r s party client p true e none k = let same : party ≡ p = eqb-true party p e in rw (← same) (grind (arith, count-cons (is_queuer party) (record { party = party; client = client }) []))
one_at r s party client p false e none k = grind (arith, k.single p, count-cons (is_queuer p) (record { party = party; client = client }) [])

keeps_one : (r : Rules) (s : State) (party : ℕ) (client : Client) → HasNone s party → IsKept r s → Keeps r s ((record { party = party; client = client }) ∷ [])
keeps_one r s party client none k = record {
  within = k.within;
  reserved = k.reserved;
  single = λ p. one_at r s party client p (eqb party p) refl none k;
}

kept_of : (r : Rules) (s : State) → Keeps r s [] → IsKept r s
kept_of r s k = record { within = k.within; reserved = k.reserved; single = λ p. omega (arith, k.single p) }

pub place_is : (s : State) (party : ℕ) → IsPlace s party (place s party)
place_is s party = grind arith

pub away_has_none : (s : State) (party : ℕ) → IsPlace s party Away → HasNone s party
away_has_none s party (e, f) = omega (arith, count_none (is_holder party) s.holders e, count_none (is_queuer party) s.queue f)

-- each effect of the table fits

fits_given_back : (r : Rules) (s : State) (party : ℕ) (client : Client) (h : Holder) (b : Bool) → lingers r s ≡ b → find (is_holder party) s.holders ≡ Some h → Fits r s party client (answer_of_return (entry_left r s h)).1
fits_given_back r s party client h true g e = rw g (h, e, refl, refl, grind arith)
fits_given_back r s party client h false g e = rw g (h, e)

fits_standing : (r : Rules) (s : State) (party : ℕ) (client : Client) (q : Queuer) (d : Decision) → IsPlace s party (Waiting q) → Fits r s party client (standing_of s party d).1
fits_standing r s party client q (Barred line) (e, f) = (e, (q, f))
fits_standing r s party client q other e = tt

fits_decided : (r : Rules) (s : State) (party : ℕ) (client : Client) (may_wait : Bool) (d : Decision) → decide r s client ≡ d → IsPlace s party Away → Fits r s party client (answer_by_decision r s may_wait d).1
fits_decided r s party client may_wait (Retake charge) d e = (e, d)
fits_decided r s party client may_wait (Grant charge) d e = (e, d)
fits_decided r s party client true Full d e = (e, d)
fits_decided r s party client false Full d e = tt
fits_decided r s party client may_wait other d e = tt

pub answer_fits : (r : Rules) (s : State) (party : ℕ) (client : Client) (asked : Ask) (at : Place) → IsPlace s party at → Fits r s party client (answer_of r s party client asked at).1
answer_fits r s party client ask.GiveBack (Told h) (e, t) = fits_given_back r s party client h (lingers r s) refl e
answer_fits r s party client ask.Beat (Told h) (e, t) = (h, e)
answer_fits r s party client other (Told h) e = tt
answer_fits r s party client ask.Count (Untold h) e = tt
answer_fits r s party client other (Untold h) (e, t) = (h, e)
answer_fits r s party client ask.GiveBack (Waiting q) (e, f) = (e, (q, f))
answer_fits r s party client ask.Count (Waiting q) e = tt
answer_fits r s party client other (Waiting q) e = fits_standing r s party client q (decide r s q.client) e
answer_fits r s party client (ask.Seat may_wait) Away e = fits_decided r s party client may_wait (decide r s client) refl e
answer_fits r s party client other Away e = tt

-- an effect that fits keeps what every step keeps

kept_seated : (r : Rules) (s : State) (party : ℕ) (client : Client) (charge : Charge) → decide r s client ≡ Grant charge → IsSound r → HasNone s party → IsKept r s → IsKept r (with_seat s party client charge true)
kept_seated r s party client charge e g none k =
    let room : _ × FitsCharge r s charge = grants r s client charge g k.reserved e in
    let q : Queuer = record { party = party; client = client } in
    kept_of r (with_seat s party client charge true)
    (keeps_seated r s party client charge true (q ∷ []) [] room.0 room.1 (taken_in_turn q []) (keeps_one r s party client none k))

kept_reseated : (r : Rules) (s : State) (party : ℕ) (client : Client) (charge : Charge) → decide r s client ≡ Retake charge → HasNone s party → IsKept r s → IsKept r (with_seat_again s party client charge true)
kept_reseated r s party client charge e none k =
    let q : Queuer = record { party = party; client = client } in
    kept_of r (with_seat_again s party client charge true)
    (keeps_reseated r s party client charge true (q ∷ []) [] (retakes r s client charge e) (taken_in_turn q []) (keeps_one r s party client none k))

kept_joined : (r : Rules) (s : State) (party : ℕ) (client : Client) → HasNone s party → IsKept r s → IsKept r (with_queuer s (record { party = party; client = client }))
kept_joined r s party client none k =
    let q : Queuer = record { party = party; client = client } in
    let one : Keeps r s (q ∷ []) = keeps_one r s party client none k in
    record {
      within = k.within;
      reserved = k.reserved;
      single = λ p. omega (arith, one.single p, count-push (is_queuer p) s.queue q, count-cons (is_queuer p) q []);
    }

pub kept_apply : (r : Rules) (s : State) (party : ℕ) (client : Client) (x : Effect) → Fits r s party client x → IsSound r → IsKept r s → IsKept r (apply s party client x)
kept_apply r s party client Nothing f g k = k
kept_apply r s party client Tell f g k = kept_told r s party k
kept_apply r s party client Release f g k = kept_released r s party k
kept_apply r s party client (Linger l) (h, e, who, same, room) g k = kept_left r s party h l e same k
kept_apply r s party client Unqueue f g k = kept_unqueued r s party k
kept_apply r s party client (Seat charge) (none, e) g k = kept_seated r s party client charge e g (away_has_none s party none) k
kept_apply r s party client (Reseat charge) (none, e) g k = kept_reseated r s party client charge e (away_has_none s party none) k
kept_apply r s party client Join (none, e) g k = kept_joined r s party client (away_has_none s party none) k

-- charges given anew

fits_cut : (r : Rules) (given : List Charge) (client : Client) (o : Option Limit) → find (λ (m : Limit). applies r.groups client m.line && ltb (times given m.line.line) m.number) r.reserves ≡ o → IsSound r
    → ((line : ℕ) → times given line ≤ cut_of line r.reserves) → (line : ℕ) → times (given ++ reserve_or_open (option_map number_of_limit o) ∷ []) line ≤ cut_of line r.reserves
fits_cut r given client None e g h line = omega (arith, h line, count-push (λ (c : Charge). same_charge c (Reserve line)) given Open)
fits_cut r given client (Some m) e g h line =
    let test : Limit → Bool = λ (x : Limit). applies r.groups client x.line && ltb (times given x.line.line) x.number in
    let passes : test m ≡ true = find_passes test r.reserves m e in
    let first : eqb m.number (cut_of m.line.line r.reserves) ≡ true = all_found test (λ (x : Limit). eqb x.number (cut_of x.line.line r.reserves)) r.reserves m e g.apart in
    let same : m.line.line ≡ line → times given m.line.line ≡ times given line = ap (times given) in
    grind (arith, nat_tests, passes, first, same, h line, count-push (λ (c : Charge). same_charge c (Reserve line)) given (Reserve m.line.line))

-- what was given stays within the cut numbers
abbrev pub GivenWithin : Rules → List Charge → Type 0
GivenWithin r given = (line : ℕ) → times given line ≤ cut_of line r.reserves

next_fits : (r : Rules) (given : List Charge) (client : Client) → IsSound r → GivenWithin r given → GivenWithin r (given ++ next_charge r given client ∷ [])
next_fits r given client g h = fits_cut r given client (find (λ (m : Limit). applies r.groups client m.line && ltb (times given m.line.line) m.number) r.reserves) refl g h

holders_within : (r : Rules) (given : List Charge) (hs : List Holder) → IsSound r → GivenWithin r given → GivenWithin r (given ++ map (λ (h : Holder). h.charge) (holders_anew r given hs))
holders_within r given [] g h = rw append-nil h
holders_within r given (x ∷ xs) g h =
    let c : Charge = next_charge r given x.client in
    let rest : GivenWithin r ((given ++ c ∷ []) ++ map (λ (y : Holder). y.charge) (holders_anew r (given ++ c ∷ []) xs)) = holders_within r (given ++ c ∷ []) xs g (next_fits r given x.client g h) in
    λ line. subst (λ (cs : List Charge). times cs line ≤ cut_of line r.reserves) (append_assoc given (c ∷ []) (map (λ (y : Holder). y.charge) (holders_anew r (given ++ c ∷ []) xs))) (rest line)

lingering_within : (r : Rules) (given : List Charge) (ls : List Lingerer) → IsSound r → GivenWithin r given → GivenWithin r (given ++ map (λ (l : Lingerer). l.charge) (lingering_anew r given ls))
lingering_within r given [] g h = rw append-nil h
lingering_within r given (x ∷ xs) g h =
    let c : Charge = next_charge r given x.client in
    let rest : GivenWithin r ((given ++ c ∷ []) ++ map (λ (y : Lingerer). y.charge) (lingering_anew r (given ++ c ∷ []) xs)) = lingering_within r (given ++ c ∷ []) xs g (next_fits r given x.client g h) in
    λ line. subst (λ (cs : List Charge). times cs line ≤ cut_of line r.reserves) (append_assoc given (c ∷ []) (map (λ (y : Lingerer). y.charge) (lingering_anew r (given ++ c ∷ []) xs))) (rest line)

length_holders_anew : (r : Rules) (given : List Charge) (hs : List Holder) → length (holders_anew r given hs) ≡ length hs
length_holders_anew r given [] = refl
length_holders_anew r given (h ∷ hs) = omega (arith, length_holders_anew r (given ++ next_charge r given h.client ∷ []) hs)

pub length_lingering_anew : (r : Rules) (given : List Charge) (ls : List Lingerer) → length (lingering_anew r given ls) ≡ length ls
length_lingering_anew r given [] = refl
length_lingering_anew r given (l ∷ ls) = omega (arith, length_lingering_anew r (given ++ next_charge r given l.client ∷ []) ls)

pub parties_anew : (test : ℕ → Bool) (r : Rules) (given : List Charge) (hs : List Holder) → count_by (λ (h : Holder). test h.party) (holders_anew r given hs) ≡ count_by (λ (h : Holder). test h.party) hs
parties_anew test r given [] = refl
parties_anew test r given (h ∷ hs) =
    let c : Charge = next_charge r given h.client in
    let has : Holder → Bool = λ (x : Holder). test x.party in
    omega (arith, parties_anew test r (given ++ c ∷ []) hs, count-cons has (record h { charge = c }) (holders_anew r (given ++ c ∷ []) hs), count-cons has h hs)

-- charges given anew by rules of the same count keep what every step keeps
pub kept_anew : (old r : Rules) (s : State) → IsSound r → old.count ≡ r.count → IsKept old s → IsKept r (with_charges_anew r s)
kept_anew old r s g same k =
    let hs : List Holder = holders_anew r [] s.holders in
    let given : List Charge = map (λ (h : Holder). h.charge) hs in
    let first : GivenWithin r given = holders_within r [] s.holders g (λ line. omega arith) in
    let all : GivenWithin r (given ++ map (λ (l : Lingerer). l.charge) (lingering_anew r given s.lingering)) = lingering_within r given s.lingering g first in
    record {
      within = omega (arith, length_holders_anew r [] s.holders, length_lingering_anew r given s.lingering, k.within, same);
      reserved = λ line. subst (λ (n : ℕ). n ≤ cut_of line r.reserves) (charges_is (with_charges_anew r s) (Reserve line)) (all line);
      single = λ p. omega (arith, parties_anew (λ y. eqb y p) r [] s.holders, k.single p);
    }

-- no effect changes the rule set that holds, or the moment

pub apply_set : (s : State) (party : ℕ) (client : Client) (x : Effect) → (apply s party client x).set ≡ s.set
apply_set s party client x = grind arith

pub apply_now : (s : State) (party : ℕ) (client : Client) (x : Effect) → (apply s party client x).now ≡ s.now
apply_now s party client x = grind arith

offered_same : (s : State) (q : Queuer) (d : Decision) → ((with_offer s q d).set ≡ s.set) × ((with_offer s q d).now ≡ s.now)
offered_same s q d = grind arith

-- settling changes no rule set
pub serve_set : (r : Rules) (s : State) (qs : List Queuer) → (serve r s qs).set ≡ s.set
serve_set r s [] = refl
serve_set r s (q ∷ qs) = serve_set r (with_offer s q (decide r s q.client)) qs ∙ (offered_same s q (decide r s q.client)).0

pub serve_now : (r : Rules) (s : State) (qs : List Queuer) → (serve r s qs).now ≡ s.now
serve_now r s [] = refl
serve_now r s (q ∷ qs) = serve_now r (with_offer s q (decide r s q.client)) qs ∙ (offered_same s q (decide r s q.client)).1

pub settle_set : (r : Rules) (s : State) (moment : ℕ) → (settle r s moment).set ≡ s.set
settle_set r s moment = serve_set r (record (timely r s moment) { queue = [] }) s.queue

pub settle_now : (r : Rules) (s : State) (moment : ℕ) → (settle r s moment).now ≡ later_moment s.now moment
settle_now r s moment = serve_now r (record (timely r s moment) { queue = [] }) s.queue

-- what every step keeps, of a state of rule sets
pub record IsKeptBy (sets : List Rules) (s : State) : Type 0 where
  pub set : s.set < length sets
  pub kept : IsKept (in_force sets s) s

pub kept_settled : (sets : List Rules) (count : ℕ) (s : State) (moment : ℕ) → AreSets sets count → IsKeptBy sets s → IsKeptBy sets (settle (in_force sets s) s moment)
kept_settled sets count s moment g k =
    let same : (settle (in_force sets s) s moment).set ≡ s.set = settle_set (in_force sets s) s moment in
    record {
      set = omega (arith, same, k.set);
      kept = subst (λ (n : ℕ). IsKept (set_at sets n) (settle (in_force sets s) s moment)) (sym same) (kept_settle (in_force sets s) s moment (g.sound s.set k.set) k.kept);
    }

-- the effect of an answer at a state
abbrev pub effect_at : List Rules → State → ℕ → Client → Ask → Effect
effect_at sets s party client asked = (answer_of (in_force sets s) s party client asked (place s party)).1

pub fits_at : (sets : List Rules) (s : State) (party : ℕ) (client : Client) (asked : Ask) → Fits (in_force sets s) s party client (effect_at sets s party client asked)
fits_at sets s party client asked = answer_fits (in_force sets s) s party client asked (place s party) (place_is s party)

pub kept_done : (sets : List Rules) (count : ℕ) (s : State) (party : ℕ) (client : Client) (t : Task) → IsBelow (set_of t) (length sets) → AreSets sets count → IsKeptBy sets s → IsKeptBy sets (step_of_task sets s party client t).1
kept_done sets count s party client (Answer asked) below g k =
    let x : Effect = effect_at sets s party client asked in
    let same : (apply s party client x).set ≡ s.set = apply_set s party client x in
    let kept : IsKept (in_force sets s) (apply s party client x) = kept_apply (in_force sets s) s party client x (fits_at sets s party client asked) (g.sound s.set k.set) k.kept in
    record { set = omega (arith, same, k.set); kept = subst (λ (n : ℕ). IsKept (set_at sets n) (apply s party client x)) (sym same) kept }
kept_done sets count s party client (Reread n) below g k = record {
  set = below;
  kept = kept_anew (in_force sets s) (set_at sets n) (record s { set = n }) (g.sound n below) (g.same s.set k.set ∙ sym (g.same n below)) (record { within = k.kept.within; reserved = k.kept.reserved; single = k.kept.single });
}

-- one step keeps it
pub kept_step : (sets : List Rules) (count : ℕ) (s : State) (request : Request) (moment : ℕ) → AreSets sets count → AsksForSet sets request → IsKeptBy sets s → IsKeptBy sets (step sets s request moment).1
kept_step sets count s request moment g fits k =
    kept_done sets count (settle (in_force sets s) s moment) request.party request.client (task request.kind) fits g (kept_settled sets count s moment g k)
