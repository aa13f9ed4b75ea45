use Rattle.std.proofs.Common.{◌≡◌, ℕ, ◌+◌, ◌<◌, ◌≤◌, ◌^◌, Bool, true, false, cond, List, [], ◌∷◌, length, get_or, None, refl, sym, ◌∙◌, arith, subst, leb, eqb}
use Rattle.std.specs.List.{count_by, find, remove}
use Rattle.std.proofs.lemmas.Bool.{eq-eqb}
use Rattle.std.proofs.lemmas.List.Sums.{sum_by-remove}
use Rattle.options_machine.specs.declared.decision.Decision.TheVariants.{Retake, Grant}
use Rattle.options_machine.specs.declared.reply.Charge.{Charge}
use Rattle.options_machine.specs.declared.rows.Holder.{Holder}
use Rattle.options_machine.specs.declared.rows.Queuer.{Queuer}
use Rattle.options_machine.specs.Rules.{IsSound, Rules}
use Rattle.options_machine.specs.State.{State, in_use, is_holder, is_queuer}
use Rattle.options_machine.specs.Decide.{decide, is_left_by}
use Rattle.options_machine.specs.Settle.{with_seat, with_seat_again, without_first}
use Rattle.options_machine.specs.Kept.{IsBounded, IsKept, entries_by}
use Rattle.options_machine.proofs.Counts.{count-cons, count-with_holder, length-without_first}
use Rattle.options_machine.proofs.Keeps.{FitsCharge, Keeps, LingersFor, grants, keeps_reseated, keeps_seated, retakes}

-- a queue without the entry at a place
pub count-remove : (p : Queuer → Bool) (xs : List Queuer) (at : ℕ) (q : Queuer) → at < length xs → q ≡ get_or xs at q → count_by p (remove xs at) + cond (p q) 1 0 ≡ count_by p xs
count-remove p xs at q h e = subst (λ (x : Queuer). count_by p (remove xs at) + cond (p x) 1 0 ≡ count_by p xs) (sym e) (sum_by-remove (λ x. cond (p x) 1 0) xs at q h)

one_step : {X : Type 0} (p : X → Bool) (x : X) (xs : List X) (b : Bool) → p x ≡ b → count_by p (x ∷ xs) ≡ 0 → (count_by p xs ≡ 0 → find p xs ≡ None) → find p (x ∷ xs) ≡ None
one_step p x xs true e none rest = let one : count_by p (x ∷ xs) ≡ 1 + count_by p xs = count-cons p x xs ∙ rw e refl in absurd (omega (arith, one, none))
one_step p x xs false e none rest = let zero : count_by p (x ∷ xs) ≡ 0 + count_by p xs = count-cons p x xs ∙ rw e refl in rw e (rest (omega (arith, zero, none)))

-- where there is none, none is found
pub none_found : {X : Type 0} (p : X → Bool) (xs : List X) → count_by p xs ≡ 0 → find p xs ≡ None
none_found p [] e = refl
none_found p (x ∷ xs) e = one_step p x xs (p x) refl e (none_found p xs)

-- an entry of the queue is of a party that has no seat
pub queuer_has_none : (r : Rules) (s : State) (at : ℕ) (q : Queuer) → at < length s.queue → q ≡ get_or s.queue at q → IsKept r s → find (is_holder q.party) s.holders ≡ None
queuer_has_none r s at q h e k =
    let here : is_queuer q.party q ≡ true = eq-eqb q.party q.party refl in
    let one : count_by (is_queuer q.party) (remove s.queue at) + 1 ≡ count_by (is_queuer q.party) s.queue = rw here at (count-remove (is_queuer q.party) s.queue at q h e) in
    none_found (is_holder q.party) s.holders (omega (arith, one, k.single q.party))

-- the entry that is served is one holder more and one entry of the queue less

entries_by-served : (test : ℕ → Bool) (s : State) (at : ℕ) (q : Queuer) (charge : Charge) → at < length s.queue → q ≡ get_or s.queue at q
    → entries_by test (with_seat (record s { queue = remove s.queue at }) q.party q.client charge false) ≡ entries_by test s
entries_by-served test s at q charge h e =
    omega (arith, count-with_holder (λ (x : Holder). test x.party) (record { party = q.party; client = q.client; charge = charge; beat = s.now; told = false }) s.holders, count-remove (λ (x : Queuer). test x.party) s.queue at q h e)

pub bounded_seat : (n : ℕ) (s : State) (at : ℕ) (q : Queuer) (charge : Charge) → at < length s.queue → q ≡ get_or s.queue at q → IsBounded n s → IsBounded n (with_seat (record s { queue = remove s.queue at }) q.party q.client charge false)
bounded_seat n s at q charge h e b = record { outside = entries_by-served (leb n) s at q charge h e ∙ b.outside; lingering = b.lingering; moment = b.moment }

pub bounded_seat_again : (n : ℕ) (s : State) (at : ℕ) (q : Queuer) (charge : Charge) → at < length s.queue → q ≡ get_or s.queue at q → LingersFor s q.client charge → IsBounded n s
    → IsBounded n (with_seat_again (record s { queue = remove s.queue at }) q.party q.client charge false)
bounded_seat_again n s at q charge h e (l, found, same) b = record {
  outside = entries_by-served (leb n) (record s { lingering = without_first (is_left_by q.client) s.lingering }) at q charge h e ∙ b.outside;
  lingering = omega (arith, length-without_first (is_left_by q.client) s.lingering l found, b.lingering);
  moment = b.moment;
}

-- the state without the entry, and the entry still to be taken
keeps_taken : (r : Rules) (s : State) (at : ℕ) (q : Queuer) → at < length s.queue → q ≡ get_or s.queue at q → IsKept r s → Keeps r (record s { queue = remove s.queue at }) (q ∷ [])
keeps_taken r s at q h e k = record {
  within = k.within;
  reserved = k.reserved;
  single = λ p. omega (arith, k.single p, count-remove (is_queuer p) s.queue at q h e, count-cons (is_queuer p) q []);
}

seat_in_turn : (q : Queuer) (p : ℕ) → cond (eqb q.party p) 1 0 + count_by (is_queuer p) [] ≤ count_by (is_queuer p) (q ∷ [])
seat_in_turn q p = omega (arith, count-cons (is_queuer p) q [])

kept_of : (r : Rules) (s : State) → Keeps r s [] → IsKept r s
kept_of r s k = record { within = k.within; reserved = k.reserved; single = λ p. omega (arith, k.single p) }

pub kept_seat : (r : Rules) (s : State) (at : ℕ) (q : Queuer) (charge : Charge) → at < length s.queue → q ≡ get_or s.queue at q → decide r s q.client ≡ Grant charge → IsSound r → IsKept r s
    → IsKept r (with_seat (record s { queue = remove s.queue at }) q.party q.client charge false)
kept_seat r s at q charge h e d g k =
    let room : (in_use s < r.count) × FitsCharge r s charge = grants r s q.client charge g k.reserved d in
    kept_of r (with_seat (record s { queue = remove s.queue at }) q.party q.client charge false)
    (keeps_seated r (record s { queue = remove s.queue at }) q.party q.client charge false (q ∷ []) [] room.0 room.1 (seat_in_turn q) (keeps_taken r s at q h e k))

pub kept_seat_again : (r : Rules) (s : State) (at : ℕ) (q : Queuer) (charge : Charge) → at < length s.queue → q ≡ get_or s.queue at q → decide r s q.client ≡ Retake charge → IsKept r s
    → IsKept r (with_seat_again (record s { queue = remove s.queue at }) q.party q.client charge false)
kept_seat_again r s at q charge h e d k =
    kept_of r (with_seat_again (record s { queue = remove s.queue at }) q.party q.client charge false)
    (keeps_reseated r (record s { queue = remove s.queue at }) q.party q.client charge false (q ∷ []) [] (retakes r s q.client charge d) (seat_in_turn q) (keeps_taken r s at q h e k))

-- a grant has room
pub grant_within : (r : Rules) (s : State) (q : Queuer) (charge : Charge) → decide r s q.client ≡ Grant charge → IsSound r → IsKept r s → in_use s + 1 < 2 ^ 32
grant_within r s q charge d g k =
    let room : (in_use s < r.count) × FitsCharge r s charge = grants r s q.client charge g k.reserved d in
    omega (arith, room.0, g.few)
