use Rattle.std.proofs.Common.{◌≡◌, ℕ, ◌+◌, ◌<◌, ◌≤◌, Bool, true, false, cond, List, [], ◌∷◌, ◌++◌, length, refl, ◌∙◌, arith, suc, zero, ltb, leb, eqb, not, map, filter, length-append, ap}
use Rattle.std.specs.List.{count_by}
use Rattle.lic_types.specs.declared.client.Client.{Client}
use Rattle.lic_types.specs.declared.limits.TheConstants.{LINGER_LIMIT}
use Rattle.options_machine.specs.declared.decision.Decision.{Decision}
use Rattle.options_machine.specs.declared.decision.Decision.TheVariants.{Retake, Grant}
use Rattle.options_machine.specs.declared.effect.Effect.{Effect}
use Rattle.options_machine.specs.declared.effect.Effect.TheVariants.{Nothing, Tell, Linger, Unqueue, Seat, Reseat, Join}
use Rattle.options_machine.specs.declared.rows.Holder.{Holder}
use Rattle.options_machine.specs.declared.rows.Lingerer.{Lingerer}
use Rattle.options_machine.specs.declared.rows.Queuer.{Queuer}
use Rattle.options_machine.specs.Rules.{Rules}
use Rattle.options_machine.specs.State.{State, entries, is_holder, is_queuer}
use Rattle.options_machine.specs.Decide.{decide, is_left_by}
use Rattle.options_machine.specs.Settle.{later_moment, serve, settle, timely, with_offer, without_first}
use Rattle.options_machine.specs.Apply.{Fits, apply, told_if}
use Rattle.options_machine.specs.Step.{holders_anew, with_charges_anew}
use Rattle.options_machine.specs.Kept.{IsBounded, entries_by}
use Rattle.options_machine.proofs.Counts.{count-cons, count-append, count-push, count-filter_le, length-filter_le, count-map, count-mapped}
use Rattle.options_machine.proofs.Steps.{apply_now, length_lingering_anew, settle_now, parties_anew, told_party}
use Rattle.std.proofs.lemmas.Bool.Decides.{nat_tests}
use Rattle.std.proofs.lemmas.List.Filters.{length-filter_both}
use Rattle.std.proofs.lemmas.List.{length-map}
use Rattle.options_machine.proofs.Keeps.{timed_count, entries-seated}
use Rattle.std.proofs.lemmas.List.Sums.{length-filter}

-- distinct numbers below n are at most n

below : (n : ℕ) (xs : List ℕ) → count_by (leb n) (filter (λ y. not (eqb y n)) xs) ≤ count_by (leb (suc n)) xs
below n [] = omega arith
below n (x ∷ xs) = grind (arith, nat_tests, below n xs, count-cons (leb (suc n)) x xs, count-cons (leb n) x (filter (λ y. not (eqb y n)) xs))

all_above : (xs : List ℕ) → count_by (leb 0) xs ≡ length xs
all_above [] = refl
all_above (x ∷ xs) = grind (arith, nat_tests, all_above xs, count-cons (leb 0) x xs)

pub pigeonhole : (n : ℕ) (xs : List ℕ) → ((p : ℕ) → count_by (λ y. eqb y p) xs ≤ 1) → count_by (leb n) xs ≡ 0 → length xs ≤ n
pigeonhole zero xs single none = omega (arith, all_above xs, none)
pigeonhole (suc n) xs single none =
    let is : ℕ → Bool = λ y. eqb y n in
    let others : List ℕ = filter (λ y. not (is y)) xs in
    let rest : length others ≤ n = pigeonhole n others (λ p. omega (arith, single p, count-filter_le (λ y. eqb y p) (λ y. not (is y)) xs)) (omega (arith, below n xs, none)) in
    let parts : length (filter is xs) + length others ≡ length xs = length-filter_both is (λ y. not (is y)) (λ y. refl) xs in
    omega (arith, rest, parts, length-filter is xs, single n)

-- the parties of a state

parties_of : State → List ℕ
parties_of s = map (λ (h : Holder). h.party) s.holders ++ map (λ (q : Queuer). q.party) s.queue

entries_of_parties : (test : ℕ → Bool) (s : State) → count_by test (parties_of s) ≡ entries_by test s
unfolding parties_of
entries_of_parties test s =
    let both : _ ≡ _ = count-append test (map (λ (h : Holder). h.party) s.holders) (map (λ (q : Queuer). q.party) s.queue) in
    omega (arith, both, count-mapped test (λ (h : Holder). h.party) s.holders, count-mapped test (λ (q : Queuer). q.party) s.queue)

length_of_parties : (s : State) → length (parties_of s) ≡ length s.holders + length s.queue
unfolding parties_of
length_of_parties s = simp (length-append, length-map)

-- a book of n parties has at most n entries of holders and queue together
pub entries_fit : (n : ℕ) (s : State) → ((p : ℕ) → entries s p ≤ 1) → entries_by (leb n) s ≡ 0 → length s.holders + length s.queue ≤ n
entries_fit n s single none =
    let all : length (parties_of s) ≤ n = pigeonhole n (parties_of s) (λ p. omega (arith, single p, entries_of_parties (λ y. eqb y p) s)) (entries_of_parties (leb n) s ∙ none) in
    omega (arith, all, length_of_parties s)

-- where a party has no entry, there is room for one more
pub entry_fits : (n : ℕ) (s : State) (party : ℕ) → party < n → entries s party ≡ 0 → ((p : ℕ) → entries s p ≤ 1) → entries_by (leb n) s ≡ 0 → length s.holders + length s.queue < n
entry_fits n s party within none single out =
    let beside : (p : ℕ) → count_by (λ y. eqb y p) (party ∷ parties_of s) ≤ 1 = λ p.
    let here : party ≡ p → entries s party ≡ entries s p = ap (entries s) in
    grind (arith, nat_tests, here, single p, count-cons (λ y. eqb y p) party (parties_of s), entries_of_parties (λ y. eqb y p) s) in
    let outside : count_by (leb n) (party ∷ parties_of s) ≡ 0 = grind (arith, nat_tests, count-cons (leb n) party (parties_of s), entries_of_parties (leb n) s) in
    omega (arith, pigeonhole n (party ∷ parties_of s) beside outside, length_of_parties s)

-- parties stay: who was in neither list is in neither, but for the party that asks

by_offered : (test : ℕ → Bool) (s : State) (q : Queuer) (d : Decision) → entries_by test (with_offer s q d) ≡ entries_by test s + cond (test q.party) 1 0
by_offered test s q (Retake charge) = entries-seated (record s { lingering = without_first (is_left_by q.client) s.lingering }) q.party q.client charge false test
by_offered test s q (Grant charge) = entries-seated s q.party q.client charge false test
by_offered test s q other = omega (arith, count-push (λ (x : Queuer). test x.party) s.queue q)

by_serve : (test : ℕ → Bool) (r : Rules) (s : State) (qs : List Queuer) → entries_by test (serve r s qs) ≡ entries_by test s + count_by (λ (q : Queuer). test q.party) qs
by_serve test r s [] = omega arith
by_serve test r s (q ∷ qs) =
    omega (arith, by_serve test r (with_offer s q (decide r s q.client)) qs, by_offered test s q (decide r s q.client), count-cons (λ (x : Queuer). test x.party) q qs)

pub by_settle : (test : ℕ → Bool) (r : Rules) (s : State) (moment : ℕ) → entries_by test (settle r s moment) ≤ entries_by test s
by_settle test r s moment = omega (arith, by_serve test r (record (timely r s moment) { queue = [] }) s.queue, timed_count (λ (h : Holder). test h.party) r.timeout (later_moment s.now moment) s.holders)

by_apply : (test : ℕ → Bool) (s : State) (party : ℕ) (client : Client) (x : Effect) → entries_by test (apply s party client x) ≤ entries_by test s + cond (test party) 1 0
by_apply test s party client Nothing = omega arith
by_apply test s party client Tell =
    let f : Holder → Holder = λ (h : Holder). told_if (is_holder party h) s.now h in
    omega (arith, count-map (λ (h : Holder). test h.party) f (λ h. ap test (told_party (is_holder party h) s.now h)) s.holders)
by_apply test s party client Unqueue = omega (arith, count-filter_le (λ (q : Queuer). test q.party) (λ (q : Queuer). not (is_queuer party q)) s.queue)
by_apply test s party client (Seat charge) = omega (arith, entries-seated s party client charge true test)
by_apply test s party client (Reseat charge) = omega (arith, entries-seated (record s { lingering = without_first (is_left_by client) s.lingering }) party client charge true test)
by_apply test s party client Join = omega (arith, count-push (λ (q : Queuer). test q.party) s.queue (record { party = party; client = client }))
by_apply test s party client other = omega (arith, count-filter_le (λ (h : Holder). test h.party) (λ (h : Holder). not (is_holder party h)) s.holders)

-- what lingers stays within its bound

without_length : {X : Type 0} (p : X → Bool) (xs : List X) → length (without_first p xs) ≤ length xs
without_length p [] = omega arith
without_length p (x ∷ xs) = grind (arith, without_length p xs)

offered_lingering : (s : State) (q : Queuer) (d : Decision) → length (with_offer s q d).lingering ≤ length s.lingering
offered_lingering s q (Retake charge) = without_length (is_left_by q.client) s.lingering
offered_lingering s q other = omega arith

serve_lingering : (r : Rules) (s : State) (qs : List Queuer) → length (serve r s qs).lingering ≤ length s.lingering
serve_lingering r s [] = omega arith
serve_lingering r s (q ∷ qs) = omega (arith, serve_lingering r (with_offer s q (decide r s q.client)) qs, offered_lingering s q (decide r s q.client))

pub settle_lingering : (r : Rules) (s : State) (moment : ℕ) → length (settle r s moment).lingering ≤ length s.lingering
settle_lingering r s moment = omega (arith, serve_lingering r (record (timely r s moment) { queue = [] }) s.queue, length-filter_le (λ (l : Lingerer). ltb (later_moment s.now moment) l.until) s.lingering)

lingering_apply : (r : Rules) (s : State) (party : ℕ) (client : Client) (x : Effect) → Fits r s party client x → length s.lingering ≤ LINGER_LIMIT → length (apply s party client x).lingering ≤ LINGER_LIMIT
lingering_apply r s party client (Linger l) (h, e, who, same, room) k = omega (arith, room, length-append s.lingering (l ∷ []))
lingering_apply r s party client (Reseat charge) f k = omega (arith, without_length (is_left_by client) s.lingering, k)
lingering_apply r s party client other f k = k

-- settling, an effect and a rereading keep a book's bounds

pub bounded_settle : (n : ℕ) (r : Rules) (s : State) (moment : ℕ) → IsBounded n s → IsBounded n (settle r s moment)
bounded_settle n r s moment b = record {
  outside = omega (arith, by_settle (leb n) r s moment, b.outside);
  lingering = omega (arith, settle_lingering r s moment, b.lingering);
  moment = omega (arith, settle_now r s moment, b.moment);
}

pub bounded_apply : (n : ℕ) (r : Rules) (s : State) (party : ℕ) (client : Client) (x : Effect) → Fits r s party client x → party < n → IsBounded n s → IsBounded n (apply s party client x)
bounded_apply n r s party client x fits within b =
    let below : leb n party ≡ false = grind (arith, nat_tests) in
    record {
      outside = omega (arith, rw below at (by_apply (leb n) s party client x), b.outside);
      lingering = lingering_apply r s party client x fits b.lingering;
      moment = omega (arith, apply_now s party client x, b.moment);
    }

pub bounded_anew : (n : ℕ) (r : Rules) (s : State) → IsBounded n s → IsBounded n (with_charges_anew r s)
bounded_anew n r s b = record {
  outside = omega (arith, parties_anew (leb n) r [] s.holders, b.outside);
  lingering = omega (arith, length_lingering_anew r (map (λ (h : Holder). h.charge) (holders_anew r [] s.holders)) s.lingering, b.lingering);
  moment = b.moment;
}
