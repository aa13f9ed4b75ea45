-- Each entry that its desk makes leaves the desks where the log's entries so far leave them.
use Rattle.std.proofs.Common.{◌≡◌, ◌≢◌, ℕ, zero, suc, ◌+◌, ◌<◌, ◌≤◌, ◌^◌, true, false, nat_lt, List, [], ◌∷◌, ◌++◌, flat_map, get_or, length, map, take, set, refl, sym, ap, ◌∙◌, subst, ⊎_elim, arith, append-nil}
use Rattle.std.proofs.lemmas.Bool.{and_parts, cases_eq, eq-eqb, ltb-true, ne_eqb}
use Rattle.std.proofs.lemmas.List.{get_or-set_other, get_or-set_same, length-append, length-map, length-set, map-append, take_more}
use Rattle.std.specs.List.{list_all}
use Rattle.options_machine.specs.Rules.{Rules}
use Rattle.options_machine.specs.Run.{AsksForSet, Follows, IsRun, after}
use Rattle.options_machine.specs.State.{State, opening, set_at}
use Rattle.options_machine.specs.Step.{step}
use Rattle.options_machine.specs.declared.reply.Entry.{Entry}
use Rattle.options_machine.proofs.Counts.{length-filter_le}
use Rattle.options_machine.proofs.Moments.{now_after}
use Rattle.options_machine.proofs.Runs.{after-snoc, run_last, run_lawful, run_more}
use Rattle.audit_log.specs.declared.reading.Logged.{Logged}
use Rattle.log_audit.specs.Audit.{ArePlaces, Holds, IsFirstBad, IsRunLog, IsRunOf, entry_of, is_of_pool, of_pool}
use Rattle.log_audit.specs.Desks.{IsExpected, IsNext, IsSmall, request_asked, days_so_far, with_next}
use Rattle.log_audit.specs.Kept.{AreSummed, StandAll, StandsAt, sets_at}
use Rattle.log_audit.specs.Log.{is_fit}
use Rattle.log_audit.specs.Running.{days_with_entry}
use Rattle.log_audit.specs.Usage.{pool_usage, usage, usage_from}
use Rattle.log_audit.specs.declared.day_sum.DaySum.{DaySum}
use Rattle.log_audit.specs.declared.desk.Desk.{Desk}
use Rattle.log_audit.specs.declared.desk.Expected.{Expected}
use Rattle.log_audit.specs.declared.log.Numbered.{Numbered}
use Rattle.log_audit.proofs.Usages.{held_to, filter_one, small_sum, stretch_to, summed_more, told}

-- Places.

places_more : (n : ℕ) (xs : List Numbered) (x : Numbered) → ArePlaces n xs → x.logged.place ≡ n + length xs → ArePlaces n (xs ++ x ∷ [])
places_more n [] x h e = (let same : n + 0 ≡ n = omega arith in e ∙ same, tt)
places_more n (y ∷ ys) x h e = (h.0, places_more (n + 1) ys x h.1 (let same : n + suc (length ys) ≡ n + 1 + length ys = omega arith in e ∙ same))

place_last : (n : ℕ) (xs : List Numbered) (x : Numbered) → ArePlaces n (xs ++ x ∷ []) → x.logged.place ≡ n + length xs
place_last n [] x h = let same : n ≡ n + 0 = omega arith in h.0 ∙ same
place_last n (y ∷ ys) x h = let same : n + 1 + length ys ≡ n + suc (length ys) = omega arith in place_last (n + 1) ys x h.1 ∙ same

-- One pool.

-- an entry that the desk makes follows
follows_next : (sets : List Rules) (pool : ℕ) (xs : List Numbered) (d : Desk) (x : Logged) → StandsAt sets pool xs d → x.entry.moment < 2 ^ 40 → IsNext d x → Follows sets (after sets (map entry_of xs)) x.entry
follows_next sets pool xs d x k small n = record {
  later = subst (λ (s : State). s.now ≤ x.entry.moment) k.reached n.later;
  within = small;
  fits = subst (λ (rs : List Rules). AsksForSet rs x.entry.request) k.rules n.fits;
  reply = n.reply ∙ (ap (λ (s : State). (step d.book.sets s x.entry.request x.entry.moment).0) k.reached
      ∙ ap (λ (rs : List Rules). (step rs (after sets (map entry_of xs)) x.entry.request x.entry.moment).0) k.rules);
}

-- and an entry that follows is the one that the desk makes
next_follows : (sets : List Rules) (pool : ℕ) (xs : List Numbered) (d : Desk) (x : Logged) → StandsAt sets pool xs d → x.place ≡ length xs → Follows sets (after sets (map entry_of xs)) x.entry → IsNext d x
next_follows sets pool xs d x k at f = record {
  place = at ∙ sym k.counted;
  later = subst (λ (s : State). s.now ≤ x.entry.moment) (sym k.reached) f.later;
  fits = subst (λ (rs : List Rules). AsksForSet rs x.entry.request) (sym k.rules) f.fits;
  reply = f.reply ∙ sym (ap (λ (s : State). (step d.book.sets s x.entry.request x.entry.moment).0) k.reached
      ∙ ap (λ (rs : List Rules). (step rs (after sets (map entry_of xs)) x.entry.request x.entry.moment).0) k.rules);
}

run_and_one : (sets : List Rules) (pool : ℕ) (xs : List Numbered) (d : Desk) (x : Numbered) → StandsAt sets pool xs d → x.logged.entry.moment < 2 ^ 40 → IsNext d x.logged → IsRunOf sets (xs ++ x ∷ [])
run_and_one sets pool xs d x k small n = record {
  run = subst (IsRun sets) (sym (map-append entry_of xs (x ∷ []))) (run_more sets opening (map entry_of xs) (entry_of x) k.run.run (follows_next sets pool xs d x.logged k small n));
  places = places_more 0 xs x k.run.places (let same : length xs ≡ 0 + length xs = omega arith in n.place ∙ k.counted ∙ same);
}

-- no more seats are held than the pool has
few_held : (sets : List Rules) (pool : ℕ) (xs : List Numbered) (d : Desk) → StandsAt sets pool xs d → length (after sets (map entry_of xs)).holders ≤ 65535
few_held sets pool xs d k =
    let within = (run_lawful sets (set_at sets 0).count (map entry_of xs) k.lawful k.run.run).within in
    let few = k.few in
    omega arith

-- a desk's numbers are small
small_desk : (sets : List Rules) (pool : ℕ) (xs : List Numbered) (d : Desk) → StandsAt sets pool xs d → IsSmall d
small_desk sets pool xs d k =
    let same = ap (λ (s : State). s.now) k.reached in
    let seats = ap (λ (s : State). length s.holders) k.reached in
    let entries : d.entries ≡ length (map entry_of xs) = k.counted ∙ sym (length-map xs entry_of) in
    record {
      now = omega (arith, same, now_after sets (map entry_of xs) k.run.run);
      held = omega (arith, seats, few_held sets pool xs d k);
      last = small_sum sets pool (map entry_of xs) d.days.over d.days.last d.entries d.book.state.now entries same k.summed;
    }

-- its days stay summed
days_more : (sets : List Rules) (xs : List Numbered) (d : Desk) (x : Numbered) → StandsAt sets x.logged.pool xs d → x.logged.entry.moment < 2 ^ 40 → IsNext d x.logged
    → AreSummed sets x.logged.pool (map entry_of (xs ++ x ∷ [])) (with_next d x.logged).days
days_more sets xs d x k small n =
    let pool = x.logged.pool in
    let e = x.logged.entry in
    let P : List Rules → State → Type 0 = λ rs s. AreSummed sets pool (map entry_of (xs ++ x ∷ []))
    (days_with_entry d.days pool (record { from = s.now; until = e.moment; held = length s.holders }) (length (step rs s e.request e.moment).1.holders) e.reply) in
    let later = subst (λ (s : State). s.now ≤ e.moment) k.reached n.later in
    let there : P sets (after sets (map entry_of xs)) =
    subst (λ (es : List Entry). AreSummed sets pool es (days_with_entry d.days pool (stretch_to sets (map entry_of xs) e) (held_to sets (map entry_of xs) e) e.reply)) (sym (map-append entry_of xs (x ∷ [])))
    (summed_more sets pool (map entry_of xs) d.days e later small (few_held sets pool xs d k) k.summed) in
    subst (λ (rs : List Rules). P rs d.book.state) (sym k.rules) (subst (P sets) (sym k.reached) there)

-- the desk stands behind an entry that it made
stands_more : (sets : List Rules) (xs : List Numbered) (d : Desk) (x : Numbered) → StandsAt sets x.logged.pool xs d → x.logged.entry.moment < 2 ^ 40 → IsNext d x.logged → StandsAt sets x.logged.pool (xs ++ x ∷ []) (with_next d x.logged)
stands_more sets xs d x k small n = record {
  rules = k.rules;
  parties = k.parties;
  reached = ap (λ (s : State). (step d.book.sets s x.logged.entry.request x.logged.entry.moment).1) k.reached
      ∙ (ap (λ (rs : List Rules). (step rs (after sets (map entry_of xs)) x.logged.entry.request x.logged.entry.moment).1) k.rules
      ∙ (sym (after-snoc sets opening (map entry_of xs) (entry_of x)) ∙ ap (after sets) (sym (map-append entry_of xs (x ∷ [])))));
  counted = let n : d.entries ≡ length xs = k.counted in omega (arith, length-append xs (x ∷ []));
  run = run_and_one sets x.logged.pool xs d x k small n;
  summed = days_more sets xs d x k small n;
  lawful = k.lawful;
  few = k.few;
}

-- an entry that the desk doesn't make ends the run
no_run : (sets : List Rules) (pool : ℕ) (xs : List Numbered) (d : Desk) (x : Numbered) → StandsAt sets pool xs d → (IsNext d x.logged → ⊥) → IsRunOf sets (xs ++ x ∷ []) → ⊥
no_run sets pool xs d x k other r =
    let same : 0 + length xs ≡ length xs = omega arith in
    other (next_follows sets pool xs d x.logged k (place_last 0 xs x r.places ∙ same)
    (run_last sets opening (map entry_of xs) (entry_of x) (subst (IsRun sets) (map-append entry_of xs (x ∷ [])) r.run)))

-- what the desk says in its place holds there
holds_there : (sets : List Rules) (pool : ℕ) (xs : List Numbered) (d : Desk) (x : Numbered) (e : Expected) → StandsAt sets pool xs d → IsExpected d x.logged e → Holds sets xs (entry_of x) e.place e.moment e.reply
holds_there sets pool xs d x e k s =
    let P : List Rules → State → Type 0 = λ rs st.
    (e.moment ≡ (step rs st (request_asked (length rs) x.logged.entry.request) x.logged.entry.moment).1.now)
    × (e.reply ≡ (step rs st (request_asked (length rs) x.logged.entry.request) x.logged.entry.moment).0) in
    let p : P sets (after sets (map entry_of xs)) = subst (λ (rs : List Rules). P rs (after sets (map entry_of xs))) k.rules (subst (P d.book.sets) k.reached (s.used, s.reply)) in
    record {
      counted = s.place ∙ k.counted;
      used = p.0;
      reply = p.1;
    }

-- All pools.

-- the entries of its own pool, with it
own_more : (xs : List Numbered) (x : Numbered) → of_pool x.logged.pool (xs ++ x ∷ []) ≡ of_pool x.logged.pool xs ++ x ∷ []
own_more xs x = filter_one (is_of_pool x.logged.pool) xs x true (eq-eqb x.logged.pool x.logged.pool refl)

-- those of another pool are as they were
other_same : (pool : ℕ) (xs : List Numbered) (x : Numbered) → pool ≢ x.logged.pool → of_pool pool (xs ++ x ∷ []) ≡ of_pool pool xs
other_same pool xs x other = filter_one (is_of_pool pool) xs x false (ne_eqb x.logged.pool pool (λ e. other (sym e))) ∙ append-nil (of_pool pool xs)

-- each desk stands behind one entry more, which its own made
pub all_more : (pools : List (List Rules)) (xs : List Numbered) (desks : List Desk) (x : Numbered) (d made : Desk) → StandAll pools xs desks → x.logged.pool < length desks → x.logged.entry.moment < 2 ^ 40
    → IsNext (get_or desks x.logged.pool d) x.logged → made ≡ with_next (get_or desks x.logged.pool d) x.logged → StandAll pools (xs ++ x ∷ []) (set desks x.logged.pool made)
all_more pools xs desks x d made k within small next then = record {
  many = length-set desks x.logged.pool made ∙ k.many;
  each = λ pool o low. let inside : pool < length desks = subst (λ (n : ℕ). pool < n) (length-set desks x.logged.pool made) low in
      ⊎_elim
      (λ (same : pool ≡ x.logged.pool).
      let after_it : StandsAt (get_or pools x.logged.pool []) x.logged.pool (of_pool x.logged.pool xs ++ x ∷ []) (with_next (get_or desks x.logged.pool d) x.logged) =
      stands_more (get_or pools x.logged.pool []) (of_pool x.logged.pool xs) (get_or desks x.logged.pool d) x (k.each x.logged.pool d within) small next in
      let at_it : StandsAt (get_or pools x.logged.pool []) x.logged.pool (of_pool x.logged.pool (xs ++ x ∷ [])) (get_or (set desks x.logged.pool made) x.logged.pool o) =
      subst (StandsAt (get_or pools x.logged.pool []) x.logged.pool (of_pool x.logged.pool (xs ++ x ∷ []))) (sym (get_or-set_same desks x.logged.pool made o within ∙ then))
      (subst (λ (l : List Numbered). StandsAt (get_or pools x.logged.pool []) x.logged.pool l (with_next (get_or desks x.logged.pool d) x.logged)) (sym (own_more xs x)) after_it) in
      subst (λ (i : ℕ). StandsAt (get_or pools i []) i (of_pool i (xs ++ x ∷ [])) (get_or (set desks x.logged.pool made) i o)) (sym same) at_it)
      (λ (other : pool ≢ x.logged.pool).
      subst (λ (l : List Numbered). StandsAt (get_or pools pool []) pool l (get_or (set desks x.logged.pool made) pool o)) (sym (other_same pool xs x other))
      (subst (StandsAt (get_or pools pool []) pool (of_pool pool xs)) (sym (get_or-set_other desks x.logged.pool pool made o other)) (k.each pool o inside)))
      (cases_eq pool x.logged.pool);
}

run_of : (pools : List (List Rules)) (xs : List Numbered) (desks : List Desk) (pool : ℕ) → StandAll pools xs desks → pool < length desks → IsRunOf (get_or pools pool []) (of_pool pool xs)
run_of pools xs [] pool k low = absurd (omega arith)
run_of pools xs (d ∷ desks) pool k low = (k.each pool d low).run

-- the desks stand for a log that is a run
pub runs_all : (pools : List (List Rules)) (xs : List Numbered) (desks : List Desk) → StandAll pools xs desks → IsRunLog pools xs
runs_all pools xs desks k pool low = let inside : pool < length desks = subst (λ (n : ℕ). pool < n) (sym k.many) low in run_of pools xs desks pool k inside

-- the first entry that its desk doesn't make
pub first_bad : (pools : List (List Rules)) (xs log rest : List Numbered) (desks : List Desk) (x : Numbered) (d : Desk) (e : Expected) → StandAll pools xs desks → x.logged.pool < length desks
    → log ≡ xs ++ x ∷ rest → (IsNext (get_or desks x.logged.pool d) x.logged → ⊥) → IsExpected (get_or desks x.logged.pool d) x.logged e → IsFirstBad pools log x.line e.place e.moment e.reply
first_bad pools xs log rest desks x d e k within cut other says =
    let here = k.each x.logged.pool d within in
    record {
      before = xs;
      bad = x;
      rest = rest;
      log = cut;
      runs = runs_all pools xs desks k;
      ends = λ run. no_run (get_or pools x.logged.pool []) x.logged.pool (of_pool x.logged.pool xs) (get_or desks x.logged.pool d) x here other
          (subst (IsRunOf (get_or pools x.logged.pool [])) (own_more xs x) (run x.logged.pool (subst (λ (n : ℕ). x.logged.pool < n) k.many within)));
      shown = refl;
      holds = holds_there (get_or pools x.logged.pool []) x.logged.pool (of_pool x.logged.pool xs) (get_or desks x.logged.pool d) x e here says;
    }

-- the desks tell the usage of their pools, of which the first has this number
told_from : (first : ℕ) (pools : List (List Rules)) (xs : List Numbered) (desks : List Desk) → length desks ≡ length pools
    → ((i : ℕ) (d : Desk) → i < length desks → StandsAt (get_or pools i []) (first + i) (of_pool (first + i) xs) (get_or desks i d)) → flat_map days_so_far desks ≡ usage_from first pools xs
told_from first [] xs [] many each = refl
told_from first [] xs (d ∷ desks) many each = absurd (omega arith)
told_from first (sets ∷ pools) xs [] many each = absurd (omega arith)
told_from first (sets ∷ pools) xs (d ∷ desks) many each =
    let own : first + 0 ≡ first = omega arith in
    let here : StandsAt sets first (of_pool first xs) d = subst (λ (i : ℕ). StandsAt sets i (of_pool i xs) d) own (each 0 d (omega arith)) in
    let behind : (i : ℕ) (o : Desk) → i < length desks → StandsAt (get_or pools i []) (first + 1 + i) (of_pool (first + 1 + i) xs) (get_or desks i o) =
    λ i o low. (let next : first + suc i ≡ first + 1 + i = omega arith in
    subst (λ (n : ℕ). StandsAt (get_or pools i []) n (of_pool n xs) (get_or desks i o)) next (each (suc i) o (omega arith))) in
    let others = told_from (first + 1) pools xs desks (omega arith) behind in
    ap (λ (l : List DaySum). l ++ flat_map days_so_far desks) (told sets first (map entry_of (of_pool first xs)) d.days here.summed)
    ∙ ap (λ (l : List DaySum). pool_usage sets first (map entry_of (of_pool first xs)) ++ l) others

pub told_all : (pools : List (List Rules)) (xs : List Numbered) (desks : List Desk) → StandAll pools xs desks → flat_map days_so_far desks ≡ usage pools xs
told_all pools xs desks k =
    told_from 0 pools xs desks k.many (λ i d low. let same : i ≡ 0 + i = omega arith in subst (λ (n : ℕ). StandsAt (get_or pools i []) n (of_pool n xs) (get_or desks i d)) same (k.each i d low))

-- each desk's numbers are small
pub small_at : (pools : List (List Rules)) (xs : List Numbered) (desks : List Desk) (pool : ℕ) (d : Desk) → StandAll pools xs desks → pool < length desks → IsSmall (get_or desks pool d)
small_at pools xs desks pool d k low = small_desk (get_or pools pool []) pool (of_pool pool xs) (get_or desks pool d) (k.each pool d low)

-- no desk has more entries than there were
few_entries : (pools : List (List Rules)) (xs : List Numbered) (desks : List Desk) (pool : ℕ) (d : Desk) → StandAll pools xs desks → pool < length desks → (get_or desks pool d).entries ≤ length xs
few_entries pools xs desks pool d k low =
    let n : (get_or desks pool d).entries ≡ length (of_pool pool xs) = (k.each pool d low).counted in
    let few : length (of_pool pool xs) ≤ length xs = length-filter_le (is_of_pool pool) xs in
    omega arith

-- The log, entry by entry.

-- what an entry of the log has
pub record IsFit (pools : ℕ) (x : Numbered) : Type 0 where
  pub pool : x.logged.pool < pools
  pub moment : x.logged.entry.moment < 2 ^ 40

fit_one : (pools : ℕ) (x : Numbered) → is_fit pools x ≡ true → IsFit pools x
fit_one pools x h =
    let parts = and_parts (nat_lt x.logged.pool pools) _ h in
    record {
      pool = ltb-true x.logged.pool pools parts.0;
      moment = ltb-true x.logged.entry.moment (2 ^ 40) (and_parts (nat_lt x.logged.entry.moment (2 ^ 40)) _ parts.1).0;
    }

pub fit_at : (pools : ℕ) (log : List Numbered) (i : ℕ) (x : Numbered) → list_all (is_fit pools) log ≡ true → i < length log → x ≡ get_or log i x → IsFit pools x
fit_at pools [] i x h low is = absurd (omega arith)
fit_at pools (y ∷ ys) zero x h low is = subst (IsFit pools) (sym is) (fit_one pools y (and_parts (is_fit pools y) _ h).0)
fit_at pools (y ∷ ys) (suc i) x h low is = fit_at pools ys i x (and_parts (is_fit pools y) _ h).1 (omega arith) is

-- the log is the entries before, this one, and others
pub cut_at : (log : List Numbered) (i : ℕ) (x : Numbered) → i < length log → x ≡ get_or log i x → (rest : List Numbered) × (log ≡ take i log ++ x ∷ rest)
cut_at [] i x low is = absurd (omega arith)
cut_at (y ∷ ys) zero x low is = (ys, ap (λ (z : Numbered). z ∷ ys) (sym is))
cut_at (y ∷ ys) (suc i) x low is = let c = cut_at ys i x (omega arith) is in (c.0, ap (λ (l : List Numbered). y ∷ l) c.1)

pub next_taken : (log : List Numbered) (i : ℕ) (x : Numbered) → i < length log → x ≡ get_or log i x → take (i + 1) log ≡ take i log ++ x ∷ []
next_taken log i x low is = take_more log i x low ∙ ap (λ (y : Numbered). take i log ++ y ∷ []) (sym is)

pub all_taken : (log : List Numbered) (i : ℕ) → length log ≤ i → take i log ≡ log
all_taken [] zero h = refl
all_taken [] (suc i) h = refl
all_taken (y ∷ ys) zero h = absurd (omega arith)
all_taken (y ∷ ys) (suc i) h = ap (λ (l : List Numbered). y ∷ l) (all_taken ys i (omega arith))

-- an entry's pool has its desk
pub pool_at : (old desks : List Desk) (xs log : List Numbered) (i : ℕ) (x : Numbered) → StandAll (map sets_at old) xs desks → list_all (is_fit (length old)) log ≡ true → i < length log → x ≡ get_or log i x
    → x.logged.pool < length desks
pool_at old desks xs log i x k fit low is =
    subst (λ (n : ℕ). x.logged.pool < n) (sym (k.many ∙ length-map old sets_at)) (fit_at (length old) log i x fit low is).pool

pub take_short : (i : ℕ) (xs : List Numbered) → length (take i xs) ≤ i
take_short zero xs = omega arith
take_short (suc i) [] = omega arith
take_short (suc i) (x ∷ xs) = let h = take_short i xs in omega arith

-- so far a desk has no more entries than the log
pub few_at : (pools : List (List Rules)) (log : List Numbered) (i : ℕ) (desks : List Desk) (pool : ℕ) (d : Desk) → StandAll pools (take i log) desks → pool < length desks → (get_or desks pool d).entries ≤ i
few_at pools log i desks pool d k low = let few = few_entries pools (take i log) desks pool d k low in let short = take_short i log in omega arith
