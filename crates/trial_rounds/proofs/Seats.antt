-- What a desk without options answers.
use Rattle.std.proofs.Common.{◌≡◌, ℕ, zero, suc, ◌<◌, ◌^◌, ◌∙◌, ◌⊎◌, inl, inr, Bool, true, false, not, ◌||◌, cond, nat_lt, List, [], ◌∷◌, ◌++◌, refl, ap, sym, subst, arith, Option, None}
use Rattle.std.specs.List.{count_by, find, list_all}
use Rattle.std.proofs.lemmas.Bool.{eqb-true}
use Rattle.std.proofs.lemmas.List.Elements.{filter-append}
use Rattle.lic_types.specs.declared.client.Client.{Client}
use Rattle.options_machine.specs.declared.decision.Decision.{Decision}
use Rattle.options_machine.specs.declared.decision.Decision.TheVariants.{Barred, Retake, Capped, Grant, Full}
use Rattle.options_machine.specs.declared.decision.Place.{Place}
use Rattle.options_machine.specs.declared.decision.Place.TheVariants.{Away}
use Rattle.options_machine.specs.declared.effect.Effect.{Effect}
use Rattle.options_machine.specs.declared.effect.Effect.TheVariants as effect
use Rattle.options_machine.specs.declared.reply.Ask.{Ask}
use Rattle.options_machine.specs.declared.reply.Ask.TheVariants as ask
use Rattle.options_machine.specs.declared.reply.Charge.{Charge}
use Rattle.options_machine.specs.declared.reply.Charge.TheVariants.{Open, Reserve}
use Rattle.options_machine.specs.declared.reply.Entry.{Entry}
use Rattle.options_machine.specs.declared.reply.Kind.{Kind}
use Rattle.options_machine.specs.declared.reply.Kind.TheVariants as kind
use Rattle.options_machine.specs.declared.reply.Reply.{Reply}
use Rattle.options_machine.specs.declared.reply.Reply.TheVariants as reply
use Rattle.options_machine.specs.declared.reply.Task.{Task}
use Rattle.options_machine.specs.declared.reply.Task.TheVariants.{Answer, Reread}
use Rattle.options_machine.specs.declared.rows.Lingerer.{Lingerer}
use Rattle.options_machine.specs.declared.rows.Queuer.{Queuer}
use Rattle.options_machine.specs.Apply.{apply}
use Rattle.options_machine.specs.Decide.{decide, unless}
use Rattle.options_machine.specs.Law.{AreSets}
use Rattle.options_machine.specs.Own.{Agrees, brings_seat, fits_holder, holds, is_entry_of, is_of_holding, is_of_queueing, is_some_of, own, queues, says_queueing, standing}
use Rattle.options_machine.specs.Rules.{IsSound, Rules}
use Rattle.options_machine.specs.Run.{Follows, IsRun, RunsFrom, after, after_entry, after_from}
use Rattle.options_machine.specs.Settle.{serve, settle, with_offer}
use Rattle.options_machine.specs.State.{State, charges, in_force, in_use, is_holder, is_queuer, opening, place, set_at}
use Rattle.options_machine.specs.Step.{answer_by_decision, answer_of, step_of_task, task}
use Rattle.policy.specs.Pools.{rules_of}
use Rattle.trial_terms.specs.Terms.{no_options, trial_pool}
use Rattle.trial_rounds.specs.Rounds.{trial_sets}
use Rattle.options_machine.proofs.Counts.{count-cons}
use Rattle.options_machine.proofs.OwnSteps.{runs_agree}
use Rattle.options_machine.proofs.Owns.{agrees_settle}
use Rattle.options_machine.proofs.Runs.{kept_run, opening_kept}
use Rattle.options_machine.proofs.Standings.{own_tells}
use Rattle.options_machine.proofs.Steps.{IsKeptBy, kept_settled, kept_step}

-- Nothing lingers where seats don't.

offered_none : (s : State) (q : Queuer) (d : Decision) → s.lingering ≡ [] → (with_offer s q d).lingering ≡ []
offered_none s q (Retake charge) e = rw e refl
offered_none s q (Grant charge) e = e
offered_none s q (Barred line) e = e
offered_none s q (Capped line) e = e
offered_none s q Full e = e

served_none : (r : Rules) (s : State) (qs : List Queuer) → s.lingering ≡ [] → (serve r s qs).lingering ≡ []
served_none r s [] e = e
served_none r s (q ∷ qs) e = served_none r (with_offer s q (decide r s q.client)) qs (offered_none s q (decide r s q.client) e)

settled_none : (r : Rules) (s : State) (moment : ℕ) → s.lingering ≡ [] → (settle r s moment).lingering ≡ []
settled_none r s moment e = served_none r _ s.queue (rw e refl)

abbrev is_linger : Effect → Bool
is_linger effect.Nothing = false
is_linger effect.Tell = false
is_linger effect.Release = false
is_linger (effect.Linger l) = true
is_linger effect.Unqueue = false
is_linger (effect.Seat charge) = false
is_linger (effect.Reseat charge) = false
is_linger effect.Join = false

applied_none : (s : State) (party : ℕ) (client : Client) (x : Effect) → is_linger x ≡ false → s.lingering ≡ [] → (apply s party client x).lingering ≡ []
applied_none s party client effect.Nothing f e = e
applied_none s party client effect.Tell f e = e
applied_none s party client effect.Release f e = e
applied_none s party client (effect.Linger l) f e = absurd (cc)
applied_none s party client effect.Unqueue f e = e
applied_none s party client (effect.Seat charge) f e = e
applied_none s party client (effect.Reseat charge) f e = rw e refl
applied_none s party client effect.Join f e = e

none_lingers : (r : Rules) (s : State) (party : ℕ) (client : Client) (asked : Ask) (at : Place) → r.linger ≡ 0 → is_linger (answer_of r s party client asked at).1 ≡ false
none_lingers r s party client asked at e = grind arith

-- the one rule set
abbrev bare : ℕ → Rules
bare seats = rules_of (trial_pool seats) no_options

module _ (seats : ℕ) (few : seats < 2 ^ 32) where
  is_sound : (n : ℕ) → n < 1 → IsSound (set_at (trial_sets seats) n)
  is_sound zero h = record { parted = omega arith; apart = refl; few = few; short = omega arith }
  is_sound (suc n) h = absurd (omega arith)

  same_count : (n : ℕ) → n < 1 → (set_at (trial_sets seats) n).count ≡ seats
  same_count zero h = refl
  same_count (suc n) h = absurd (omega arith)

  are_sets : AreSets (trial_sets seats) seats
  are_sets = record { some = omega arith; few = omega arith; sound = is_sound; same = same_count }

  one_set : (n : ℕ) → n < 1 → set_at (trial_sets seats) n ≡ (bare seats)
  one_set zero h = refl
  one_set (suc n) h = absurd (omega arith)

  done_none : (s : State) (party : ℕ) (client : Client) (t : Task) → s.set < 1 → s.lingering ≡ [] → (step_of_task (trial_sets seats) s party client t).1.lingering ≡ []
  done_none s party client (Answer asked) h e =
      applied_none s party client (answer_of (in_force (trial_sets seats) s) s party client asked (place s party)).1 (none_lingers (in_force (trial_sets seats) s) s party client asked (place s party) (ap (λ (r : Rules). r.linger) (one_set s.set h))) e
  done_none s party client (Reread n) h e = rw e refl

  run_none : (s : State) (h : List Entry) → IsKeptBy (trial_sets seats) s → s.lingering ≡ [] → RunsFrom (trial_sets seats) s h → (after_from (trial_sets seats) s h).lingering ≡ []
  run_none s [] k e run = e
  run_none s (x ∷ xs) k e (first, others) =
      let r : Rules = in_force (trial_sets seats) s in
      let mid : IsKeptBy (trial_sets seats) (settle r s x.moment) = kept_settled (trial_sets seats) seats s x.moment are_sets k in
      run_none (after_entry (trial_sets seats) s x) xs (kept_step (trial_sets seats) seats s x.request x.moment are_sets first.fits k)
      (done_none (settle r s x.moment) x.request.party x.request.client (task x.request.kind) mid.set (settled_none r s x.moment e)) others

-- An entry of a party's own, in a run.

-- where a party's own entries part, the history does
record Parts (h : List Entry) (party : ℕ) (mine : List Entry) (e : Entry) : Type 0 where
  before : List Entry
  rest : List Entry
  whole : h ≡ before ++ e ∷ rest
  own_before : own before party ≡ mine
  asker : e.request.party ≡ party

module _ (x : Entry) (xs : List Entry) (party : ℕ) (e : Entry) (more : List Entry) (ih : (mine : List Entry) → own xs party ≡ mine ++ e ∷ more → Parts xs party mine e) where
  later : (mine front : List Entry) → own (x ∷ []) party ≡ front → (p : Parts xs party mine e) → Parts (x ∷ xs) party (front ++ mine) e
  later mine front is p = record {
    before = x ∷ p.before;
    rest = p.rest;
    whole = ap (λ (l : List Entry). x ∷ l) p.whole;
    own_before = filter-append (is_entry_of party) (x ∷ []) p.before ∙ ap (λ (l : List Entry). l ++ own p.before party) is ∙ ap (λ (l : List Entry). front ++ l) p.own_before;
    asker = p.asker;
  }

  parts_at : (b : Bool) → is_entry_of party x ≡ b → (mine : List Entry) → cond b (x ∷ own xs party) (own xs party) ≡ mine ++ e ∷ more → Parts (x ∷ xs) party mine e
  parts_at true t [] is =
      let same : x ≡ e = cc in
      record { before = []; rest = xs; whole = ap (λ (y : Entry). y ∷ xs) same; own_before = refl; asker = eqb-true e.request.party party (subst (λ (y : Entry). is_entry_of party y ≡ true) same t) }
  parts_at true t (m ∷ ms) is =
      let same : x ≡ m = cc in
      subst (λ (y : Entry). Parts (x ∷ xs) party (y ∷ ms) e) same (later ms (x ∷ []) (rw t refl) (ih ms cc))
  parts_at false t mine is = later mine [] (rw t refl) (ih mine is)

parts : (h : List Entry) (party : ℕ) (mine more : List Entry) (e : Entry) → own h party ≡ mine ++ e ∷ more → Parts h party mine e
parts [] party [] more e is = absurd cc
parts [] party (m ∷ ms) more e is = absurd cc
parts (x ∷ xs) party mine more e is = parts_at x xs party e more (λ m i. parts xs party m more e i) (is_entry_of party x) refl mine is

-- a run as far as an entry of it, and that entry
run_at : (rs : List Rules) (s : State) (before rest : List Entry) (e : Entry) → RunsFrom rs s (before ++ e ∷ rest) → RunsFrom rs s before × Follows rs (after_from rs s before) e
run_at rs s [] rest e run = (tt, run.0)
run_at rs s (x ∷ xs) rest e run = let others = run_at rs (after_entry rs s x) xs rest e run.1 in ((run.0, others.0), others.1)

-- a party whose standing reply is of neither has nothing

none_pass : {X : Type 0} (t ok : X → Bool) (xs : List X) → ((x : X) → ok x ≡ false) → list_all (λ (x : X). not (t x) || ok x) xs ≡ true → count_by t xs ≡ 0
none_pass t ok [] bad h = refl
none_pass t ok (x ∷ xs) bad h = grind (arith, count-cons t x xs, bad x, none_pass t ok xs bad)

none_found : {X : Type 0} (t : X → Bool) (xs : List X) → count_by t xs ≡ 0 → find t xs ≡ None
none_found t [] h = refl
none_found t (x ∷ xs) h = grind (arith, count-cons t x xs, none_found t xs)

is_away : (o : Option Reply) (s : State) (party : ℕ) → is_some_of is_of_holding o ≡ false → is_some_of is_of_queueing o ≡ false → Agrees o s party → place s party ≡ Away
is_away o s party h q a =
    let holders : count_by (is_holder party) s.holders ≡ 0 = none_pass (is_holder party) (fits_holder o) s.holders (λ x. grind arith) a.holders in
    let queue : count_by (is_queuer party) s.queue ≡ 0 = none_pass (is_queuer party) (λ (x : Queuer). says_queueing o) s.queue (λ x. grind arith) a.queue in
    rw (none_found (is_holder party) s.holders holders, none_found (is_queuer party) s.queue queue) refl

-- what such a party is answered that asks for a seat: it is granted one, or there is none
abbrev pub IsGrantedOrFull : Reply → Type 0
IsGrantedOrFull r = ((charge : Charge) × (r ≡ reply.Granted charge)) ⊎ ((taken : ℕ) × (free : ℕ) × (r ≡ reply.NoSeat taken free))

-- what a party is answered that gives back: neither, and it brings no seat
abbrev pub SaysNothing : Reply → Type 0
SaysNothing r = (is_of_holding r ≡ false) × (is_of_queueing r ≡ false) × (brings_seat r ≡ false)

given_back : (r : Rules) (s : State) (party : ℕ) (client : Client) (at : Place) → SaysNothing (answer_of r s party client ask.GiveBack at).0
given_back r s party client at = grind arith

module _ (seats : ℕ) (few : seats < 2 ^ 32) where
  seat_by : (s : State) (a b : Bool) → IsGrantedOrFull (answer_by_decision (bare seats) s false (unless (cond a None None) (λ line. Grant (Reserve line)) (cond b (Grant Open) Full))).0
  seat_by s true true = inl (Open, refl)
  seat_by s true false = inr (charges s Open, seats, refl)
  seat_by s false true = inl (Open, refl)
  seat_by s false false = inr (charges s Open, seats, refl)

  seat_decided : (s : State) (client : Client) → s.lingering ≡ [] → IsGrantedOrFull (answer_by_decision (bare seats) s false (decide (bare seats) s client)).0
  seat_decided s client e =
      let none : State = record s { lingering = [] } in
      subst (λ (l : List Lingerer). let t : State = record s { lingering = l } in IsGrantedOrFull (answer_by_decision (bare seats) t false (decide (bare seats) t client)).0) (sym e)
      (seat_by none (nat_lt (in_use none) seats) (nat_lt (charges none Open) seats))

  seat_away : (s : State) (party : ℕ) (client : Client) → s.lingering ≡ [] → s.set < 1 → place s party ≡ Away → IsGrantedOrFull (step_of_task (trial_sets seats) s party client (Answer (ask.Seat false))).0
  seat_away s party client e h away = rw (away, one_set seats few s.set h) (seat_decided s client e)

  module _ (h : List Entry) (party : ℕ) (mine more : List Entry) (e : Entry) (run : IsRun (trial_sets seats) h) (is : own h party ≡ mine ++ e ∷ more) where
    at : Parts h party mine e
    at = parts h party mine more e is

    both : RunsFrom (trial_sets seats) opening at.before × Follows (trial_sets seats) (after (trial_sets seats) at.before) e
    both = run_at (trial_sets seats) opening at.before at.rest e (subst (IsRun (trial_sets seats)) at.whole run)

    -- it is the party's
    pub asker_is : e.request.party ≡ party
    asker_is = at.asker

    abbrev met : State
    met = after (trial_sets seats) at.before

    abbrev found : State
    found = settle (in_force (trial_sets seats) met) met e.moment

    stands : standing at.before party ≡ standing mine party
    stands = own_tells at.before party ∙ ap (λ (l : List Entry). standing l party) at.own_before

    before_kept : IsKeptBy (trial_sets seats) met
    before_kept = kept_run (trial_sets seats) seats opening at.before (are_sets seats few) both.0 (opening_kept (trial_sets seats) seats (are_sets seats few))

    -- in the state that the entry finds
    kept : IsKeptBy (trial_sets seats) found
    kept = kept_settled (trial_sets seats) seats met e.moment (are_sets seats few) before_kept

    -- a party that neither holds nor waits asks for a seat
    pub checkout_answered : e.request.kind ≡ kind.Checkout → holds mine party ≡ false → queues mine party ≡ false → IsGrantedOrFull e.reply
    checkout_answered asked held waits =
        let agrees : Agrees (standing mine party) found party =
        agrees_settle (standing mine party) party (in_force (trial_sets seats) met) met e.moment (subst (λ (o : Option Reply). Agrees o met party) stands (runs_agree (trial_sets seats) seats at.before party (are_sets seats few) both.0)) in
        let away : place found party ≡ Away = is_away (standing mine party) found party held waits agrees in
        let none : found.lingering ≡ [] = settled_none (in_force (trial_sets seats) met) met e.moment (run_none seats few opening at.before (opening_kept (trial_sets seats) seats (are_sets seats few)) refl both.0) in
        subst IsGrantedOrFull (sym (both.1.reply ∙ ap (λ (k : Kind). (step_of_task (trial_sets seats) found e.request.party e.request.client (task k)).0) asked))
        (seat_away found e.request.party e.request.client none kept.set (ap (place found) at.asker ∙ away))

    -- a party gives back
    pub checkin_answered : e.request.kind ≡ kind.Checkin → SaysNothing e.reply
    checkin_answered asked =
        subst SaysNothing (sym (both.1.reply ∙ ap (λ (k : Kind). (step_of_task (trial_sets seats) found e.request.party e.request.client (task k)).0) asked))
        (given_back (in_force (trial_sets seats) found) found e.request.party e.request.client (place found e.request.party))
