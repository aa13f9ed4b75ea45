use Rattle.std.proofs.Common.{◌≡◌, ℕ, ◌≤◌, Bool, true, List, [], ◌∷◌, ◌++◌, refl, ap, sym, ◌∙◌, arith, None, Some, map, eqb}
use Rattle.std.specs.List.{count_by, find}
use Rattle.std.proofs.lemmas.Bool.{eq-eqb}
use Rattle.std.proofs.lemmas.List.Folds.{find-append}
use Rattle.lic_types.specs.declared.client.Client.{Client}
use Rattle.options_machine.specs.declared.decision.Place.{Place}
use Rattle.options_machine.specs.declared.decision.Place.TheVariants.{Told, Untold, Waiting, Away}
use Rattle.options_machine.specs.declared.effect.Effect.{Effect}
use Rattle.options_machine.specs.declared.effect.Effect.TheVariants.{Nothing, Tell, Release, Linger, Unqueue, Seat, Reseat, Join}
use Rattle.options_machine.specs.declared.reply.Ask.{Ask}
use Rattle.options_machine.specs.declared.reply.Ask.TheVariants as ask
use Rattle.options_machine.specs.declared.reply.Entry.{Entry}
use Rattle.options_machine.specs.declared.reply.Reply.{Reply}
use Rattle.options_machine.specs.declared.reply.Request.{Request}
use Rattle.options_machine.specs.declared.reply.Task.{Task}
use Rattle.options_machine.specs.declared.reply.Task.TheVariants.{Answer, Reread}
use Rattle.options_machine.specs.declared.rows.Holder.{Holder}
use Rattle.options_machine.specs.declared.rows.Queuer.{Queuer}
use Rattle.options_machine.specs.Rules.{Rules}
use Rattle.options_machine.specs.State.{State, entries, in_force, is_holder, is_queuer, opening, place}
use Rattle.options_machine.specs.Settle.{with_holder}
use Rattle.options_machine.specs.Apply.{Fits, IsPlace, apply, told_if, with_told, without_holder, without_queuer}
use Rattle.options_machine.specs.Step.{answer_of, set_asked, set_of, step, step_of_task, task}
use Rattle.options_machine.specs.Run.{IsRun, after}
use Rattle.options_machine.specs.Law.{AreSets}
use Rattle.options_machine.specs.Own.{is_of_holding, is_of_queueing}
use Rattle.options_machine.specs.Replies.{state_found, is_pending, is_told, reply_to}
use Rattle.options_machine.proofs.Counts.{count-cons, count_none, find_passes, none_left}
use Rattle.options_machine.proofs.Owns.{found_one}
use Rattle.options_machine.proofs.Runs.{kept_run, opening_kept}
use Rattle.options_machine.proofs.Steps.{IsKeptBy, effect_at, fits_at, kept_settled, place_is, told_party}

find_map : {X : Type 0} (t : X → Bool) (f : X → X) (xs : List X) (y : X) → ((x : X) → t (f x) ≡ t x) → find t xs ≡ Some y → find t (map f xs) ≡ Some (f y)
find_map t f [] y same e = grind arith
find_map t f (x ∷ xs) y same e = grind (arith, same x, find_map t f xs y same)

pub find_with : (t : Holder → Bool) (h : Holder) (hs : List Holder) → t h ≡ true → find t hs ≡ None → find t (with_holder h hs) ≡ Some h
find_with t h [] one none = rw one refl
find_with t h (g ∷ gs) one none = grind (arith, find_with t h gs)

pub none_of_count : {X : Type 0} (p : X → Bool) (xs : List X) → count_by p xs ≡ 0 → find p xs ≡ None
none_of_count p [] e = refl
none_of_count p (x ∷ xs) e = grind (arith, count-cons p x xs, none_of_count p xs)

-- the party is told
found_told : (s : State) (party : ℕ) (h : Holder) → find (is_holder party) s.holders ≡ Some h → find (is_holder party) (with_told s party).holders ≡ Some (told_if true s.now h)
found_told s party h e =
    find_map (is_holder party) (λ (x : Holder). told_if (is_holder party x) s.now x) s.holders h (λ x. ap (λ y. eqb y party) (told_party (is_holder party x) s.now x)) e
    ∙ ap (λ (b : Bool). Some (told_if b s.now h)) (find_passes (is_holder party) s.holders h e)

-- a party without entries is away
away_of : (s : State) (party : ℕ) → entries s party ≡ 0 → IsPlace s party Away
away_of s party e = (none_of_count (is_holder party) s.holders (omega (arith, e)), none_of_count (is_queuer party) s.queue (omega (arith, e)))

-- nothing is left of a holder that goes
pub released_none : (s : State) (party : ℕ) (h : Holder) → find (is_holder party) s.holders ≡ Some h → entries s party ≤ 1 → entries (without_holder s party) party ≡ 0
released_none s party h e one = omega (arith, none_left (is_holder party) s.holders, found_one (is_holder party) s.holders h e, one)

unqueued_none : (s : State) (party : ℕ) → find (is_holder party) s.holders ≡ None → entries (without_queuer s party) party ≡ 0
unqueued_none s party e = omega (arith, count_none (is_holder party) s.holders e, none_left (is_queuer party) s.queue)

-- what a party has after an effect

abbrev after_telling : ℕ → Place → Place
after_telling now (Told h) = Told (told_if true now h)
after_telling now (Untold h) = Told (told_if true now h)
after_telling now other = other

abbrev pub place_after : State → ℕ → Client → Place → Effect → Place
place_after s party client at Nothing = at
place_after s party client at Tell = after_telling s.now at
place_after s party client at (Seat charge) = Told (record { party = party; client = client; charge = charge; beat = s.now; told = true })
place_after s party client at (Reseat charge) = Told (record { party = party; client = client; charge = charge; beat = s.now; told = true })
place_after s party client at Join = Waiting (record { party = party; client = client })
place_after s party client at other = Away

place_told : (s : State) (party : ℕ) (at : Place) (h : Holder) → IsPlace s party at → find (is_holder party) s.holders ≡ Some h → IsPlace (with_told s party) party (after_telling s.now at)
place_told s party (Told g) h (e, t) f = (found_told s party g e, refl)
place_told s party (Untold g) h (e, t) f = (found_told s party g e, refl)
place_told s party other h (e, t) f = let never : None ≡ Some h = sym e ∙ f in absurd (cc)

place_seated : (s : State) (party : ℕ) (h : Holder) → h.party ≡ party → h.told ≡ true → find (is_holder party) s.holders ≡ None → IsPlace (record s { holders = with_holder h s.holders }) party (Told h)
place_seated s party h same t e = (find_with (is_holder party) h s.holders (eq-eqb h.party party same) e, t)

pub place_joined : (s : State) (party : ℕ) (q : Queuer) → q.party ≡ party → IsPlace s party Away → IsPlace (record s { queue = s.queue ++ q ∷ [] }) party (Waiting q)
place_joined s party q same (e, f) = let self : is_queuer party q ≡ true = eq-eqb q.party party same in (e, find-append (is_queuer party) s.queue (q ∷ []) ∙ rw (f, self) refl)

pub place_applied : (r : Rules) (s : State) (party : ℕ) (client : Client) (at : Place) (x : Effect) → IsPlace s party at → entries s party ≤ 1 → Fits r s party client x → IsPlace (apply s party client x) party (place_after s party client at x)
place_applied r s party client at Nothing p one f = p
place_applied r s party client at Tell p one (h, e) = place_told s party at h p e
place_applied r s party client at Release p one (h, e) = away_of (without_holder s party) party (released_none s party h e one)
place_applied r s party client at (Linger l) p one (h, e, who, same, room) = away_of (without_holder s party) party (released_none s party h e one)
place_applied r s party client at Unqueue p one (e, f) = away_of (without_queuer s party) party (unqueued_none s party e)
place_applied r s party client at (Seat charge) p one ((e, f), d) = place_seated s party _ refl refl e
place_applied r s party client at (Reseat charge) p one ((e, f), d) = place_seated s party _ refl refl e
place_applied r s party client at Join p one (none, d) = place_joined s party _ refl none

-- a reply says what the party has after it
abbrev SaysAfter : State → ℕ → Client → Place → Reply × Effect → Type 0
SaysAfter s party client at a = (is_of_holding a.0 ≡ is_told (place_after s party client at a.1)) × (is_of_queueing a.0 ≡ is_pending (place_after s party client at a.1))

says_after : (r : Rules) (s : State) (party : ℕ) (client : Client) (asked : Ask) (at : Place) → SaysAfter s party client at (answer_of r s party client asked at)
says_after r s party client asked (Told h) = grind arith
says_after r s party client ask.Count other = grind arith
says_after r s party client asked other = grind arith

-- a state has one place for a party
the_place : (s : State) (party : ℕ) (at : Place) → IsPlace s party at → place s party ≡ at
the_place s party at e = grind arith

-- the place of an answer's party after it, and that its reply says so
pub record Says (a : Reply × State) (party : ℕ) : Type 0 where
  pub at : Place
  pub is : IsPlace a.1 party at
  pub holding : is_of_holding a.0 ≡ is_told at
  pub queueing : is_of_queueing a.0 ≡ is_pending at

pub says_done : (sets : List Rules) (s : State) (party : ℕ) (client : Client) (t : Task) → set_of t ≡ None → entries s party ≤ 1 → Says (step_of_task sets s party client t) party
says_done sets s party client (Answer asked) n one =
    let x : Effect = effect_at sets s party client asked in
    let says : _ × _ = says_after (in_force sets s) s party client asked (place s party) in
    record {
      at = place_after s party client (place s party) x;
      is = place_applied (in_force sets s) s party client (place s party) x (place_is s party) one (fits_at sets s party client asked);
      holding = says.0;
      queueing = says.1;
    }
says_done sets s party client (Reread m) n one = let never : Some m ≡ None = n in absurd (cc)

pub replies_told : (sets : List Rules) (count : ℕ) (h : List Entry) (request : Request) (moment : ℕ) → AreSets sets count → IsRun sets h → set_asked request.kind ≡ None
    → (is_of_holding (reply_to sets (after sets h) request moment) ≡ is_told (place (step sets (after sets h) request moment).1 request.party))
    × (is_of_queueing (reply_to sets (after sets h) request moment) ≡ is_pending (place (step sets (after sets h) request moment).1 request.party))
replies_told sets count h request moment g run n =
    let t : State = state_found sets (after sets h) moment in
    let kept : IsKeptBy sets t = kept_settled sets count (after sets h) moment g (kept_run sets count opening h g run (opening_kept sets count g)) in
    let says : Says (step sets (after sets h) request moment) request.party = says_done sets t request.party request.client (task request.kind) n (kept.kept.single request.party) in
    let here : place (step sets (after sets h) request moment).1 request.party ≡ says.at = the_place (step sets (after sets h) request moment).1 request.party says.at says.is in
    (says.holding ∙ ap is_told (sym here), says.queueing ∙ ap is_pending (sym here))
