-- Before HELLO nothing is asked.
use Rattle.std.proofs.Common.{◌≡◌, ℕ, ◌<◌, ◌∙◌, ◌++◌, ◌∷◌, [], List, false, arith, inl, inr, length, map, ap, sym, refl, subst, Option, Some, None, Result, Ok, Err}
use Rattle.std.proofs.lemmas.Grind.{flat_map-append}
use Rattle.std.proofs.lemmas.Bool.{or_from}
use Rattle.counter.specs.Account.{Account, Asking}
use Rattle.lic_types.specs.declared.client.Client.{Client}
use Rattle.line_protocol.specs.Requests.{request_of}
use Rattle.line_protocol.specs.Requests.{number_of_fault}
use Rattle.line_protocol.specs.declared.told.Told.{Told}
use Rattle.line_protocol.specs.declared.told.Told.TheVariants as told
use Rattle.line_protocol.specs.declared.wire.Wire.{Wire}
use Rattle.line_protocol.specs.declared.wire.WireFault.{WireFault}
use Rattle.office_view.specs.View.{View}
use Rattle.options_machine.specs.Own.{holds, queues}
use Rattle.options_machine.specs.declared.reply.Kind.TheVariants as kind
use Rattle.session_outside.specs.Talk.{Silence}
use Rattle.session.specs.Acts.{Act, Tell, Hear, Ring, askings}
use Rattle.session.specs.Did.{Agrees}
use Rattle.session.specs.Pass.{AreIdle}
use Rattle.session.specs.Asks.{LeavesIdleWhere}
use Rattle.session.specs.Session.{Ends, Goes, KeepsNothing, Session, answers, breaks, closes, finishes, hears, looks, opens, overflows, stops}
use Rattle.session.specs.Table.{Answers, AsksAny, Setup, Leaves, Meets, Obeys, WritesAnd, input_of, party_at}
use Rattle.session.specs.declared.asked.Input.{Input}
use Rattle.session.specs.declared.asked.Input.TheVariants as input
use Rattle.session.specs.declared.asked.Whom.TheVariants.{Holding, Keeping}
use Rattle.session.specs.declared.end.SessionEnd.{SessionEnd}
use Rattle.session.specs.declared.end.SessionEnd.TheVariants as ends
use Rattle.session.proofs.Standing.{meant_is}

more_none : (acts new : List Act) (j : ℕ) → askings j acts ≡ [] → askings j new ≡ [] → askings j (acts ++ new) ≡ []
more_none acts new j e f = flat_map-append _ acts new ∙ ap (λ l. l ++ askings j new) e ∙ f

writes_none : (t : Told) (more : List Act) (next out : Option SessionEnd) (new : List Act) (j : ℕ) → askings j more ≡ [] → WritesAnd t more next new out → askings j new ≡ []
writes_none t more next out new j e (inl h) = ap (askings j) h.0 ∙ e
writes_none t more next out new j e (inr h) = ap (askings j) h.3

leaves_none : (o : Setup) (acts : List Act) (t : Told) (more : List Act) (end : SessionEnd) (new : List Act) (out : Option SessionEnd) (j : ℕ) → askings j more ≡ [] → Leaves o acts None t more end new out → askings j new ≡ []
leaves_none o acts t more end new out j e h = ap (askings j) h.2 ∙ more_none h.0 h.1 j (ap (askings j) h.3) (writes_none t more (Some end) out h.1 j e h.4)

meets_none : (o : Setup) (acts : List Act) (i : Input) (new : List Act) (then : Option Client) (out : Option SessionEnd) (j : ℕ) → Meets o acts i new then out → askings j new ≡ []
meets_none o acts (input.Hello client) new then out j h = writes_none (told.Welcome (party_at o 0)) [] None out new j refl h.1
meets_none o acts input.Quit new then out j h = leaves_none o acts told.Bye [] ends.Quit new out j refl h.1
meets_none o acts input.Shutdown new then out j h = leaves_none o acts told.Stopping (Ring ∷ []) ends.Down new out j refl h.1
meets_none o acts (input.Ask f) new then out j h = writes_none told.NoHello [] None out new j refl h.1
meets_none o acts (input.Glance name) new then out j h = writes_none told.NoHello [] None out new j refl h.1
meets_none o acts (input.Reread n) new then out j h = writes_none told.NoHello [] None out new j refl h.1

none_some : {X : Type 0} {x : X} {o : Option X} → o ≡ Some x → o ≡ None → ⊥
none_some e f = cc

obeys_none : (o : Setup) (acts : List Act) (client : Option Client) (i : Input) (new : List Act) (then : Option Client) (out : Option SessionEnd) (j : ℕ) → Obeys o acts client i new then out → then ≡ None → (client ≡ None) × (askings j new ≡ [])
obeys_none o acts None i new then out j h e = (refl, meets_none o acts i new then out j h)
obeys_none o acts (Some c) i new then out j h e = absurd (none_some h.0 e)

answers_none : (o : Setup) (acts : List Act) (client : Option Client) (req : Result Wire WireFault) (new : List Act) (then : Option Client) (out : Option SessionEnd) (j : ℕ) → Answers o acts client req new then out → then ≡ None → (client ≡ None) × (askings j new ≡ [])
answers_none o acts client (Err fault) new then out j h e = (sym h.0 ∙ e, writes_none (told.Bad (number_of_fault fault)) [] None out new j refl h.1)
answers_none o acts client (Ok request) new then out j h e = obeys_none o acts client (input_of request) new then out j h e

goes_none : {o : Setup} {acts : List Act} {client : Option Client} {pending : List ℕ} → Goes o acts client pending → client ≡ None → (j : ℕ) → askings j acts ≡ []
goes_none opens e j = refl
goes_none (hears {acts} piece g op) e j = more_none acts _ j (goes_none g e j) refl
goes_none {o} (answers {acts} {client} line rest new then g b a) e j =
    let q = answers_none o acts client (request_of line) new then None j a e in
    more_none acts new j (goes_none g q.0 j) q.1
goes_none {o} (looks {acts} {client} new g op l) e j =
    let quiet : List Act = Tell Silence ∷ Hear false ∷ [] in
    more_none (acts ++ quiet) new j (more_none acts quiet j (goes_none g e j) refl)
    (ap (askings j) (subst (λ c. AsksAny Holding o (acts ++ quiet) c kind.Look new) e l))

pub ends_none : {o : Setup} {acts : List Act} {client : Option Client} {end : SessionEnd} → Ends o acts client end → client ≡ None → (j : ℕ) → askings j acts ≡ []
ends_none {o} (finishes {acts} {client} line rest new then end g b a) e j =
    let q = answers_none o acts client (request_of line) new then (Some end) j a e in
    more_none acts new j (goes_none g q.0 j) q.1
ends_none (closes {acts} g op) e j = more_none acts _ j (goes_none g e j) refl
ends_none (breaks {acts} g op) e j = more_none acts _ j (goes_none g e j) refl
ends_none (overflows g op) e j = goes_none g e j
ends_none (stops {acts} g op) e j = more_none acts _ j (goes_none g e j) refl

-- where the session asked nothing, and the counters stand where it does, they are idle
pub idle_none : {C D : Type 0} (account : C → Account) (v : View D) (o : Setup) (acts : List Act) (cs : List C) → ((j : ℕ) → askings j acts ≡ []) → Agrees account v o acts cs → AreIdle account cs
idle_none account v o acts cs none h j c below =
    let s = h.each j c below in (
      s.holds ∙ ap (λ (l : List Asking). holds (map (λ (a : Asking). a.entry) l) (party_at o j)) (none j),
      s.queues ∙ ap (λ (l : List Asking). queues (map (λ (a : Asking). a.entry) l) (party_at o j)) (none j),
    )

-- a session whose client was never known asked nothing
pub session_none : (o : Setup) (acts : List Act) (end : SessionEnd) (s : Session o acts end) → s.client ≡ None → (j : ℕ) → askings j acts ≡ []
session_none o acts end s e j =
    ap (askings j) s.whole ∙ more_none s.talk s.back j (ends_none s.ended e j) (ap (askings j) (subst (λ c. AsksAny Keeping o s.talk c kind.Quit s.back) e s.gives_back))

-- any element of a list that is long enough
some_of : {C : Type 0} (cs : List C) (j : ℕ) → j < length cs → C
some_of [] j below = absurd (omega arith)
some_of (c ∷ cs) j below = c

-- where the counters are idle, the session keeps nothing
pub keeps_nothing : {C D : Type 0} (account : C → Account) (v : View D) (o : Setup) (acts : List Act) (cs : List C) → length cs ≡ length o.pools → AreIdle account cs → Agrees account v o acts cs → KeepsNothing o acts
keeps_nothing account v o acts cs long idle h = record {
  idle = λ j below.
      let b : j < length cs = subst (λ n. j < n) (sym long) below in
      let c = some_of cs j b in
      sym (meant_is account v o acts cs Keeping j c h b) ∙ or_from _ _ (idle j c b).0 (idle j c b).1;
}

-- at the end all counters are idle
pub idle_end : {C : Type 0} (account : C → Account) (cs : List C) (client : Option Client) → (client ≡ None → AreIdle account cs) → LeavesIdleWhere account Keeping kind.Quit client cs → AreIdle account cs
idle_end account cs None h k = h refl
idle_end account cs (Some client) h k = λ j c below. k refl refl j c below
