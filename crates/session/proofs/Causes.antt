-- Each end has its cause in the acts.
use Rattle.std.proofs.Common.{◌≡◌, ◌∙◌, ◌++◌, ◌∷◌, [], List, ℕ, Bool, true, false, ◌||◌, cond, inl, inr, length, nat_eq, nat_lt, ap, sym, refl, subst, Option, Some, None, Result, Ok, Err}
use Rattle.std.proofs.lemmas.Grind.{flat_map-append}
use Rattle.std.specs.List.{list_any}
use Rattle.std.proofs.lemmas.Bool.{or_from, or_left, or_right}
use Rattle.feature_lines.specs.declared.route.Found.{Found}
use Rattle.feature_lines.specs.declared.route.Found.TheVariants.{Pool as At, Unknown, Expired}
use Rattle.lic_types.specs.declared.client.Client.{Client}
use Rattle.line_protocol.specs.Requests.{number_of_fault, request_of}
use Rattle.line_protocol.specs.Replies.{line_of}
use Rattle.line_protocol.specs.declared.told.Told.{Told}
use Rattle.line_protocol.specs.declared.told.Told.TheVariants as told
use Rattle.line_protocol.specs.declared.wire.Wire.{Wire}
use Rattle.line_protocol.specs.declared.wire.WireFault.{WireFault}
use Rattle.office_view.specs.View.{first_named}
use Rattle.options_machine.specs.declared.reply.Kind.{Kind}
use Rattle.options_machine.specs.declared.reply.Kind.TheVariants as kind
use Rattle.session_outside.specs.Talk.{Counted, Ended, Heard, ReadFault, Silence, Wrote}
use Rattle.session.specs.Acts.{Act, Tell, Moment, Enter, Look, Hear, Ring, peals_of, talk_of}
use Rattle.session.specs.Did.{HasCause, is_fault, is_ring, is_silence, is_toll}
use Rattle.session.specs.Session.{Ends, Goes, Session, answers, breaks, closes, finishes, hears, looks, opens, overflows, stops}
use Rattle.session.specs.Table.{Answers, AsksAny, AsksEach, Does, Setup, Leaves, Meets, Obeys, Rereads, Served, Shows, WritesAnd, desks, found_or, input_of, kept_pool, or_else, party_at, reply_to, found_by_route}
use Rattle.session.specs.declared.asked.Input.{Input}
use Rattle.session.specs.declared.asked.Input.TheVariants as input
use Rattle.session.specs.declared.asked.Whom.{Whom}
use Rattle.session.specs.declared.asked.Whom.TheVariants.{Holding, Keeping, Everyone}
use Rattle.session.specs.declared.end.SessionEnd.{SessionEnd}
use Rattle.session.specs.declared.end.SessionEnd.TheVariants as ends
use Rattle.session.proofs.Counts.{any-append}

abbrev rings : List Act → Bool
rings acts = list_any is_ring (peals_of acts)

abbrev tolled : List Act → Bool
tolled acts = list_any is_toll (peals_of acts)

abbrev faulted : List Act → Bool
faulted acts = list_any is_fault (talk_of acts)

abbrev silent : List Act → Bool
silent acts = list_any is_silence (talk_of acts)

rings_append : (as' bs : List Act) → rings (as' ++ bs) ≡ (rings as' || rings bs)
rings_append as' bs = ap (list_any is_ring) (flat_map-append _ as' bs) ∙ any-append is_ring (peals_of as') (peals_of bs)

tolled_append : (as' bs : List Act) → tolled (as' ++ bs) ≡ (tolled as' || tolled bs)
tolled_append as' bs = ap (list_any is_toll) (flat_map-append _ as' bs) ∙ any-append is_toll (peals_of as') (peals_of bs)

faulted_append : (as' bs : List Act) → faulted (as' ++ bs) ≡ (faulted as' || faulted bs)
faulted_append as' bs = ap (list_any is_fault) (flat_map-append _ as' bs) ∙ any-append is_fault (talk_of as') (talk_of bs)

silent_append : (as' bs : List Act) → silent (as' ++ bs) ≡ (silent as' || silent bs)
silent_append as' bs = ap (list_any is_silence) (flat_map-append _ as' bs) ∙ any-append is_silence (talk_of as') (talk_of bs)

or_after : (a b c : Bool) → a ≡ false → b ≡ c → (a || b) ≡ c
or_after a b c e f = ap (λ x. x || b) e ∙ f

-- what the acts show of an end
abbrev Caused : SessionEnd → List Act → Type 0
Caused ends.Quit acts = rings acts ≡ false
Caused ends.Down acts = rings acts ≡ true
Caused ends.End acts = rings acts ≡ false
Caused (ends.Torn n) acts = rings acts ≡ false
Caused ends.LineTooLong acts = rings acts ≡ false
Caused ends.LinkFault acts = (rings acts ≡ false) × (faulted acts ≡ true)
Caused ends.Stopped acts = (rings acts ≡ false) × (silent acts ≡ true) × (tolled acts ≡ true)

-- what the acts of one line show of its outcome
abbrev Shown : Option SessionEnd → List Act → Type 0
Shown None acts = rings acts ≡ false
Shown (Some ends.Quit) acts = rings acts ≡ false
Shown (Some ends.Down) acts = rings acts ≡ true
Shown (Some ends.End) acts = ⊥
Shown (Some (ends.Torn n)) acts = ⊥
Shown (Some ends.LineTooLong) acts = ⊥
Shown (Some ends.LinkFault) acts = (rings acts ≡ false) × (faulted acts ≡ true)
Shown (Some ends.Stopped) acts = ⊥

wrote_shown : (out : Option SessionEnd) (l : List ℕ) (more : List Act) → Shown out more → Shown out (Tell (Wrote l) ∷ more)
wrote_shown None l more h = h
wrote_shown (Some ends.Quit) l more h = h
wrote_shown (Some ends.Down) l more h = h
wrote_shown (Some ends.End) l more h = h
wrote_shown (Some (ends.Torn n)) l more h = h
wrote_shown (Some ends.LineTooLong) l more h = h
wrote_shown (Some ends.LinkFault) l more h = h
wrote_shown (Some ends.Stopped) l more h = h

late_shown : (out : Option SessionEnd) (early late : List Act) → rings early ≡ false → Shown out late → Shown out (early ++ late)
late_shown None early late e h = rings_append early late ∙ or_after (rings early) (rings late) false e h
late_shown (Some ends.Quit) early late e h = rings_append early late ∙ or_after (rings early) (rings late) false e h
late_shown (Some ends.Down) early late e h = rings_append early late ∙ or_after (rings early) (rings late) true e h
late_shown (Some ends.End) early late e h = h
late_shown (Some (ends.Torn n)) early late e h = h
late_shown (Some ends.LineTooLong) early late e h = h
late_shown (Some ends.LinkFault) early late e h = (rings_append early late ∙ or_after (rings early) (rings late) false e h.0, faulted_append early late ∙ or_right (faulted early) (faulted late) h.1)
late_shown (Some ends.Stopped) early late e h = h

writes_shown : (t : Told) (more : List Act) (next out : Option SessionEnd) (new : List Act) → Shown next more → WritesAnd t more next new out → Shown out new
writes_shown t more next out new h (inl w) = subst (λ (o : Option SessionEnd). Shown o new) (sym w.1) (subst (λ (l : List Act). Shown next l) (sym w.0) (wrote_shown next (line_of t) more h))
writes_shown t more next out new h (inr w) = subst (λ (o : Option SessionEnd). Shown o new) (sym w.4) (ap rings w.3, ap faulted w.3)

asks_quiet : (client : Client) (what : Kind) (js : List ℕ) (new : List Act) → AsksEach client what js new → rings new ≡ false
asks_quiet client what [] new h = ap rings h
asks_quiet client what (j ∷ js) new h = ap rings h.3 ∙ asks_quiet client what js h.2 h.5

any_quiet : (whom : Whom) (o : Setup) (acts : List Act) (client : Option Client) (what : Kind) (new : List Act) → AsksAny whom o acts client what new → rings new ≡ false
any_quiet whom o acts None what new h = ap rings h
any_quiet whom o acts (Some c) what new h = asks_quiet c what (desks whom o acts (length o.pools)) new h

leaves_shown : (o : Setup) (acts : List Act) (client : Option Client) (t : Told) (more : List Act) (end : SessionEnd) (new : List Act) (out : Option SessionEnd) → Shown (Some end) more → Leaves o acts client t more end new out → Shown out new
leaves_shown o acts client t more end new out h l =
    subst (λ (a : List Act). Shown out a) (sym l.2) (late_shown out l.0 l.1 (any_quiet Keeping o acts client kind.Quit l.0 l.3) (writes_shown t more (Some end) out l.1 h l.4))

meets_shown : (o : Setup) (acts : List Act) (i : Input) (new : List Act) (then : Option Client) (out : Option SessionEnd) → Meets o acts i new then out → Shown out new
meets_shown o acts (input.Hello client) new then out h = writes_shown (told.Welcome (party_at o 0)) [] None out new refl h.1
meets_shown o acts input.Quit new then out h = leaves_shown o acts None told.Bye [] ends.Quit new out refl h.1
meets_shown o acts input.Shutdown new then out h = leaves_shown o acts None told.Stopping (Ring ∷ []) ends.Down new out refl h.1
meets_shown o acts (input.Ask f) new then out h = writes_shown told.NoHello [] None out new refl h.1
meets_shown o acts (input.Glance name) new then out h = writes_shown told.NoHello [] None out new refl h.1
meets_shown o acts (input.Reread n) new then out h = writes_shown told.NoHello [] None out new refl h.1

served_shown : (client : Client) (what : Kind) (at : ℕ) (found : Found) (new : List Act) (out : Option SessionEnd) → Served client what at found new out → Shown out new
served_shown client what at (At j) new out h = subst (λ (a : List Act). Shown out a) (sym h.2) (late_shown out (Enter j h.0 ∷ []) h.1 refl (writes_shown (reply_to h.0) [] None out h.1 refl h.4))
served_shown client what at Unknown new out h = writes_shown told.Unknown [] None out new refl h
served_shown client what at (Expired day) new out h = writes_shown (told.Expired day) [] None out new refl h

shows_shown : (p : Option ℕ) (new : List Act) (out : Option SessionEnd) → Shows p new out → Shown out new
shows_shown (Some j) new out h = subst (λ (a : List Act). Shown out a) (sym h.2) (late_shown out (Look j h.0 ∷ []) h.1 refl (writes_shown (told.Glance h.0.glance) [] None out h.1 refl h.3))
shows_shown None new out h = writes_shown told.Unknown [] None out new refl h

rereads_shown : (o : Setup) (acts : List Act) (client : Client) (n : ℕ) (b : Bool) (new : List Act) (out : Option SessionEnd) → Rereads o acts client n b new out → Shown out new
rereads_shown o acts client n true new out h = subst (λ (a : List Act). Shown out a) (sym h.2) (late_shown out h.0 h.1 (asks_quiet client (kind.Reread n) (desks Everyone o acts (length o.pools)) h.0 h.3) (writes_shown (told.Reread n) [] None out h.1 refl h.4))
rereads_shown o acts client n false new out h = writes_shown (told.NoRules n) [] None out new refl h

does_shown : (o : Setup) (acts : List Act) (client : Client) (i : Input) (new : List Act) (out : Option SessionEnd) → Does o acts client i new out → Shown out new
does_shown o acts client (input.Hello other) new out h = writes_shown told.Greeted [] None out new refl h
does_shown o acts client (input.Ask f) new out h = subst (λ (a : List Act). Shown out a) (sym h.2) (late_shown out (Moment h.0 ∷ []) h.1 refl (served_shown client f.kind h.0 (found_or (kept_pool o acts f.name) (found_by_route o.pools f.name h.0 f.version)) h.1 out h.3))
does_shown o acts client (input.Glance name) new out h = shows_shown (or_else (kept_pool o acts name) (first_named o.pools name)) new out h
does_shown o acts client (input.Reread n) new out h = rereads_shown o acts client n (nat_lt n o.sets) new out h
does_shown o acts client input.Quit new out h = leaves_shown o acts (Some client) told.Bye [] ends.Quit new out refl h
does_shown o acts client input.Shutdown new out h = leaves_shown o acts (Some client) told.Stopping (Ring ∷ []) ends.Down new out refl h

obeys_shown : (o : Setup) (acts : List Act) (client : Option Client) (i : Input) (new : List Act) (then : Option Client) (out : Option SessionEnd) → Obeys o acts client i new then out → Shown out new
obeys_shown o acts None i new then out h = meets_shown o acts i new then out h
obeys_shown o acts (Some c) i new then out h = does_shown o acts c i new out h.1

answers_shown : (o : Setup) (acts : List Act) (client : Option Client) (req : Result Wire WireFault) (new : List Act) (then : Option Client) (out : Option SessionEnd) → Answers o acts client req new then out → Shown out new
answers_shown o acts client (Err fault) new then out h = writes_shown (told.Bad (number_of_fault fault)) [] None out new refl h.1
answers_shown o acts client (Ok request) new then out h = obeys_shown o acts client (input_of request) new then out h

goes_quiet : {o : Setup} {acts : List Act} {client : Option Client} {pending : List ℕ} → Goes o acts client pending → rings acts ≡ false
goes_quiet opens = refl
goes_quiet (hears {acts} piece g op) = rings_append acts (Tell (Heard piece) ∷ []) ∙ or_from (rings acts) false (goes_quiet g) refl
goes_quiet {o} (answers {acts} {client} line rest new then g b a) = rings_append acts new ∙ or_from (rings acts) (rings new) (goes_quiet g) (answers_shown o acts client (request_of line) new then None a)
goes_quiet {o} (looks {acts} {client} new g op l) =
    let quiet : List Act = Tell Silence ∷ Hear false ∷ [] in
    rings_append (acts ++ quiet) new
    ∙ or_from (rings (acts ++ quiet)) (rings new) (rings_append acts quiet ∙ or_from (rings acts) false (goes_quiet g) refl) (any_quiet Holding o (acts ++ quiet) client kind.Look new l)

end_caused : (b : Bool) (n : ℕ) (acts : List Act) → rings acts ≡ false → Caused (cond b ends.End (ends.Torn n)) acts
end_caused true n acts e = e
end_caused false n acts e = e

shown_caused : (end : SessionEnd) (early late : List Act) → rings early ≡ false → Shown (Some end) late → Caused end (early ++ late)
shown_caused ends.Quit early late e h = late_shown (Some ends.Quit) early late e h
shown_caused ends.Down early late e h = late_shown (Some ends.Down) early late e h
shown_caused ends.End early late e h = absurd h
shown_caused (ends.Torn n) early late e h = absurd h
shown_caused ends.LineTooLong early late e h = absurd h
shown_caused ends.LinkFault early late e h = late_shown (Some ends.LinkFault) early late e h
shown_caused ends.Stopped early late e h = absurd h

ends_caused : {o : Setup} {acts : List Act} {client : Option Client} {end : SessionEnd} → Ends o acts client end → Caused end acts
ends_caused {o} (finishes {acts} {client} line rest new then end g b a) = shown_caused end acts new (goes_quiet g) (answers_shown o acts client (request_of line) new then (Some end) a)
ends_caused (closes {acts} {client} {pending} g op) = end_caused (nat_eq (length pending) 0) (length pending) (acts ++ Tell Ended ∷ []) (rings_append acts (Tell Ended ∷ []) ∙ or_from (rings acts) false (goes_quiet g) refl)
ends_caused (breaks {acts} g op) = (rings_append acts (Tell ReadFault ∷ []) ∙ or_from (rings acts) false (goes_quiet g) refl, faulted_append acts (Tell ReadFault ∷ []) ∙ or_right (faulted acts) true refl)
ends_caused (overflows g op) = goes_quiet g
ends_caused (stops {acts} g op) = (
  rings_append acts (Tell Silence ∷ Hear true ∷ []) ∙ or_from (rings acts) false (goes_quiet g) refl,
  silent_append acts (Tell Silence ∷ Hear true ∷ []) ∙ or_right (silent acts) true refl,
  tolled_append acts (Tell Silence ∷ Hear true ∷ []) ∙ or_right (tolled acts) true refl,
)

caused_more : (end : SessionEnd) (talk back : List Act) → rings back ≡ false → Caused end talk → Caused end (talk ++ back)
caused_more ends.Quit talk back e h = rings_append talk back ∙ or_from (rings talk) (rings back) h e
caused_more ends.Down talk back e h = rings_append talk back ∙ or_left (rings talk) (rings back) h
caused_more ends.End talk back e h = rings_append talk back ∙ or_from (rings talk) (rings back) h e
caused_more (ends.Torn n) talk back e h = rings_append talk back ∙ or_from (rings talk) (rings back) h e
caused_more ends.LineTooLong talk back e h = rings_append talk back ∙ or_from (rings talk) (rings back) h e
caused_more ends.LinkFault talk back e h = (rings_append talk back ∙ or_from (rings talk) (rings back) h.0 e, faulted_append talk back ∙ or_left (faulted talk) (faulted back) h.1)
caused_more ends.Stopped talk back e h = (
  rings_append talk back ∙ or_from (rings talk) (rings back) h.0 e,
  silent_append talk back ∙ or_left (silent talk) (silent back) h.1,
  tolled_append talk back ∙ or_left (tolled talk) (tolled back) h.2,
)

session_caused : (o : Setup) (acts : List Act) (end : SessionEnd) → Session o acts end → Caused end acts
session_caused o acts end s = subst (λ (a : List Act). Caused end a) (sym s.whole) (caused_more end s.talk s.back (any_quiet Keeping o s.talk s.client kind.Quit s.back s.gives_back) (ends_caused s.ended))

has_cause : (end : SessionEnd) (acts : List Act) (f0 f1 q0 q1 t0 t1 r0 r1 : ℕ) → Counted (faulted acts) f0 f1 → Counted (silent acts) q0 q1 → Counted (tolled acts) t0 t1 → Counted (rings acts) r0 r1 → Caused end acts → HasCause end f0 f1 q0 q1 t0 t1 r0 r1
has_cause ends.Quit acts f0 f1 q0 q1 t0 t1 r0 r1 f q t r h = record { fault = λ e. absurd cc; quiet = λ e. absurd cc; toll = λ e. absurd cc; rung = λ e. absurd cc; unrung = λ n. r.stands h }
has_cause ends.Down acts f0 f1 q0 q1 t0 t1 r0 r1 f q t r h = record { fault = λ e. absurd cc; quiet = λ e. absurd cc; toll = λ e. absurd cc; rung = λ e. r.rises h; unrung = λ n. absurd (n refl) }
has_cause ends.End acts f0 f1 q0 q1 t0 t1 r0 r1 f q t r h = record { fault = λ e. absurd cc; quiet = λ e. absurd cc; toll = λ e. absurd cc; rung = λ e. absurd cc; unrung = λ n. r.stands h }
has_cause (ends.Torn n) acts f0 f1 q0 q1 t0 t1 r0 r1 f q t r h = record { fault = λ e. absurd cc; quiet = λ e. absurd cc; toll = λ e. absurd cc; rung = λ e. absurd cc; unrung = λ m. r.stands h }
has_cause ends.LineTooLong acts f0 f1 q0 q1 t0 t1 r0 r1 f q t r h = record { fault = λ e. absurd cc; quiet = λ e. absurd cc; toll = λ e. absurd cc; rung = λ e. absurd cc; unrung = λ n. r.stands h }
has_cause ends.LinkFault acts f0 f1 q0 q1 t0 t1 r0 r1 f q t r h = record { fault = λ e. f.rises h.1; quiet = λ e. absurd cc; toll = λ e. absurd cc; rung = λ e. absurd cc; unrung = λ n. r.stands h.0 }
has_cause ends.Stopped acts f0 f1 q0 q1 t0 t1 r0 r1 f q t r h = record { fault = λ e. absurd cc; quiet = λ e. q.rises h.1; toll = λ e. t.rises h.2; rung = λ e. absurd cc; unrung = λ n. r.stands h.0 }

pub session_cause : (o : Setup) (acts : List Act) (end : SessionEnd) (f0 f1 q0 q1 t0 t1 r0 r1 : ℕ) → Session o acts end → Counted (faulted acts) f0 f1 → Counted (silent acts) q0 q1 → Counted (tolled acts) t0 t1 → Counted (rings acts) r0 r1 → HasCause end f0 f1 q0 q1 t0 t1 r0 r1
session_cause o acts end f0 f1 q0 q1 t0 t1 r0 r1 s f q t r = has_cause end acts f0 f1 q0 q1 t0 t1 r0 r1 f q t r (session_caused o acts end s)
