-- What a session heard is the lines that it answered, and a rest.
use Rattle.std.proofs.Common.{append_assoc, arith, length-append, ◌≡◌, ◌∙◌, ◌++◌, ◌∷◌, [], List, ℕ, Bool, true, false, inl, inr, length, nat_lt, ap, refl, Option, Some, None, Result, Ok, Err}
use Rattle.std.proofs.lemmas.Grind.{flat_map-append}
use Rattle.std.specs.List.{AllByRecursion, flat_map}
use Rattle.std.proofs.lemmas.List.{append-nil}
use Rattle.line_protocol.specs.Replies.{line_of}
use Rattle.line_protocol.specs.Streams.{Begins, stream_of}
use Rattle.session.specs.Reading.{HasRead, IsLine, SessionsRead, heard_in, heard_of, written_in, written_of}
use Rattle.feature_lines.specs.declared.route.Found.{Found}
use Rattle.feature_lines.specs.declared.route.Found.TheVariants.{Pool as At, Unknown, Expired}
use Rattle.lic_types.specs.declared.client.Client.{Client}
use Rattle.line_protocol.specs.Requests.{number_of_fault, request_of}
use Rattle.line_protocol.specs.declared.told.Told.{Told}
use Rattle.line_protocol.specs.declared.told.Told.TheVariants as told
use Rattle.line_protocol.specs.declared.wire.Wire.{Wire}
use Rattle.line_protocol.specs.declared.wire.WireFault.{WireFault}
use Rattle.office_view.specs.View.{first_named}
use Rattle.options_machine.specs.declared.reply.Kind.{Kind}
use Rattle.options_machine.specs.declared.reply.Kind.TheVariants as kind
use Rattle.session_outside.specs.Talk.{Ended, Event, Heard, ReadFault, Silence, WriteFault, Wrote}
use Rattle.session.specs.Acts.{Act, Tell, Hear, Ring, talk_of}
use Rattle.session.specs.Session.{Ends, Goes, answers, breaks, closes, finishes, hears, looks, opens, overflows, stops}
use Rattle.session.specs.Table.{Answers, AsksAny, AsksEach, Does, Setup, Leaves, Meets, Obeys, Rereads, Served, Shows, WritesAnd, desks, found_or, input_of, kept_pool, or_else, party_at, reply_to, found_by_route}
use Rattle.session.specs.declared.asked.Input.{Input}
use Rattle.session.specs.declared.asked.Input.TheVariants as input
use Rattle.session.specs.declared.asked.Whom.{Whom}
use Rattle.session.specs.declared.asked.Whom.TheVariants.{Holding, Keeping, Everyone}
use Rattle.session.specs.declared.end.SessionEnd.{SessionEnd}
use Rattle.session.specs.declared.end.SessionEnd.TheVariants as ends

pub talk_append : (as' bs : List Act) → talk_of (as' ++ bs) ≡ talk_of as' ++ talk_of bs
talk_append as' bs = flat_map-append _ as' bs

heard_append : (as' bs : List Act) → heard_of (as' ++ bs) ≡ heard_of as' ++ heard_of bs
heard_append as' bs = ap (flat_map heard_in) (talk_append as' bs) ∙ flat_map-append heard_in (talk_of as') (talk_of bs)

written_append : (as' bs : List Act) → written_of (as' ++ bs) ≡ written_of as' ++ written_of bs
written_append as' bs = ap (flat_map written_in) (talk_append as' bs) ∙ flat_map-append written_in (talk_of as') (talk_of bs)

-- a line is written, whole or in part
abbrev pub IsReply : Event → Type 0
IsReply (Heard piece) = ⊥
IsReply Silence = ⊥
IsReply Ended = ⊥
IsReply ReadFault = ⊥
IsReply (Wrote piece) = Unit {0}
IsReply (WriteFault part) = Unit {0}

-- all that the link sees of these acts is one line that is written
pub record Says (acts : List Act) : Type 0 where
  pub reply : Event
  pub is_reply : IsReply reply
  pub talk : talk_of acts ≡ reply ∷ []

reply_heard : (e : Event) → IsReply e → flat_map heard_in (e ∷ []) ≡ []
reply_heard (Heard piece) r = absurd r
reply_heard Silence r = absurd r
reply_heard Ended r = absurd r
reply_heard ReadFault r = absurd r
reply_heard (Wrote piece) r = refl
reply_heard (WriteFault part) r = refl

reply_written : (e : Event) → IsReply e → length (flat_map written_in (e ∷ [])) ≡ 1
reply_written (Heard piece) r = absurd r
reply_written Silence r = absurd r
reply_written Ended r = absurd r
reply_written ReadFault r = absurd r
reply_written (Wrote piece) r = refl
reply_written (WriteFault part) r = refl

says_heard : (acts : List Act) → Says acts → heard_of acts ≡ []
says_heard acts s = ap (flat_map heard_in) s.talk ∙ reply_heard s.reply s.is_reply

says_written : (acts : List Act) → Says acts → length (written_of acts) ≡ 1
says_written acts s = ap (λ l. length (flat_map written_in l)) s.talk ∙ reply_written s.reply s.is_reply

as_said : (late new : List Act) → talk_of new ≡ talk_of late → Says late → Says new
as_said late new is s = record { reply = s.reply; is_reply = s.is_reply; talk = is ∙ s.talk }

said_after : (early late new : List Act) → new ≡ early ++ late → talk_of early ≡ [] → Says late → Says new
said_after early late new is quiet s = as_said late new (ap talk_of is ∙ talk_append early late ∙ ap (λ l. l ++ talk_of late) quiet) s

writes_says : (t : Told) (more : List Act) (next out : Option SessionEnd) (new : List Act) → talk_of more ≡ [] → WritesAnd t more next new out → Says new
writes_says t more next out new h (inl w) = record { reply = Wrote (line_of t); is_reply = tt; talk = ap talk_of w.0 ∙ ap (λ l. Wrote (line_of t) ∷ l) h }
writes_says t more next out new h (inr w) = record { reply = WriteFault w.0; is_reply = tt; talk = ap talk_of w.3 }

asks_quiet : (client : Client) (what : Kind) (js : List ℕ) (new : List Act) → AsksEach client what js new → talk_of new ≡ []
asks_quiet client what [] new h = ap talk_of h
asks_quiet client what (j ∷ js) new h = ap talk_of h.3 ∙ asks_quiet client what js h.2 h.5

pub any_quiet : (whom : Whom) (o : Setup) (acts : List Act) (client : Option Client) (what : Kind) (new : List Act) → AsksAny whom o acts client what new → talk_of new ≡ []
any_quiet whom o acts None what new h = ap talk_of h
any_quiet whom o acts (Some c) what new h = asks_quiet c what (desks whom o acts (length o.pools)) new h

leaves_says : (o : Setup) (acts : List Act) (client : Option Client) (t : Told) (more : List Act) (end : SessionEnd) (new : List Act) (out : Option SessionEnd) → talk_of more ≡ [] → Leaves o acts client t more end new out → Says new
leaves_says o acts client t more end new out h l = said_after l.0 l.1 new l.2 (any_quiet Keeping o acts client kind.Quit l.0 l.3) (writes_says t more (Some end) out l.1 h l.4)

meets_says : (o : Setup) (acts : List Act) (i : Input) (new : List Act) (then : Option Client) (out : Option SessionEnd) → Meets o acts i new then out → Says new
meets_says o acts (input.Hello client) new then out h = writes_says (told.Welcome (party_at o 0)) [] None out new refl h.1
meets_says o acts input.Quit new then out h = leaves_says o acts None told.Bye [] ends.Quit new out refl h.1
meets_says o acts input.Shutdown new then out h = leaves_says o acts None told.Stopping (Ring ∷ []) ends.Down new out refl h.1
meets_says o acts (input.Ask f) new then out h = writes_says told.NoHello [] None out new refl h.1
meets_says o acts (input.Glance name) new then out h = writes_says told.NoHello [] None out new refl h.1
meets_says o acts (input.Reread n) new then out h = writes_says told.NoHello [] None out new refl h.1

served_says : (client : Client) (what : Kind) (at : ℕ) (found : Found) (new : List Act) (out : Option SessionEnd) → Served client what at found new out → Says new
served_says client what at (At j) new out h = as_said h.1 new (ap talk_of h.2) (writes_says (reply_to h.0) [] None out h.1 refl h.4)
served_says client what at Unknown new out h = writes_says told.Unknown [] None out new refl h
served_says client what at (Expired day) new out h = writes_says (told.Expired day) [] None out new refl h

shows_says : (p : Option ℕ) (new : List Act) (out : Option SessionEnd) → Shows p new out → Says new
shows_says (Some j) new out h = as_said h.1 new (ap talk_of h.2) (writes_says (told.Glance h.0.glance) [] None out h.1 refl h.3)
shows_says None new out h = writes_says told.Unknown [] None out new refl h

rereads_says : (o : Setup) (acts : List Act) (client : Client) (n : ℕ) (b : Bool) (new : List Act) (out : Option SessionEnd) → Rereads o acts client n b new out → Says new
rereads_says o acts client n true new out h = said_after h.0 h.1 new h.2 (asks_quiet client (kind.Reread n) (desks Everyone o acts (length o.pools)) h.0 h.3) (writes_says (told.Reread n) [] None out h.1 refl h.4)
rereads_says o acts client n false new out h = writes_says (told.NoRules n) [] None out new refl h

does_says : (o : Setup) (acts : List Act) (client : Client) (i : Input) (new : List Act) (out : Option SessionEnd) → Does o acts client i new out → Says new
does_says o acts client (input.Hello other) new out h = writes_says told.Greeted [] None out new refl h
does_says o acts client (input.Ask f) new out h = as_said h.1 new (ap talk_of h.2) (served_says client f.kind h.0 (found_or (kept_pool o acts f.name) (found_by_route o.pools f.name h.0 f.version)) h.1 out h.3)
does_says o acts client (input.Glance name) new out h = shows_says (or_else (kept_pool o acts name) (first_named o.pools name)) new out h
does_says o acts client (input.Reread n) new out h = rereads_says o acts client n (nat_lt n o.sets) new out h
does_says o acts client input.Quit new out h = leaves_says o acts (Some client) told.Bye [] ends.Quit new out refl h
does_says o acts client input.Shutdown new out h = leaves_says o acts (Some client) told.Stopping (Ring ∷ []) ends.Down new out refl h

obeys_says : (o : Setup) (acts : List Act) (client : Option Client) (i : Input) (new : List Act) (then : Option Client) (out : Option SessionEnd) → Obeys o acts client i new then out → Says new
obeys_says o acts None i new then out h = meets_says o acts i new then out h
obeys_says o acts (Some c) i new then out h = does_says o acts c i new out h.1

-- a line is answered by one line
pub answers_says : (o : Setup) (acts : List Act) (client : Option Client) (req : Result Wire WireFault) (new : List Act) (then : Option Client) (out : Option SessionEnd) → Answers o acts client req new then out → Says new
answers_says o acts client (Err fault) new then out h = writes_says (told.Bad (number_of_fault fault)) [] None out new refl h.1
answers_says o acts client (Ok request) new then out h = obeys_says o acts client (input_of request) new then out h

-- lines that were read so far, and what waits
record Read (acts : List Act) (pending : List ℕ) : Type 0 where
  lines : List (List ℕ)
  heard : heard_of acts ≡ stream_of lines pending
  each : AllByRecursion IsLine lines
  answered : length (written_of acts) ≡ length lines

joined_piece : (lines : List (List ℕ)) (pending piece : List ℕ) → stream_of lines pending ++ piece ≡ stream_of lines (pending ++ piece)
joined_piece [] pending piece = refl
joined_piece (l ∷ ls) pending piece = append_assoc l (10 ∷ stream_of ls pending) piece ∙ ap (λ t. l ++ 10 ∷ t) (joined_piece ls pending piece)

joined_line : (lines : List (List ℕ)) (line rest : List ℕ) → stream_of lines (line ++ 10 ∷ rest) ≡ stream_of (lines ++ line ∷ []) rest
joined_line [] line rest = refl
joined_line (l ∷ ls) line rest = ap (λ t. l ++ 10 ∷ t) (joined_line ls line rest)

each_more : (lines : List (List ℕ)) (line : List ℕ) → AllByRecursion IsLine lines → IsLine line → AllByRecursion IsLine (lines ++ line ∷ [])
each_more [] line h k = (k, tt)
each_more (l ∷ ls) line h k = (h.0, each_more ls line h.1 k)

-- acts of which the link sees nothing that is heard or written
heard_more : (acts new : List Act) → heard_of new ≡ [] → heard_of (acts ++ new) ≡ heard_of acts
heard_more acts new e = heard_append acts new ∙ ap (λ l. heard_of acts ++ l) e ∙ append-nil (heard_of acts)

written_more : (acts new : List Act) → written_of new ≡ [] → written_of (acts ++ new) ≡ written_of acts
written_more acts new e = written_append acts new ∙ ap (λ l. written_of acts ++ l) e ∙ append-nil (written_of acts)

read_more : (acts new : List Act) (pending : List ℕ) → heard_of new ≡ [] → written_of new ≡ [] → Read acts pending → Read (acts ++ new) pending
read_more acts new pending e w r = record { lines = r.lines; heard = heard_more acts new e ∙ r.heard; each = r.each; answered = ap length (written_more acts new w) ∙ r.answered }

-- acts of which the link sees nothing
read_on : (acts new : List Act) (pending : List ℕ) → talk_of new ≡ [] → Read acts pending → Read (acts ++ new) pending
read_on acts new pending quiet r = read_more acts new pending (ap (flat_map heard_in) quiet) (ap (flat_map written_in) quiet) r

read_line : (acts new : List Act) (pending line rest : List ℕ) → Says new → Begins pending line rest → Read acts pending → Read (acts ++ new) rest
read_line acts new pending line rest s b r = record {
  lines = r.lines ++ line ∷ [];
  heard = heard_more acts new (says_heard new s) ∙ r.heard ∙ ap (stream_of r.lines) b.whole ∙ joined_line r.lines line rest;
  each = each_more r.lines line r.each (record { flat = b.flat; short = b.short });
  answered =
      let all = ap length (written_append acts new) ∙ length-append (written_of acts) (written_of new) in
      let one = says_written new s in let more = length-append r.lines (line ∷ []) in let old = r.answered in
      omega (arith, all, one, more, old);
}

goes_read : {o : Setup} {acts : List Act} {client : Option Client} {pending : List ℕ} → Goes o acts client pending → Read acts pending
goes_read opens = record { lines = []; heard = refl; each = tt; answered = refl }
goes_read (hears {acts} {client} {pending} piece g op) =
    let r = goes_read g in
    record {
      lines = r.lines;
      heard = heard_append acts (Tell (Heard piece) ∷ []) ∙ ap (λ l. heard_of acts ++ l) (append-nil piece) ∙ ap (λ l. l ++ piece) r.heard ∙ joined_piece r.lines pending piece;
      each = r.each;
      answered = ap length (written_more acts (Tell (Heard piece) ∷ []) refl) ∙ r.answered;
    }
goes_read {o} (answers {acts} {client} {pending} line rest new then g b a) = read_line acts new pending line rest (answers_says o acts client (request_of line) new then None a) b (goes_read g)
goes_read {o} (looks {acts} {client} {pending} new g op l) =
    let quiet : List Act = Tell Silence ∷ Hear false ∷ [] in
    read_on (acts ++ quiet) new pending (any_quiet Holding o (acts ++ quiet) client kind.Look new l) (read_more acts quiet pending refl refl (goes_read g))

has_read : (acts new : List Act) (pending : List ℕ) → heard_of new ≡ [] → written_of new ≡ [] → Read acts pending → HasRead (acts ++ new)
has_read acts new pending e w r = let m = read_more acts new pending e w r in record { lines = m.lines; rest = pending; heard = m.heard; each = m.each; answered = m.answered }

ends_read : {o : Setup} {acts : List Act} {client : Option Client} {end : SessionEnd} → Ends o acts client end → HasRead acts
ends_read {o} (finishes {acts} {client} {pending} line rest new then end g b a) =
    let r = read_line acts new pending line rest (answers_says o acts client (request_of line) new then (Some end) a) b (goes_read g) in
    record { lines = r.lines; rest = rest; heard = r.heard; each = r.each; answered = r.answered }
ends_read (closes {acts} {client} {pending} g op) = has_read acts (Tell Ended ∷ []) pending refl refl (goes_read g)
ends_read (breaks {acts} {client} {pending} g op) = has_read acts (Tell ReadFault ∷ []) pending refl refl (goes_read g)
ends_read (overflows {acts} {client} {pending} g op) = let r = goes_read g in record { lines = r.lines; rest = pending; heard = r.heard; each = r.each; answered = r.answered }
ends_read (stops {acts} {client} {pending} g op) = has_read acts (Tell Silence ∷ Hear true ∷ []) pending refl refl (goes_read g)

pub sessions_read : SessionsRead
sessions_read o acts end s =
    let r = ends_read s.ended in
    let quiet : talk_of s.back ≡ [] = any_quiet Keeping o s.talk s.client kind.Quit s.back s.gives_back in
    record {
      lines = r.lines;
      rest = r.rest;
      heard = ap heard_of s.whole ∙ heard_more s.talk s.back (ap (flat_map heard_in) quiet) ∙ r.heard;
      each = r.each;
      answered = ap (λ (a : List Act). length (written_of a)) s.whole ∙ ap length (written_more s.talk s.back (ap (flat_map written_in) quiet)) ∙ r.answered;
    }
