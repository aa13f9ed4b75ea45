-- What a client's session comes to, round after round.
use Rattle.std.proofs.Common.{◌≡◌, ◌⊎◌, inl, inr, ℕ, ◌+◌, ◌%◌, ◌<◌, ◌≤◌, ◌^◌, ◌∙◌, Bool, true, false, ◌||◌, cond, nat_le, nat_lt, List, [], ◌∷◌, ◌++◌, get_or, length, decimal, ap, refl, sym, subst, arith, append_assoc, length-append, Option, None, Some, Ok}
use Rattle.std.proofs.lemmas.Bool.{and_parts, leb-true, ltb-true, ltb-false}
use Rattle.std.proofs.lemmas.Bool.Decides.{nat_tests}
use Rattle.std.proofs.lemmas.Fmt.{length-decimal-le}
use Rattle.std.proofs.lemmas.List.{append-nil}
use Rattle.std.proofs.lemmas.List.Elements.{All-head, All-tail}
use Rattle.std.proofs.Math.Seq.{get_or-append_seam}
use Rattle.std.specs.List.{list_all}
use Rattle.counter.specs.Account.{Asking, grants}
use Rattle.feature_lines.specs.declared.route.Found.TheVariants.{Pool as At}
use Rattle.lic_types.specs.declared.client.Client.{Client}
use Rattle.line_protocol.specs.Replies.{line_of as reply_line}
use Rattle.line_protocol.specs.Requests.{is_request_byte, request_of}
use Rattle.line_protocol.specs.Streams.{Begins, IsFlat, IsOpen, IsOverlong}
use Rattle.line_protocol.specs.declared.told.Told.{Told}
use Rattle.line_protocol.specs.declared.told.Told.TheVariants as told
use Rattle.line_protocol.specs.declared.wire.Wire.TheVariants as wire
use Rattle.options_machine.proofs.Counts.{count-push}
use Rattle.options_machine.proofs.Quits.{standing-snoc}
use Rattle.options_machine.specs.Own.{brings_seat, holds, is_of_holding, is_of_queueing, is_some_of, own, queues, standing}
use Rattle.options_machine.specs.Run.{IsRun}
use Rattle.options_machine.specs.Step.{set_asked}
use Rattle.options_machine.specs.declared.reply.Charge.{Charge}
use Rattle.options_machine.specs.declared.reply.Entry.{Entry}
use Rattle.options_machine.specs.declared.reply.Kind.{Kind}
use Rattle.options_machine.specs.declared.reply.Kind.TheVariants as kind
use Rattle.options_machine.specs.declared.reply.Reply.TheVariants as reply
use Rattle.session.proofs.Lines.{IsReply, answers_says, any_quiet, talk_append}
use Rattle.session.proofs.Standing.{entries_append}
use Rattle.session.specs.Acts.{Act, Tell, Moment, Enter, Hear, entries, talk_of}
use Rattle.session.specs.Session.{Ends, Goes, Session, answers, breaks, closes, finishes, hears, looks, opens, overflows, stops}
use Rattle.session.specs.Table.{Answers, AsksEach, GivesBack, Served, Setup, WritesAnd, found_or, reply_to, seat_in}
use Rattle.session.specs.declared.end.SessionEnd.{SessionEnd}
use Rattle.session.specs.declared.end.SessionEnd.TheVariants as ends
use Rattle.session_outside.specs.Talk.{Event, Heard, Silence, Ended, ReadFault, Wrote, WriteFault}
use Rattle.trial_link.specs.Plays.{IsTalk, Plays, is_silent, is_unasked}
use Rattle.trial_link.specs.Stages.{left_of, line_of, played_after, stage_after}
use Rattle.trial_link.specs.declared.call.Call.{Call}
use Rattle.trial_link.specs.declared.call.Call.TheVariants.{Hello, Checkout, Checkin, Quit}
use Rattle.trial_link.specs.declared.call.Stage.{Stage}
use Rattle.trial_link.specs.declared.call.Stage.TheVariants.{Gives, Awaits, Over}
use Rattle.trial_rounds.proofs.Clients.{Came, came, is_new}
use Rattle.trial_rounds.proofs.Lines.{body_of, client_of, greets, hello_bytes, hello_words, last_words, later_words, line_is, numbered}
use Rattle.trial_rounds.proofs.Seats.{IsGrantedOrFull, SaysNothing, asker_is, checkin_answered, checkout_answered}
use Rattle.trial_rounds.specs.Rounds.{trial_sets, trial_setup}

-- A line and what follows it.

-- where bytes begin with a line, and with another that may be a request, these are one
first_line : (xs ys r s : List ℕ) → IsFlat xs → list_all is_request_byte ys ≡ true → xs ++ 10 ∷ r ≡ ys ++ 10 ∷ s → (xs ≡ ys) × (r ≡ s)
first_line [] [] r s flat each e = (refl, cc)
first_line [] (y ∷ ys) r s flat each e =
    let b = and_parts (nat_le 32 y) (nat_le y 126) (and_parts (is_request_byte y) (list_all is_request_byte ys) each).0 in
    let low : 32 ≤ y = leb-true 32 y b.0 in
    let is : 10 ≡ y = cc in
    absurd (omega arith)
first_line (x ∷ xs) [] r s flat each e =
    let is : x ≡ 10 = cc in
    absurd (All-head (λ b. b ≡ 10 → ⊥) x xs flat is)
first_line (x ∷ xs) (y ∷ ys) r s flat each e =
    let others : xs ++ 10 ∷ r ≡ ys ++ 10 ∷ s = cc in
    let both = first_line xs ys r s (All-tail (λ b. b ≡ 10 → ⊥) x xs flat) (and_parts (is_request_byte y) (list_all is_request_byte ys) each).1 others in
    let same : x ≡ y = cc in
    (ap (λ z. z ∷ xs) same ∙ ap (λ l. y ∷ l) both.0, both.1)

body_bytes : (party : ℕ) → party < 2 ^ 32 → (call : Call) → list_all is_request_byte (body_of party call) ≡ true
body_bytes party small Hello = hello_bytes party small
body_bytes party small Checkout = refl
body_bytes party small Checkin = refl
body_bytes party small Quit = refl

line_some : (party : ℕ) (call : Call) → 0 < length (line_of party call)
line_some party Hello = omega arith
line_some party Checkout = omega arith
line_some party Checkin = omega arith
line_some party Quit = omega arith

line_short : (party : ℕ) → party < 2 ^ 32 → (call : Call) → length (line_of party call) ≤ 1024
line_short party small Hello =
    let d : length (decimal party) ≤ 10 = length-decimal-le 10 party (omega arith) (omega arith) (omega arith) in
    let two : length (last_words party) ≤ 30 = omega (arith, d, length-append (decimal party) (32 ∷ numbered 112 party)) in
    let three : length (later_words party) ≤ 50 = omega (arith, d, two, length-append (decimal party) (32 ∷ last_words party)) in
    let four : length (hello_words party) ≤ 70 = omega (arith, d, three, length-append (decimal party) (32 ∷ later_words party)) in
    omega (arith, four, ap length (line_is party Hello), length-append (body_of party Hello) (10 ∷ []))
line_short party small Checkout = omega arith
line_short party small Checkin = omega arith
line_short party small Quit = omega arith

-- What an answer says, and what it is.

-- a line was written, and this is it
written : (t : Told) (more : List Act) (next out : Option SessionEnd) (new : List Act) (reply : List ℕ) → WritesAnd t more next new out → talk_of new ≡ Wrote reply ∷ [] → (new ≡ Tell (Wrote (reply_line t)) ∷ more) × (out ≡ next) × (reply ≡ reply_line t)
written t more next out new reply (inl w) is =
    let all : Wrote (reply_line t) ∷ talk_of more ≡ Wrote reply ∷ [] = sym (ap talk_of w.0) ∙ is in
    let same : reply ≡ reply_line t = cc in
    (w.0, w.1, same)
written t more next out new reply (inr w) is =
    let all : WriteFault w.0 ∷ [] ≡ Wrote reply ∷ [] = sym (ap talk_of w.3) ∙ is in
    absurd cc

-- a client is granted a seat by a line that begins so, and finds none by another
granted_line : (charge : Charge) (seat : Option ℕ) (place : ℕ) (more : Bool) → stage_after Checkout (reply_line (told.Desk (reply.Granted charge) seat place)) more ≡ Gives Checkin
granted_line charge None place more = refl
granted_line charge (Some n) place more = refl

full_line : (taken free : ℕ) (seat : Option ℕ) (place : ℕ) (more : Bool) → stage_after Checkout (reply_line (told.Desk (reply.NoSeat taken free) seat place)) more ≡ Gives Checkout
full_line taken free None place more = refl
full_line taken free (Some n) place more = refl

-- the party's standing reply after an entry of its own that asks for no rule set
stands_last : (mine : List Entry) (e : Entry) (party : ℕ) (what : Kind) → e.request.party ≡ party → e.request.kind ≡ what → set_asked what ≡ None → standing (mine ++ e ∷ []) party ≡ Some e.reply
stands_last mine e party what is asked none = standing-snoc party None mine e ∙ rw (asked, none) (grind (arith, nat_tests))

-- what a client keeps at a call

abbrev has_seat : Call → Bool
has_seat Hello = false
has_seat Checkout = false
has_seat Checkin = true
has_seat Quit = false

abbrev ahead : Call → ℕ
ahead Hello = 0
ahead Checkout = 0
ahead Checkin = 1
ahead Quit = 0

abbrev IsKnown : Call → Option Client → Type 0
IsKnown Hello client = client ≡ None
IsKnown Checkout client = (c : Client) × (client ≡ Some c)
IsKnown Checkin client = (c : Client) × (client ≡ Some c)
IsKnown Quit client = (c : Client) × (client ≡ Some c)

abbrev IsTimely : ℕ → ℕ → Call → Type 0
IsTimely rounds played Hello = played < rounds
IsTimely rounds played Checkout = played < rounds
IsTimely rounds played Checkin = played < rounds
IsTimely rounds played Quit = played ≡ rounds

-- where a client's session stands at a call: who is known, what its entries say, and how often it was granted a seat
record Stands (party rounds : ℕ) (mine : List Entry) (client : Option Client) (call : Call) (played : ℕ) : Type 0 where
  known : IsKnown call client
  seated : holds mine party ≡ has_seat call
  unqueued : queues mine party ≡ false
  granted : grants mine ≡ played + ahead call
  timely : IsTimely rounds played call

-- where it ends
record IsDone (party rounds : ℕ) (mine : List Entry) : Type 0 where
  seated : holds mine party ≡ false
  unqueued : queues mine party ≡ false
  granted : grants mine ≡ rounds

-- what comes of a reply
abbrev Next : ℕ → ℕ → Call → ℕ → List ℕ → List Entry → Option Client → Option SessionEnd → Type 0
Next party rounds call played reply mine after None = (next : Call) × (stage_after call reply (nat_lt (played_after call played) rounds) ≡ Gives next) × Stands party rounds mine after next (played_after call played)
Next party rounds call played reply mine after (Some end) = IsDone party rounds mine

module _ (seats : ℕ) (few : seats < 2 ^ 32) (party rounds : ℕ) (small : party < 2 ^ 32) (h : List Entry) (run : IsRun (trial_sets seats) h) where
  abbrev o : Setup
  o = trial_setup seats party

  abbrev mine_of : List Act → List Entry
  mine_of acts = entries 0 acts

  -- acts without an entry
  same_mine : (acts new : List Act) → mine_of new ≡ [] → mine_of (acts ++ new) ≡ mine_of acts
  same_mine acts new none = entries_append 0 acts new ∙ ap (λ (l : List Entry). mine_of acts ++ l) none ∙ append-nil (mine_of acts)

  -- acts with one
  one_mine : (acts new : List Act) (e : Entry) → mine_of new ≡ e ∷ [] → mine_of (acts ++ new) ≡ mine_of acts ++ e ∷ []
  one_mine acts new e is = entries_append 0 acts new ∙ ap (λ (l : List Entry). mine_of acts ++ l) is

  -- the trial's feature is at its one pool
  found_or_first : (b : Bool) → found_or (cond b (Some 0) None) (At 0) ≡ At 0
  found_or_first true = refl
  found_or_first false = refl

  -- where one entry was made at the one desk, and its reply was written
  record Asked (acts new : List Act) (client : Client) (what : Kind) (reply : List ℕ) (out : Option SessionEnd) : Type 0 where
    asking : Asking
    kind_is : asking.entry.request.kind ≡ what
    mine : mine_of (acts ++ new) ≡ mine_of acts ++ asking.entry ∷ []
    goes_on : out ≡ None
    reply_is : reply ≡ reply_line (reply_to asking)

  asked_at : (acts new later : List Act) (client : Client) (what : Kind) (at : ℕ) (reply : List ℕ) (out : Option SessionEnd) → new ≡ Moment at ∷ later → Served client what at (At 0) later out → talk_of new ≡ Wrote reply ∷ [] → Asked acts new client what reply out
  asked_at acts new later client what at reply out is s said =
      let talk : talk_of s.1 ≡ Wrote reply ∷ [] = sym (ap talk_of is ∙ ap talk_of s.2) ∙ said in
      let w = written (reply_to s.0) [] None out s.1 reply s.4 talk in
      record {
        asking = s.0;
        kind_is = s.3.kind;
        mine = one_mine acts new s.0.entry (ap mine_of is ∙ ap mine_of s.2 ∙ ap (λ (l : List Act). mine_of (Enter 0 s.0 ∷ l)) w.0);
        goes_on = w.1;
        reply_is = w.2;
      }

  module _ (acts new : List Act) (client after : Option Client) (out : Option SessionEnd) (played : ℕ) (reply : List ℕ) (said : talk_of new ≡ Wrote reply ∷ []) where
    abbrev Then : Call → Option SessionEnd → Type 0
    Then call end = Next party rounds call played reply (mine_of (acts ++ new)) after end

    abbrev Stood : Call → Type 0
    Stood call = Stands party rounds (mine_of acts) client call played

    greeted : Stood Hello → Answers o acts client (request_of (body_of party Hello)) new after out → Then Hello out
    greeted s a =
        let b = subst (λ c. Answers o acts c (Ok (wire.Hello (client_of party))) new after out) s.known (subst (λ r. Answers o acts client r new after out) (greets party small) a) in
        let w = written (told.Welcome party) [] None out new reply b.1 said in
        let now : Stands party rounds (mine_of acts) after Checkout played = record { known = (client_of party, b.0); seated = s.seated; unqueued = s.unqueued; granted = s.granted; timely = s.timely } in
        subst (Then Hello) (sym w.1) (Checkout, refl, subst (λ m. Stands party rounds m after Checkout played) (sym (same_mine acts new (ap mine_of w.0))) now)

    -- where it stands behind one entry of its own
    stands_behind : {c : Client} (what : Kind) (call next : Call) (then : ℕ) (q : Asked acts new c what reply out) → set_asked what ≡ None → q.asking.entry.request.party ≡ party → Stood call → IsKnown next after → is_of_holding q.asking.entry.reply ≡ has_seat next → is_of_queueing q.asking.entry.reply ≡ false → played + ahead call + cond (brings_seat q.asking.entry.reply) 1 0 ≡ then + ahead next → IsTimely rounds then next → Stands party rounds (mine_of (acts ++ new)) after next then
    stands_behind what call next then q plain who s known holding queueing brought timely =
        let e = q.asking.entry in
        let m = mine_of acts in
        let standing_is = stands_last m e party what who q.kind_is plain in
        let now : Stands party rounds (m ++ e ∷ []) after next then = record {
          known = known;
          seated = ap (is_some_of is_of_holding) standing_is ∙ holding;
          unqueued = ap (is_some_of is_of_queueing) standing_is ∙ queueing;
          granted = omega (arith, count-push (λ (x : Entry). brings_seat x.reply) m e, s.granted, brought);
          timely = timely;
        } in
        subst (λ l. Stands party rounds l after next then) (sym q.mine) now

    seat_next : (c : Client) (q : Asked acts new c kind.Checkout reply out) → q.asking.entry.request.party ≡ party → after ≡ Some c → Stood Checkout → IsGrantedOrFull q.asking.entry.reply → Then Checkout None
    seat_next c q who known s (inl (charge, is)) =
        let one = ap {B = ℕ} (λ r. cond (brings_seat r) 1 0) is in
        let more = nat_lt played rounds in (
          Checkin,
          ap (λ r. stage_after Checkout r more) q.reply_is ∙ ap (λ r. stage_after Checkout (reply_line (told.Desk r (seat_in q.asking.seats) (length q.asking.before % 2 ^ 64))) more) is ∙ granted_line charge (seat_in q.asking.seats) (length q.asking.before % 2 ^ 64) more,
          stands_behind kind.Checkout Checkout Checkin played q refl who s (c, known) (ap is_of_holding is) (ap is_of_queueing is) (omega (arith, one)) s.timely,
        )
    seat_next c q who known s (inr (taken, free, is)) =
        let none = ap {B = ℕ} (λ r. cond (brings_seat r) 1 0) is in
        let more = nat_lt played rounds in (
          Checkout,
          ap (λ r. stage_after Checkout r more) q.reply_is ∙ ap (λ r. stage_after Checkout (reply_line (told.Desk r (seat_in q.asking.seats) (length q.asking.before % 2 ^ 64))) more) is ∙ full_line taken free (seat_in q.asking.seats) (length q.asking.before % 2 ^ 64) more,
          stands_behind kind.Checkout Checkout Checkout played q refl who s (c, known) (ap is_of_holding is) (ap is_of_queueing is) (omega (arith, none)) s.timely,
        )

    -- its entry stands in the history behind those before it
    own_is : (more : List Entry) {c : Client} {what : Kind} (q : Asked acts new c what reply out) → own h party ≡ mine_of (acts ++ new) ++ more → own h party ≡ mine_of acts ++ q.asking.entry ∷ more
    own_is more q is = is ∙ ap (λ l. l ++ more) q.mine ∙ append_assoc (mine_of acts) (q.asking.entry ∷ []) more

    sat : (more : List Entry) → own h party ≡ mine_of (acts ++ new) ++ more → Stood Checkout → Answers o acts client (request_of (body_of party Checkout)) new after out → Then Checkout out
    sat more is s a =
        let c = s.known.0 in
        let b = subst (λ x. Answers o acts x (request_of (body_of party Checkout)) new after out) s.known.1 a in
        let at = b.1.0 in
        let later = b.1.1 in
        let found = subst (λ f. Served c kind.Checkout at f later out) (found_or_first (holds (mine_of acts) party || queues (mine_of acts) party)) b.1.3 in
        let q = asked_at acts new later c kind.Checkout at reply out b.1.2 found said in
        let i = own_is more q is in
        let who = asker_is seats few h party (mine_of acts) more q.asking.entry run i in
        subst (Then Checkout) (sym q.goes_on) (seat_next c q who b.0 s (checkout_answered seats few h party (mine_of acts) more q.asking.entry run i q.kind_is s.seated s.unqueued))

    back_next : (c : Client) (q : Asked acts new c kind.Checkin reply out) → q.asking.entry.request.party ≡ party → after ≡ Some c → Stood Checkin → SaysNothing q.asking.entry.reply → (b : Bool) → nat_lt (played + 1) rounds ≡ b → Then Checkin None
    back_next c q who known s says true t =
        let none = ap {B = ℕ} (λ b. cond b 1 0) says.2 in
        (Checkout, ap (stage_after Checkin reply) t, stands_behind kind.Checkin Checkin Checkout (played + 1) q refl who s (c, known) says.0 says.1 (omega (arith, none)) (ltb-true (played + 1) rounds t))
    back_next c q who known s says false t =
        let none = ap {B = ℕ} (λ b. cond b 1 0) says.2 in
        (Quit, ap (stage_after Checkin reply) t, stands_behind kind.Checkin Checkin Quit (played + 1) q refl who s (c, known) says.0 says.1 (omega (arith, none)) (omega (arith, ltb-false (played + 1) rounds t, s.timely)))

    gave_back : (more : List Entry) → own h party ≡ mine_of (acts ++ new) ++ more → Stood Checkin → Answers o acts client (request_of (body_of party Checkin)) new after out → Then Checkin out
    gave_back more is s a =
        let c = s.known.0 in
        let b = subst (λ x. Answers o acts x (request_of (body_of party Checkin)) new after out) s.known.1 a in
        let at = b.1.0 in
        let later = b.1.1 in
        let found = subst (λ f. Served c kind.Checkin at f later out) (found_or_first (holds (mine_of acts) party || queues (mine_of acts) party)) b.1.3 in
        let q = asked_at acts new later c kind.Checkin at reply out b.1.2 found said in
        let i = own_is more q is in
        let who = asker_is seats few h party (mine_of acts) more q.asking.entry run i in
        subst (Then Checkin) (sym q.goes_on) (back_next c q who b.0 s (checkin_answered seats few h party (mine_of acts) more q.asking.entry run i q.kind_is) (nat_lt (played + 1) rounds) refl)

    left : Stood Quit → Answers o acts client (request_of (body_of party Quit)) new after out → Then Quit out
    left s a =
        let c = s.known.0 in
        let b = subst (λ x. Answers o acts x (request_of (body_of party Quit)) new after out) s.known.1 a in
        let idle : (holds (mine_of acts) party || queues (mine_of acts) party) ≡ false = rw (s.seated, s.unqueued) refl in
        let none : b.1.0 ≡ [] = subst (λ k. AsksEach c kind.Quit (cond k (0 ∷ []) []) b.1.0) idle b.1.3 in
        let is : new ≡ b.1.1 = b.1.2 ∙ ap (λ l. l ++ b.1.1) none in
        let w = written told.Bye [] (Some ends.Quit) out b.1.1 reply b.1.4 (sym (ap talk_of is) ∙ said) in
        let done : IsDone party rounds (mine_of acts) = record { seated = s.seated; unqueued = s.unqueued; granted = omega (arith, s.granted, s.timely) } in
        subst (Then Quit) (sym w.1) (subst (IsDone party rounds) (sym (same_mine acts new (ap mine_of is ∙ ap mine_of w.0))) done)

    -- a line of the client is answered
    turn : (call : Call) (more : List Entry) → own h party ≡ mine_of (acts ++ new) ++ more → Stood call → Answers o acts client (request_of (body_of party call)) new after out → Then call out
    turn Hello more is s a = greeted s a
    turn Checkout more is s a = sat more is s a
    turn Checkin more is s a = gave_back more is s a
    turn Quit more is s a = left s a

  -- Where a session and its client stand: what was read of the line that it gives, and what is left of it; or the whole line, while it waits for the reply.
  abbrev AreAt : List Act → Option Client → List ℕ → Stage → List ℕ → ℕ → Type 0
  AreAt acts client pending (Gives call) left played = (pending ++ left ≡ line_of party call) × (0 < length left) × Stands party rounds (mine_of acts) client call played
  AreAt acts client pending (Awaits call) left played = (pending ≡ line_of party call) × Stands party rounds (mine_of acts) client call played
  AreAt acts client pending Over left played = ⊥

  -- what comes of a line: they stand somewhere again, or the session is at its end
  abbrev Comes : List Act → Option Client → List ℕ → Stage → List ℕ → ℕ → Option SessionEnd → Type 0
  Comes acts client pending stage left played None = AreAt acts client pending stage left played
  Comes acts client pending stage left played (Some end) = IsDone party rounds (mine_of acts)

  -- no line waits of which some is left
  not_giving : (pending line rest left : List ℕ) (call : Call) → Begins pending line rest → pending ++ left ≡ line_of party call → 0 < length left → ⊥
  not_giving pending line rest left call b is some =
      let whole : line ++ 10 ∷ (rest ++ left) ≡ body_of party call ++ 10 ∷ [] = sym (append_assoc line (10 ∷ rest) left) ∙ ap (λ l. l ++ left) (sym b.whole) ∙ is ∙ line_is party call in
      let both = first_line line (body_of party call) (rest ++ left) [] b.flat (body_bytes party small call) whole in
      omega (arith, ap length both.1, length-append rest left, some)

  -- the line that waits is the one that was given
  awaited : (pending line rest : List ℕ) (call : Call) → Begins pending line rest → pending ≡ line_of party call → (line ≡ body_of party call) × (rest ≡ [])
  awaited pending line rest call b is = first_line line (body_of party call) rest [] b.flat (body_bytes party small call) (sym b.whole ∙ is ∙ line_is party call)

  never_unasked : (acts : List Act) (client : Option Client) (pending line rest : List ℕ) (stage : Stage) (left : List ℕ) (played : ℕ) → Begins pending line rest → is_unasked stage ≡ true → AreAt acts client pending stage left played → ⊥
  never_unasked acts client pending line rest (Gives call) left played b u i = not_giving pending line rest left call b i.0 i.1
  never_unasked acts client pending line rest (Awaits call) left played b u i = cc
  never_unasked acts client pending line rest Over left played b u i = i

  module _ (acts new : List Act) (client after : Option Client) (pending line rest : List ℕ) (out : Option SessionEnd) (more : List Entry) (stage : Stage) (left : List ℕ) (played : ℕ)
      (ih : (stage : Stage) (left : List ℕ) (played : ℕ) → Plays party rounds stage left played (talk_of acts) → AreAt acts client pending stage left played)
      (b : Begins pending line rest) (a : Answers o acts client (request_of line) new after out) (is : own h party ≡ mine_of (acts ++ new) ++ more) where
    comes : (call : Call) (before : ℕ) (reply : List ℕ) (end : Option SessionEnd) → stage ≡ stage_after call reply (nat_lt (played_after call before) rounds) → left ≡ left_of party stage 0 → played ≡ played_after call before → rest ≡ []
        → Next party rounds call before reply (mine_of (acts ++ new)) after end → Comes (acts ++ new) after rest stage left played end
    comes call before reply (Some end) s l p none n = n
    comes call before reply None s l p none n =
        let to : stage ≡ Gives n.0 = s ∙ n.1 in
        let all : left ≡ line_of party n.0 = l ∙ ap (λ x. left_of party x 0) to in
        let now : AreAt (acts ++ new) after rest (Gives n.0) left played =
        (ap (λ r. r ++ left) none ∙ all, subst (λ x. 0 < length x) (sym all) (line_some party n.0), subst (λ k. Stands party rounds (mine_of (acts ++ new)) after n.0 k) (sym p) n.2) in
        subst (λ x. AreAt (acts ++ new) after rest x left played) (sym to) now

    replied : (e : Event) → IsReply e → talk_of new ≡ e ∷ [] → Came party rounds e stage left played (talk_of acts) → Comes (acts ++ new) after rest stage left played out
    replied (Heard piece) r said c = absurd r
    replied Silence r said c = absurd r
    replied Ended r said c = absurd r
    replied ReadFault r said c = absurd r
    replied (WriteFault part) r said c = absurd c
    replied (Wrote reply) r said (inr w) = absurd (never_unasked acts client pending line rest w.stage w.left w.played b w.is (ih w.stage w.left w.played w.was))
    replied (Wrote reply) r said (inl w) =
        let i = ih (Awaits w.call) [] w.before w.was in
        let l = awaited pending line rest w.call b i.0 in
        comes w.call w.before reply out w.stage_is w.left_is w.played_is l.1
        (turn acts new client after out w.before reply said w.call more is i.1 (subst (λ x. Answers o acts client (request_of x) new after out) l.0 a))

    answered : Plays party rounds stage left played (talk_of (acts ++ new)) → Comes (acts ++ new) after rest stage left played out
    answered p =
        let s = answers_says o acts client (request_of line) new after out a in
        let t : talk_of (acts ++ new) ≡ talk_of acts ++ s.reply ∷ [] = talk_append acts new ∙ ap (λ l. talk_of acts ++ l) s.talk in
        replied s.reply s.is_reply s.talk (came party rounds s.reply (talk_of acts) stage left played (subst (Plays party rounds stage left played) t p))

  -- a piece was read
  heard : (acts : List Act) (client : Option Client) (pending piece left : List ℕ) (stage : Stage) (call : Call) (played : ℕ) → ((stage ≡ Gives call) × (0 < length left)) ⊎ ((stage ≡ Awaits call) × (left ≡ []))
      → AreAt acts client pending (Gives call) (piece ++ left) played → AreAt acts client (pending ++ piece) stage left played
  heard acts client pending piece left stage call played (inl (s, some)) i =
      subst (λ x. AreAt acts client (pending ++ piece) x left played) (sym s) (append_assoc pending piece left ∙ i.0, some, i.2)
  heard acts client pending piece left stage call played (inr (s, none)) i =
      subst (λ x. AreAt acts client (pending ++ piece) x left played) (sym s) (ap (λ l. pending ++ l) (sym (append-nil piece) ∙ ap (λ l. piece ++ l) (sym none)) ∙ i.0, i.2)

  -- the same of more acts, in which no entry is made
  moved : (acts new : List Act) (client : Option Client) (pending left : List ℕ) (stage : Stage) (played : ℕ) → mine_of new ≡ [] → AreAt acts client pending stage left played → AreAt (acts ++ new) client pending stage left played
  moved acts new client pending left (Gives call) played none i = (i.0, i.1, subst (λ m. Stands party rounds m client call played) (sym (same_mine acts new none)) i.2)
  moved acts new client pending left (Awaits call) played none i = (i.0, subst (λ m. Stands party rounds m client call played) (sym (same_mine acts new none)) i.1)
  moved acts new client pending left Over played none i = i

  more_of : (acts new : List Act) (more : List Entry) → own h party ≡ mine_of (acts ++ new) ++ more → own h party ≡ mine_of acts ++ (mine_of new ++ more)
  more_of acts new more is = is ∙ ap (λ l. l ++ more) (entries_append 0 acts new) ∙ append_assoc (mine_of acts) (mine_of new) more

  -- after a Quiet
  after_quiet : (acts new : List Act) (b : Bool) → talk_of new ≡ [] → talk_of ((acts ++ Tell Silence ∷ Hear b ∷ []) ++ new) ≡ talk_of acts ++ Silence ∷ []
  after_quiet acts new b quiet =
      let before : List Act = acts ++ Tell Silence ∷ Hear b ∷ [] in
      talk_append before new ∙ ap (λ l. talk_of before ++ l) quiet ∙ append-nil (talk_of before) ∙ talk_append acts (Tell Silence ∷ Hear b ∷ [])

  -- a session that goes on
  goes_at : {acts : List Act} {client : Option Client} {pending : List ℕ} → 0 < rounds → Goes o acts client pending → (more : List Entry) → own h party ≡ mine_of acts ++ more → (stage : Stage) (left : List ℕ) (played : ℕ) → Plays party rounds stage left played (talk_of acts) → AreAt acts client pending stage left played
  goes_at any opens more is stage left played p =
      let n = is_new party rounds stage left played p in
      let now : AreAt [] None [] (Gives Hello) left played =
      (n.left_is, subst (λ l. 0 < length l) (sym n.left_is) (line_some party Hello), record { known = refl; seated = refl; unqueued = refl; granted = omega (arith, n.played_is); timely = omega (arith, n.played_is, any) }) in
      subst (λ x. AreAt [] None [] x left played) (sym n.stage_is) now
  goes_at any (hears {acts} {client} {pending} piece g op) more is stage left played p =
      let new : List Act = Tell (Heard piece) ∷ [] in
      let c = came party rounds (Heard piece) (talk_of acts) stage left played (subst (Plays party rounds stage left played) (talk_append acts new) p) in
      let i = goes_at any g more (is ∙ ap (λ l. l ++ more) (same_mine acts new refl)) (Gives c.call) (piece ++ left) played c.was in
      moved acts new client (pending ++ piece) left stage played refl (heard acts client pending piece left stage c.call played c.now i)
  goes_at any (answers {acts} {client} {pending} line rest new after g b a) more is stage left played p =
      answered acts new client after pending line rest None more stage left played (λ s l n q. goes_at any g (mine_of new ++ more) (more_of acts new more is) s l n q) b a is p
  goes_at any (looks {acts} {client} {pending} new g op l) more is stage left played p =
      let quiet : talk_of new ≡ [] = search any_quiet in
      absurd (came party rounds Silence (talk_of acts) stage left played (subst (Plays party rounds stage left played) (after_quiet acts new false quiet) p))

  -- no whole line, and none that is too long
  not_open : (pending : List ℕ) (call : Call) → IsOpen pending → pending ≡ line_of party call → ⊥
  not_open pending call op is =
      let body : List ℕ = body_of party call in
      let whole : pending ≡ body ++ 10 ∷ [] = is ∙ line_is party call in
      let below : length body < length pending = omega (arith, ap length whole, length-append body (10 ∷ [])) in
      op.flat (length body) 0 below (ap (λ l. get_or l (length body) 0) whole ∙ get_or-append_seam body 10 [] 0)

  not_silent : (acts : List Act) (client : Option Client) (pending : List ℕ) (stage : Stage) (left : List ℕ) (played : ℕ) → IsOpen pending → is_silent stage ≡ true → AreAt acts client pending stage left played → ⊥
  not_silent acts client pending (Gives call) left played op s i = cc
  not_silent acts client pending (Awaits call) left played op s i = not_open pending call op i.0
  not_silent acts client pending Over left played op s i = i

  not_overlong : (acts : List Act) (client : Option Client) (pending : List ℕ) (stage : Stage) (left : List ℕ) (played : ℕ) → IsOverlong pending → AreAt acts client pending stage left played → ⊥
  not_overlong acts client pending (Gives call) left played over i = omega (arith, over.long, ap length over.whole, length-append over.front over.rest, ap length i.0, length-append pending left, line_short party small call)
  not_overlong acts client pending (Awaits call) left played over i = omega (arith, over.long, ap length over.whole, length-append over.front over.rest, ap length i.0, line_short party small call)
  not_overlong acts client pending Over left played over i = i

  -- a session at its end
  ends_done : {acts : List Act} {client : Option Client} {end : SessionEnd} → 0 < rounds → Ends o acts client end → (more : List Entry) → own h party ≡ mine_of acts ++ more → (stage : Stage) (left : List ℕ) (played : ℕ) → Plays party rounds stage left played (talk_of acts) → IsDone party rounds (mine_of acts)
  ends_done any (finishes {acts} {client} {pending} line rest new after end g b a) more is stage left played p =
      answered acts new client after pending line rest (Some end) more stage left played (λ s l n q. goes_at any g (mine_of new ++ more) (more_of acts new more is) s l n q) b a is p
  ends_done any (closes {acts} {client} {pending} g op) more is stage left played p =
      let new : List Act = Tell Ended ∷ [] in
      let w = came party rounds Ended (talk_of acts) stage left played (subst (Plays party rounds stage left played) (talk_append acts new) p) in
      absurd (not_silent acts client pending w.stage w.left w.played op w.is (goes_at any g more (is ∙ ap (λ l. l ++ more) (same_mine acts new refl)) w.stage w.left w.played w.was))
  ends_done any (breaks {acts} {client} {pending} g op) more is stage left played p =
      absurd (came party rounds ReadFault (talk_of acts) stage left played (subst (Plays party rounds stage left played) (talk_append acts (Tell ReadFault ∷ [])) p))
  ends_done any (overflows {acts} {client} {pending} g over) more is stage left played p = absurd (not_overlong acts client pending stage left played over (goes_at any g more is stage left played p))
  ends_done any (stops {acts} {client} {pending} g op) more is stage left played p =
      absurd (came party rounds Silence (talk_of acts) stage left played (subst (Plays party rounds stage left played) (talk_append acts (Tell Silence ∷ Hear true ∷ [])) p))

  -- nothing is given back where nothing is held
  no_back : (acts back : List Act) (client : Option Client) → IsDone party rounds (mine_of acts) → GivesBack o acts client back → back ≡ []
  no_back acts back None d b = b
  no_back acts back (Some c) d b =
      let idle : (holds (mine_of acts) party || queues (mine_of acts) party) ≡ false = rw (d.seated, d.unqueued) refl in
      subst (λ k. AsksEach c kind.Quit (cond k (0 ∷ []) []) back) idle b

  pub granted_each : (acts : List Act) (end : SessionEnd) → 0 < rounds → own h party ≡ mine_of acts → Session o acts end → IsTalk party rounds (talk_of acts) → grants (own h party) ≡ rounds
  granted_each acts end any is s t =
      let parted : mine_of acts ≡ mine_of s.talk ++ mine_of s.back = ap mine_of s.whole ∙ entries_append 0 s.talk s.back in
      let quiet : talk_of acts ≡ talk_of s.talk = ap talk_of s.whole ∙ talk_append s.talk s.back ∙ ap (λ l. talk_of s.talk ++ l) (search any_quiet) ∙ append-nil (talk_of s.talk) in
      let done = ends_done any s.ended (mine_of s.back) (is ∙ parted) t.stage t.left t.played (subst (Plays party rounds t.stage t.left t.played) quiet t.plays) in
      let none : s.back ≡ [] = no_back s.talk s.back s.client done s.gives_back in
      ap grants (is ∙ parted ∙ ap (λ l. mine_of s.talk ++ mine_of l) none ∙ append-nil (mine_of s.talk)) ∙ done.granted
