-- What comes of an errand, and what is printed of it.
use Rattle.std.specs.Prelude.{◌≡◌, ℕ, Bool, List, map, Option, None, Some, Vec, Result, Ok, Err}
use Rattle.std.specs.declared.alloc.Global.{Global}
use Rattle.line_protocol.specs.Streams.{Held}
use Rattle.session_outside.specs.Talk.{Event}
use Rattle.client_talk.specs.Errands.{IsAnswered, IsStatus}
use Rattle.client_talk.specs.Exchange.{Asks}
use Rattle.client_talk.specs.Holding.{seat_line, seat_want, waits_by}
use Rattle.client_talk.specs.Printing.{Prints, PrintsReply}
use Rattle.client_talk.specs.Stays.{IsGiven, Stays}
use Rattle.client_talk.specs.Talks.{checkin_line, hello_line, reread_line, shutdown_line}
use Rattle.client_talk.specs.declared.cause.Cause.{Cause}
use Rattle.client_talk.specs.declared.client.Client.{Client}
use Rattle.client_talk.specs.declared.hold.Hold.{Hold}
use Rattle.client_talk.specs.declared.running.Errand.{Errand}
use Rattle.client_talk.specs.declared.running.Errand.TheVariants as errand
use Rattle.client_talk.specs.declared.standing.Standing.TheVariants.{Waiting}
use Rattle.client_talk.specs.declared.want.Want.TheVariants as want

module _ {X K B : Type 0} (tells : X → List Event → Type 0) (gave : K → List ℕ → Type 0) (answered : B → List Bool → Type 0) where
  -- a seat was kept and given back, and the reply to that was printed
  abbrev pub Keeps : X → X → K → K → B → B → Hold → Type 0 → Option (List ℕ) → Option (List ℕ) → Result (Unit {0}) Cause → Type 0
  Keeps old new clock clock' bell bell' hold Failed held held' result =
      (given : Result Held Cause) × IsGiven tells gave answered old new clock clock' bell bell' hold.feature.now hold.pace.holding given × PrintsReply Failed held held' given result

  -- nothing more was said, and this is the cause
  pub record Stops (old new : X) (clock clock' : K) (bell bell' : B) (held held' : Option (List ℕ)) (cause : Cause) (result : Result (Unit {0}) Cause) : Type 0 where
    pub unsaid : new ≡ old
    pub unshown : clock' ≡ clock
    pub unheard : bell' ≡ bell
    pub unprinted : held' ≡ held
    pub stopped : result ≡ Err cause

  -- the seat that came was kept, where the reply by which it came was printed
  abbrev pub KeepsPrinted : X → X → K → K → B → B → Hold → Type 0 → Option (List ℕ) → Option (List ℕ) → Result (Unit {0}) Cause → Result (Unit {0}) Cause → Type 0
  KeepsPrinted old new clock clock' bell bell' hold Failed held held' (Ok u) result = Keeps old new clock clock' bell bell' hold Failed held held' result
  KeepsPrinted old new clock clock' bell bell' hold Failed held held' (Err cause) result = Stops old new clock clock' bell bell' held held' cause result

  -- what came of a seat that was waited for: it came, was printed, and kept; or the bell had rung before, and the place in the queue was given back
  abbrev pub Comes : X → X → K → K → B → B → Hold → Type 0 → Option (List ℕ) → Option (List ℕ) → Result (Option Held) Cause → Result (Unit {0}) Cause → Type 0
  Comes old new clock clock' bell bell' hold Failed held held' (Ok (Some seat)) result =
      (between : Option (List ℕ)) × (first : Result (Unit {0}) Cause) × PrintsReply Failed held between (Ok seat) first × KeepsPrinted old new clock clock' bell bell' hold Failed between held' first result
  Comes old new clock clock' bell bell' hold Failed held held' (Ok None) result =
      (clock' ≡ clock) × (bell' ≡ bell) × ((left : Result Held Cause) × Asks tells old new (checkin_line hold.feature.now) want.Left left × PrintsReply Failed held held' left result)
  Comes old new clock clock' bell bell' hold Failed held held' (Err cause) result = Stops old new clock clock' bell bell' held held' cause result

  -- a seat was waited for, with a BEAT every so many seconds
  pub record Waits (old new : X) (clock clock' : K) (bell bell' : B) (hold : Hold) (seconds : ℕ) (Failed : Type 0) (held held' : Option (List ℕ)) (result : Result (Unit {0}) Cause) : Type 0 where
    pub at : X
    pub when : K
    pub rope : B
    pub came : Result (Option Held) Cause
    pub stays : Stays tells gave answered old at clock when bell rope hold.feature.now seconds Waiting came
    pub comes : Comes at new when clock' rope bell' hold Failed held held' came result

  -- what comes behind the first reply: a seat is waited for, or kept
  abbrev pub Goes : X → X → K → K → B → B → Hold → Option ℕ → Type 0 → Option (List ℕ) → Option (List ℕ) → Result (Unit {0}) Cause → Type 0
  Goes old new clock clock' bell bell' hold (Some seconds) Failed held held' result = Waits old new clock clock' bell bell' hold seconds Failed held held' result
  Goes old new clock clock' bell bell' hold None Failed held held' result = Keeps old new clock clock' bell bell' hold Failed held held' result

  abbrev pub GoesPrinted : X → X → K → K → B → B → Hold → Option ℕ → Type 0 → Option (List ℕ) → Option (List ℕ) → Result (Unit {0}) Cause → Result (Unit {0}) Cause → Type 0
  GoesPrinted old new clock clock' bell bell' hold waiting Failed held held' (Ok u) result = Goes old new clock clock' bell bell' hold waiting Failed held held' result
  GoesPrinted old new clock clock' bell bell' hold waiting Failed held held' (Err cause) result = Stops old new clock clock' bell bell' held held' cause result

  -- what comes of the first reply, which was printed before anything else was said
  abbrev pub Begins : X → X → K → K → B → B → Hold → Type 0 → Option (List ℕ) → Option (List ℕ) → Result Held Cause → Result (Unit {0}) Cause → Type 0
  Begins old new clock clock' bell bell' hold Failed held held' (Ok reply) result =
      (between : Option (List ℕ)) × (first : Result (Unit {0}) Cause) × PrintsReply Failed held between (Ok reply) first
      × GoesPrinted old new clock clock' bell bell' hold (waits_by hold.pace reply.bytes) Failed between held' first result
  Begins old new clock clock' bell bell' hold Failed held held' (Err cause) result = Stops old new clock clock' bell bell' held held' cause result

  -- a seat, or a place in the queue, was asked for, and what came of it
  pub record Holds (old new : X) (clock clock' : K) (bell bell' : B) (hello : List ℕ) (hold : Hold) (Failed : Type 0) (held held' : Option (List ℕ)) (result : Result (Unit {0}) Cause) : Type 0 where
    pub at : X
    pub said : Result Held Cause
    pub asked : IsAnswered tells old at hello (seat_line hold) (seat_want hold) said
    pub begins : Begins at new clock clock' bell bell' hold Failed held held' said result

-- what comes of an errand
abbrev pub Runs : Errand → Client → {X K B : Type 0} → (X → List Event → Type 0) → (K → List ℕ → Type 0) → (B → List Bool → Type 0) → X → X → K → K → B → B → Type 0 → Option (List ℕ) → Option (List ℕ) → Result (Unit {0}) Cause → Type 0
Runs (errand.Ask words) client {X} {K} {B} tells gave answered old new clock clock' bell bell' Failed held held' result =
    (said : Result Held Cause) × IsAnswered tells old new (hello_line client) words.now want.Answer said × PrintsReply Failed held held' said result
Runs (errand.Status features) client {X} {K} {B} tells gave answered old new clock clock' bell bell' Failed held held' result =
    (said : Result (Vec ℕ Global) Cause) × IsStatus tells old new (hello_line client) (map (λ feature. feature.now) features.now) said × Prints Failed held held' said result
Runs (errand.Hold hold) client {X} {K} {B} tells gave answered old new clock clock' bell bell' Failed held held' result =
    Holds tells gave answered old new clock clock' bell bell' (hello_line client) hold Failed held held' result
Runs (errand.Reread number) client {X} {K} {B} tells gave answered old new clock clock' bell bell' Failed held held' result =
    (said : Result Held Cause) × IsAnswered tells old new (hello_line client) (reread_line number.now) want.Reread said × PrintsReply Failed held held' said result
Runs errand.Shutdown client {X} {K} {B} tells gave answered old new clock clock' bell bell' Failed held held' result =
    (said : Result Held Cause) × Asks tells old new shutdown_line want.Stopping said × PrintsReply Failed held held' said result
