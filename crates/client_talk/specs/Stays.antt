-- How long a client stands at a desk, and how that ends.
use Rattle.std.specs.Prelude.{◌≡◌, ◌⊎◌, ℕ, ◌-◌, ◌^◌, Bool, true, false, List, [], ◌∷◌, length, map, replicate, Option, None, Some, Result, Ok, Err}
use Rattle.std.specs.List.{list_all}
use Rattle.line_protocol.specs.Streams.{Held}
use Rattle.session_outside.specs.Talk.{Event, Follows}
use Rattle.client_talk.specs.Exchange.{Asks}
use Rattle.client_talk.specs.Keeping.{AreDue, SaidBy, Turn, Turns, is_due, last_of}
use Rattle.client_talk.specs.Standing.{goes_on}
use Rattle.client_talk.specs.Talks.{beat_line, checkin_line}
use Rattle.client_talk.specs.declared.cause.Cause.{Cause}
use Rattle.client_talk.specs.declared.standing.Standing.{Standing}
use Rattle.client_talk.specs.declared.standing.Standing.TheVariants.{Holding}
use Rattle.client_talk.specs.declared.want.Want.TheVariants.{Returned}

module _ {X K B : Type 0} (tells : X → List Event → Type 0) (gave : K → List ℕ → Type 0) (answered : B → List Bool → Type 0) where
  -- Turns went by. The clock showed the moment of the beginning and then that of each turn, and before each turn the bell had
  -- not rung. In each turn a BEAT was asked where it was due, and else one read was waited for; no reply ended the standing.
  pub record Stood (old new : X) (clock clock' : K) (bell bell' : B) (feature : List ℕ) (every : ℕ) (standing : Standing) (start : ℕ) (turns : List Turn) : Type 0 where
    pub events : List Event
    pub told : Follows tells old new events
    pub said : SaidBy (beat_line feature) turns events
    pub shown : Follows gave clock clock' (start ∷ map (λ (t : Turn). t.moment) turns)
    pub unrung : Follows answered bell bell' (replicate (length turns) false)
    pub due : AreDue every start turns
    pub each : list_all (λ (t : Turn). goes_on standing t.reply) turns ≡ true

  -- one turn more, with what came of it
  pub record Turned (old new : X) (clock clock' : K) (bell bell' : B) (feature : List ℕ) (every last : ℕ) (standing : Standing) (result : Result (Option Held) Cause) : Type 0 where
    pub moment : ℕ
    pub shown : Follows gave clock clock' (moment ∷ [])
    pub unrung : Follows answered bell bell' (false ∷ [])
    pub turn : Turns tells old new feature standing (is_due last moment every) result

  -- the bell has rung, or there were as many turns as a u64 counts
  abbrev pub Rings : B → B → ℕ → Type 0
  Rings old new count = Follows answered old new (true ∷ []) ⊎ ((count ≡ 2 ^ 64 - 1) × (new ≡ old))

  -- how a standing ended behind so many turns: the bell has rung, and nothing was said any more; or the next turn ended it
  abbrev pub Ends : X → X → K → K → B → B → List ℕ → ℕ → ℕ → Standing → ℕ → Result (Option Held) Cause → Type 0
  Ends old new clock clock' bell bell' feature every last standing count (Ok None) = (new ≡ old) × (clock' ≡ clock) × Rings bell bell' count
  Ends old new clock clock' bell bell' feature every last standing count (Ok (Some held)) = Turned old new clock clock' bell bell' feature every last standing (Ok (Some held))
  Ends old new clock clock' bell bell' feature every last standing count (Err cause) = Turned old new clock clock' bell bell' feature every last standing (Err cause)

  -- a client stood at a desk, until that ended
  pub record Stays (old new : X) (clock clock' : K) (bell bell' : B) (feature : List ℕ) (every : ℕ) (standing : Standing) (result : Result (Option Held) Cause) : Type 0 where
    pub start : ℕ
    pub turns : List Turn
    pub at : X
    pub when : K
    pub rope : B
    pub stood : Stood old at clock when bell rope feature every standing start turns
    pub ended : Ends at new when clock' rope bell' feature every (last_of start turns) standing (length turns) result

  -- behind a standing the seat was given back, where no turn stopped the talk
  abbrev pub Gives : X → X → List ℕ → Result (Option Held) Cause → Result Held Cause → Type 0
  Gives old new feature (Ok None) result = Asks tells old new (checkin_line feature) Returned result
  Gives old new feature (Ok (Some held)) result = ⊥
  Gives old new feature (Err cause) result = (new ≡ old) × (result ≡ Err cause)

  -- a seat was kept and then given back, with this reply; or the talk stopped
  pub record IsGiven (old new : X) (clock clock' : K) (bell bell' : B) (feature : List ℕ) (every : ℕ) (result : Result Held Cause) : Type 0 where
    pub at : X
    pub came : Result (Option Held) Cause
    pub stays : Stays old at clock clock' bell bell' feature every Holding came
    pub gives : Gives at new feature came result
