-- What comes of an errand.
use Rattle.std.specs.Prelude.{◌≡◌, ℕ, true, List, [], ◌∷◌, map, Vec, Result, Ok, Err}
use Rattle.std.specs.declared.alloc.Global.{Global}
use Rattle.counter.specs.declared.glance.Glance.{Glance}
use Rattle.line_protocol.specs.Replies.{glance_text}
use Rattle.line_protocol.specs.Streams.{Held}
use Rattle.session_outside.specs.Talk.{Event}
use Rattle.client_talk.specs.Exchange.{Asks}
use Rattle.client_talk.specs.Replies.{accepts}
use Rattle.client_talk.specs.Table.{Row, table_text}
use Rattle.client_talk.specs.Talks.{Halts, Spoke, Stopped, glance_line}
use Rattle.client_talk.specs.declared.cause.Cause.{Cause}
use Rattle.client_talk.specs.declared.want.Want.{Want}
use Rattle.client_talk.specs.declared.want.Want.TheVariants.{Welcome, Seat, Beaten, Returned}

-- the client said who it is and then asked one request, and this reply came of it
abbrev pub IsAnswered : {X : Type 0} → (X → List Event → Type 0) → X → X → List ℕ → List ℕ → Want → Result Held Cause → Type 0
IsAnswered {X} tells old new hello words want (Ok held) =
    (welcome : List ℕ) × Spoke tells old new (hello ∷ words ∷ []) (welcome ∷ held.bytes ∷ []) × (accepts Welcome welcome ≡ true) × (accepts want held.bytes ≡ true)
IsAnswered {X} tells old new hello words want (Err cause) = Stopped tells old new (hello ∷ words ∷ []) cause

abbrev pub said_of : Row → List ℕ
said_of row = glance_line row.feature

abbrev pub heard_of : Row → List ℕ
heard_of row = glance_text row.glance

abbrev pub feature_in : Row → List ℕ
feature_in row = row.feature

-- the desks of these features were asked for, and the replies are those of these rows
pub record IsShown {X : Type 0} (tells : X → List Event → Type 0) (old new : X) (hello : List ℕ) (features : List (List ℕ)) (text : List ℕ) : Type 0 where
  pub welcome : List ℕ
  pub rows : List Row
  pub asked : map feature_in rows ≡ features
  pub spoke : Spoke tells old new (hello ∷ map said_of rows) (welcome ∷ map heard_of rows)
  pub welcomed : accepts Welcome welcome ≡ true
  pub table : text ≡ table_text rows

abbrev pub IsStatus : {X : Type 0} → (X → List Event → Type 0) → X → X → List ℕ → List (List ℕ) → Result (Vec ℕ Global) Cause → Type 0
IsStatus {X} tells old new hello features (Ok text) = IsShown tells old new hello features text.items
IsStatus {X} tells old new hello features (Err cause) = Stopped tells old new (hello ∷ map glance_line features) cause

abbrev pub IsGlanced : {X : Type 0} → (X → List Event → Type 0) → X → X → List ℕ → Result Glance Cause → Type 0
IsGlanced {X} tells old new feature (Ok glance) = (held : Held) × (held.bytes ≡ glance_text glance) × Asks tells old new (glance_line feature) Rattle.client_talk.specs.declared.want.Want.TheVariants.Numbers (Ok held)
IsGlanced {X} tells old new feature (Err cause) = Halts tells old new (glance_line feature) cause
