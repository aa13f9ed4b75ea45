-- What a session does, in one order, and what each of the others sees of it.
use Rattle.std.specs.Prelude.{ℕ, Bool, List, [], ◌∷◌, flat_map, map, nat_eq, if◌then◌else◌}
use Rattle.counter.specs.Account.{Asking}
use Rattle.counter.specs.declared.glance.Glance.{Glance}
use Rattle.options_machine.specs.declared.reply.Entry.{Entry}
use Rattle.session_outside.specs.Talk.{Event}

-- what a glance showed: the numbers, and the entries that they stand for
pub record Shown : Type 0 where
  pub glance : Glance
  pub list : List Entry

-- one step of a session
pub data Act : Type 0 where
  -- an event of the link
  Tell : (event : Event) → Act
  -- the clock gave a moment
  Moment : (at : ℕ) → Act
  -- an entry on a desk
  Enter : (desk : ℕ) → (asking : Asking) → Act
  -- a glance at a desk
  Look : (desk : ℕ) → (shown : Shown) → Act
  -- the bell's answer
  Hear : (rung : Bool) → Act
  -- the bell is rung
  Ring : Act

-- what the bell sees
pub data Peal : Type 0 where
  Answered : (rung : Bool) → Peal
  Rung : Peal

-- what the link sees of an act
abbrev pub link_events : Act → List Event
link_events (Tell e) = e ∷ []
link_events (Moment t) = []
link_events (Enter j a) = []
link_events (Look j s) = []
link_events (Hear b) = []
link_events Ring = []

-- what the clock sees of it
abbrev pub clock_moments : Act → List ℕ
clock_moments (Tell e) = []
clock_moments (Moment t) = t ∷ []
clock_moments (Enter j a) = []
clock_moments (Look j s) = []
clock_moments (Hear b) = []
clock_moments Ring = []

-- what the bell sees of it
abbrev pub bell_peals : Act → List Peal
bell_peals (Tell e) = []
bell_peals (Moment t) = []
bell_peals (Enter j a) = []
bell_peals (Look j s) = []
bell_peals (Hear b) = Answered b ∷ []
bell_peals Ring = Rung ∷ []

-- what was asked on a desk
abbrev pub asked_at : ℕ → Act → List Asking
asked_at i (Tell e) = []
asked_at i (Moment t) = []
asked_at i (Enter j a) = if nat_eq j i then a ∷ [] else []
asked_at i (Look j s) = []
asked_at i (Hear b) = []
asked_at i Ring = []

-- what a glance at a desk showed
abbrev pub shown_at : ℕ → Act → List Shown
shown_at i (Tell e) = []
shown_at i (Moment t) = []
shown_at i (Enter j a) = []
shown_at i (Look j s) = if nat_eq j i then s ∷ [] else []
shown_at i (Hear b) = []
shown_at i Ring = []

-- the link's talk, the clock's moments, and what the bell sees
abbrev pub talk_of : List Act → List Event
talk_of acts = flat_map link_events acts

abbrev pub moments_of : List Act → List ℕ
moments_of acts = flat_map clock_moments acts

abbrev pub peals_of : List Act → List Peal
peals_of acts = flat_map bell_peals acts

-- what was asked on a desk, its entries, and what glances at it showed
abbrev pub askings : ℕ → List Act → List Asking
askings i acts = flat_map (asked_at i) acts

abbrev pub entries : ℕ → List Act → List Entry
entries i acts = map (λ (a : Asking). a.entry) (askings i acts)

abbrev pub sights : ℕ → List Act → List Shown
sights i acts = flat_map (shown_at i) acts
