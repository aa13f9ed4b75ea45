use Rattle.std.specs.Prelude.{◌≡◌, ℕ, ◌<◌, Bool, true, false, not, [], ◌∷◌, ◌++◌, None, Some, filter, find, length, map}
use Rattle.lic_types.specs.declared.client.Client.{Client}
use Rattle.lic_types.specs.declared.limits.TheConstants.{LINGER_LIMIT}
use Rattle.options_machine.specs.declared.decision.Decision.TheVariants.{Full, Grant, Retake}
use Rattle.options_machine.specs.declared.decision.Place.{Place}
use Rattle.options_machine.specs.declared.decision.Place.TheVariants.{Told, Untold, Waiting, Away}
use Rattle.options_machine.specs.declared.effect.Effect.{Effect}
use Rattle.options_machine.specs.declared.effect.Effect.TheVariants.{Nothing, Tell, Release, Linger, Unqueue, Seat, Reseat, Join}
use Rattle.options_machine.specs.declared.rows.Holder.{Holder}
use Rattle.options_machine.specs.declared.rows.Lingerer.{Lingerer}
use Rattle.options_machine.specs.declared.rows.Queuer.{Queuer}
use Rattle.options_machine.specs.Rules.{Rules}
use Rattle.options_machine.specs.State.{State, is_holder, is_queuer}
use Rattle.options_machine.specs.Decide.{decide}
use Rattle.options_machine.specs.Settle.{with_queuer, with_seat, with_seat_again}

abbrev pub told_if : Bool → ℕ → Holder → Holder
told_if true now h = record h { told = true; beat = now }
told_if false now h = h

-- the party is told: its beat becomes now
abbrev pub with_told : State → ℕ → State
with_told s party = record s { holders = map (λ (h : Holder). told_if (is_holder party h) s.now h) s.holders }

-- the party is no holder any more
abbrev pub without_holder : State → ℕ → State
without_holder s party = record s { holders = filter (λ (h : Holder). not (is_holder party h)) s.holders }

-- the party is no holder any more, and one more entry lingers
abbrev pub with_lingerer : State → ℕ → Lingerer → State
with_lingerer s party l = record (without_holder s party) { lingering = s.lingering ++ l ∷ [] }

-- the party waits no more
abbrev pub without_queuer : State → ℕ → State
without_queuer s party = record s { queue = filter (λ (q : Queuer). not (is_queuer party q)) s.queue }

-- the state that an effect on a party and its client leaves
abbrev pub apply : State → ℕ → Client → Effect → State
apply s party client Nothing = s
apply s party client Tell = with_told s party
apply s party client Release = without_holder s party
apply s party client (Linger l) = with_lingerer s party l
apply s party client Unqueue = without_queuer s party
apply s party client (Seat charge) = with_seat s party client charge true
apply s party client (Reseat charge) = with_seat_again s party client charge true
apply s party client Join = with_queuer s (record { party = party; client = client })

-- what a place says of the lists
abbrev pub IsPlace : State → ℕ → Place → Type 0
IsPlace s party (Told h) = (find (is_holder party) s.holders ≡ Some h) × (h.told ≡ true)
IsPlace s party (Untold h) = (find (is_holder party) s.holders ≡ Some h) × (h.told ≡ false)
IsPlace s party (Waiting q) = (find (is_holder party) s.holders ≡ None) × (find (is_queuer party) s.queue ≡ Some q)
IsPlace s party Away = (find (is_holder party) s.holders ≡ None) × (find (is_queuer party) s.queue ≡ None)

-- the party has a seat
abbrev pub HasSeat : State → ℕ → Type 0
HasSeat s party = (h : Holder) × (find (is_holder party) s.holders ≡ Some h)

-- the party waits, and has no seat
abbrev pub Waits : State → ℕ → Type 0
Waits s party = (find (is_holder party) s.holders ≡ None) × ((q : Queuer) × (find (is_queuer party) s.queue ≡ Some q))

-- where an effect fits: what its party has, and what the rules say
abbrev pub Fits : Rules → State → ℕ → Client → Effect → Type 0
Fits r s party client Nothing = Unit {0}
Fits r s party client Tell = HasSeat s party
Fits r s party client Release = HasSeat s party
Fits r s party client (Linger l) = (h : Holder) × (find (is_holder party) s.holders ≡ Some h) × (l.client ≡ h.client) × (l.charge ≡ h.charge) × (length s.lingering < LINGER_LIMIT)
Fits r s party client Unqueue = Waits s party
Fits r s party client (Seat charge) = IsPlace s party Away × (decide r s client ≡ Grant charge)
Fits r s party client (Reseat charge) = IsPlace s party Away × (decide r s client ≡ Retake charge)
Fits r s party client Join = IsPlace s party Away × (decide r s client ≡ Full)
