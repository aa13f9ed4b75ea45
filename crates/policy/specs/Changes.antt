-- What the changes of a book stand for among the effects of the machine.
use Rattle.std.specs.Prelude.{ℕ, Option, None, Some}
use Rattle.options_machine.specs.declared.effect.Effect.{Effect}
use Rattle.options_machine.specs.declared.effect.Effect.TheVariants as effect
use Rattle.options_machine.specs.declared.reply.Reply.{Reply}
use Rattle.options_machine.specs.declared.rows.Holder.{Holder}
use Rattle.options_machine.specs.declared.rows.Lingerer.{Lingerer}
use Rattle.policy.specs.declared.change.Change.{Change}
use Rattle.policy.specs.declared.change.Change.TheVariants as change

-- the entry as which a holder's seat lingers until a moment
abbrev pub entry_until : Holder → ℕ → Lingerer
entry_until h until = record { client = h.client; charge = h.charge; until = until }

-- the seat that there is lingers
abbrev pub lingers_until : Option Holder → ℕ → Effect
lingers_until (Some h) until = effect.Linger (entry_until h until)
lingers_until None until = effect.Nothing

-- the effect that a change is on a party with this seat, if it has one
abbrev pub effect_of : Option Holder → Change → Effect
effect_of seat change.Nothing = effect.Nothing
effect_of seat change.Tell = effect.Tell
effect_of seat change.Release = effect.Release
effect_of seat (change.Linger until) = lingers_until seat until
effect_of seat change.Unqueue = effect.Unqueue
effect_of seat (change.Seat charge) = effect.Seat charge
effect_of seat (change.Reseat charge) = effect.Reseat charge
effect_of seat change.Join = effect.Join

-- a reply with the effect that a change is
abbrev pub with_effect : Option Holder → Reply × Change → Reply × Effect
with_effect seat answer = (answer.0, effect_of seat answer.1)
