-- Whether the words of an errand will do.
use Rattle.std.specs.Prelude.{◌≡◌, ◌⊎◌, ℕ, List, [], ◌∷◌, map, Result, Ok, Err}
use Rattle.lic_types.specs.Name.{name_of}
use Rattle.lic_types.specs.declared.name.NameFault.{NameFault}
use Rattle.client_talk.specs.Holding.{hold_lines}
use Rattle.client_talk.specs.Requests.{line_judged}
use Rattle.client_talk.specs.Talks.{glance_line, reread_line, shutdown_line}
use Rattle.client_talk.specs.declared.cause.Cause.{Cause}
use Rattle.client_talk.specs.declared.cause.Cause.TheVariants.{BadWord, NoMemory}
use Rattle.client_talk.specs.declared.client.Client.{Client}
use Rattle.client_talk.specs.declared.client.ClientWord.{ClientWord}
use Rattle.client_talk.specs.declared.client.ClientWord.TheVariants.{User, Host, Display, Project}
use Rattle.client_talk.specs.declared.running.Errand.{Errand}
use Rattle.client_talk.specs.declared.running.Errand.TheVariants as errand

-- the first fault of two judgements
abbrev pub then : Result (Unit {0}) Cause → Result (Unit {0}) Cause → Result (Unit {0}) Cause
then (Ok u) next = next
then (Err cause) next = Err cause

abbrev pub unless_fault : ClientWord → Result (List ℕ) NameFault → Result (Unit {0}) Cause
unless_fault word (Ok name) = Ok tt
unless_fault word (Err fault) = Err (BadWord (record { word = word; fault = fault }))

-- whether a word of a HELLO is a name
abbrev pub name_verdict : ClientWord → List ℕ → Result (Unit {0}) Cause
name_verdict word text = unless_fault word (name_of text)

-- whether the words that say who asks are names, in their order
abbrev pub client_verdict : Client → Result (Unit {0}) Cause
client_verdict c = then (name_verdict User c.user.now) (then (name_verdict Host c.host.now) (then (name_verdict Display c.display.now) (name_verdict Project c.project.now)))

-- whether lines may be sent, in their order
abbrev pub lines_verdict : List (List ℕ) → Result (Unit {0}) Cause
lines_verdict [] = Ok tt
lines_verdict (line ∷ lines) = then (line_judged line) (lines_verdict lines)

-- the lines of an errand behind the HELLO; those of a seat that is held come once here
abbrev pub lines_of : Errand → List (List ℕ)
lines_of (errand.Ask words) = words.now ∷ []
lines_of (errand.Status features) = map glance_line (map (λ feature. feature.now) features.now)
lines_of (errand.Hold hold) = hold_lines hold
lines_of (errand.Reread number) = reread_line number.now ∷ []
lines_of errand.Shutdown = shutdown_line ∷ []

-- whether the words of an errand will do: who asks, which SHUTDOWN doesn't say, and then the lines
abbrev pub errand_verdict : Errand → Client → Result (Unit {0}) Cause
errand_verdict (errand.Ask words) client = then (client_verdict client) (lines_verdict (lines_of (errand.Ask words)))
errand_verdict (errand.Status features) client = then (client_verdict client) (lines_verdict (lines_of (errand.Status features)))
errand_verdict (errand.Hold hold) client = then (client_verdict client) (lines_verdict (lines_of (errand.Hold hold)))
errand_verdict (errand.Reread number) client = then (client_verdict client) (lines_verdict (lines_of (errand.Reread number)))
errand_verdict errand.Shutdown client = lines_verdict (lines_of errand.Shutdown)

-- this is what is judged, or memory ran out before
abbrev pub Judges : Result (Unit {0}) Cause → Result (Unit {0}) Cause → Type 0
Judges wanted result = (result ≡ wanted) ⊎ (result ≡ Err NoMemory)
