-- Links as they are made.
use Rattle.std.specs.Prelude.{◌≡◌, ℕ, ◌<◌, List, length, get_or}
use Rattle.trial_link.specs.declared.call.Call.TheVariants.{Hello}
use Rattle.trial_link.specs.declared.call.Stage.TheVariants.{Gives}
use Rattle.trial_link.specs.declared.link.TrialLink.{TrialLink}

-- the link of the client of this number, of so many rounds; nothing was read of it, and nothing was written to it
pub record IsFresh (number rounds : ℕ) (l : TrialLink) : Type 0 where
  pub number_is : l.number ≡ number
  pub rounds_are : l.rounds ≡ rounds
  pub stage : l.stage ≡ Gives Hello
  pub given : l.given ≡ 0
  pub played : l.played ≡ 0
  pub grants : l.grants ≡ 0

-- each is that of the client of its place
abbrev pub AreFresh : ℕ → List TrialLink → Type 0
AreFresh rounds links = (k : ℕ) (l : TrialLink) → k < length links → IsFresh k rounds (get_or links k l)
