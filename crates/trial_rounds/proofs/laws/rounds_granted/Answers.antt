use Rattle.trial_rounds.proofs.Rounds.{granted_each}
use Rattle.trial_rounds.proofs.laws.rounds_granted.Goals as goal

pub returns : goal.returns
returns c = λ seats party rounds history acts end few small any run is s talk. granted_each seats few party rounds small history run acts end any is s talk
