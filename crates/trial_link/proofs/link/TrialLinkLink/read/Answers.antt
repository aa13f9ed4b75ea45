use Rattle.std.proofs.Common.{refl}
use Rattle.session_outside.specs.Talk.{Ended, Heard}
use Rattle.trial_link.proofs.Playing.{end_told, noted_on, silent_from}
use Rattle.trial_link.proofs.link.TrialLinkLink.read.Goals as goal

pub returns-in_default-clause-told : goal.returns-in_default-clause-told
returns-in_default-clause-told c =
    let s = c.args.self.now in
    noted_on s.number s.rounds s.number s.rounds Ended refl refl (λ talk h. end_told s.number s.rounds s.played s.grants s.given s.stage talk (silent_from s.stage (λ call e. c.in_default.not-Gives call e)) h)

pub returns-clause-told : goal.returns-clause-told
returns-clause-told c =
    let s = c.args.self.now in
    let n = c.give.new.self in
    noted_on s.number s.rounds n.number n.rounds (Heard _) c.give.ensures.client.0 c.give.ensures.client.1 c.give.ensures.told
