use Rattle.std.proofs.Common.{◌∙◌, arith, refl}
use Rattle.session_outside.specs.Talk.{Wrote}
use Rattle.trial_link.proofs.Playing.{noted_on, reply_told, stray_told, unasked_from}
use Rattle.trial_link.proofs.link.TrialLinkLink.write.Goals as goal

pub returns-in-Awaits-clause-told : goal.returns-in-Awaits-clause-told
returns-in-Awaits-clause-told c =
    let s = c.args.self.now in
    let n = c.hear.new.self in
    let e = c.hear.ensures in (
      0,
      omega arith,
      noted_on s.number s.rounds n.number n.rounds (Wrote c.args.piece.now) e.client.0 e.client.1 (λ talk h. reply_told s.number s.rounds s.played s.grants s.given s.stage c.in-Awaits.call c.args.piece.now talk
          n.number n.rounds n.played n.grants n.given n.stage c.in-Awaits.is e.client.0 e.client.1 e.played e.stage e.given (e.client.2 ∙ c.count_after-self.ensures talk h.1) h),
    )

pub returns-in-Gives-clause-told : goal.returns-in-Gives-clause-told
returns-in-Gives-clause-told c =
    let s = c.args.self.now in (
      0,
      omega arith,
      noted_on s.number s.rounds s.number s.rounds (Wrote c.args.piece.now) refl refl
          (λ talk h. stray_told s.number s.rounds s.played s.grants s.given s.stage c.args.piece.now talk _ s.given (unasked_from s.stage c.in-Gives.is) (c.count_after-self.ensures talk h.1) h),
    )
