use Rattle.std.proofs.Common.{◌∙◌, ◌++◌, ◌∷◌, [], List, ap, sym, refl, subst, inl}
use Rattle.line_protocol.specs.declared.told.Told.TheVariants.{Stopping}
use Rattle.session_outside.specs.Talk.{Event}
use Rattle.session.specs.Acts.{Peal, Ring, peals_of, talk_of}
use Rattle.session.specs.Did.{Belled, Linked}
use Rattle.session.proofs.Counts.{belled_none, counted_still}
use Rattle.session.proofs.Saying.{said_on, said_end}
use Rattle.session.proofs.talking.say_stopping.Goals as goal

pub returns-in-None : goal.returns-in-None
returns-in-None g c =
    let w = c.say-end.ensures in
    let s = said_on Stopping w.0 w.1 c.in-None.is in (
      w.0 ++ Ring ∷ [],
      inl (ap (λ l. l ++ Ring ∷ []) s, refl),
      subst (λ (l : List Event). Linked g.L.Link.tells g.L.Link.faults g.L.Link.quiets l c.args.link.now c.say-end.new.link) (ap talk_of s ∙ sym (ap (λ l. talk_of (l ++ Ring ∷ [])) s)) w.2,
      subst (λ (l : List Peal). Belled g.B.Bell.answered g.B.Bell.tolls g.B.Bell.rings l c.args.bell.now c.ring.new.self) (sym (ap (λ l. peals_of (l ++ Ring ∷ [])) s))
          (record { told = c.ring.ensures.told; toll = counted_still _ _ c.ring.ensures.tolls; ring = c.ring.ensures.rings }),
    )

pub returns-in-Some : goal.returns-in-Some
returns-in-Some g c =
    let w = c.say-end.ensures in (
      w.0,
      said_end Stopping w.0 _ w.1 c.in-Some.is,
      w.2,
      subst (λ (l : List Peal). Belled g.B.Bell.answered g.B.Bell.tolls g.B.Bell.rings l c.args.bell.now c.args.bell.now) (sym w.3) (belled_none g.B.Bell.answered g.B.Bell.tolls g.B.Bell.rings c.args.bell.now),
    )
