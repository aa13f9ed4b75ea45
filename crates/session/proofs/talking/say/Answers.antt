use Rattle.std.proofs.Common.{◌∷◌, [], sym, refl, subst, inl, inr, take, drop, take-append-drop}
use Rattle.line_protocol.specs.Replies.{line_of}
use Rattle.session_outside.specs.Talk.{Follows, Wrote, WriteFault}
use Rattle.session.specs.Acts.{Tell}
use Rattle.session.proofs.Counts.{counted_still}
use Rattle.session.proofs.talking.say.Goals as goal

pub returns-in-Ok : goal.returns-in-Ok
returns-in-Ok g c = (
  Tell (Wrote (line_of c.args.told.now)) ∷ [],
  inl (refl, refl),
  record {
    told = subst (λ bs. Follows g.L.Link.tells c.args.link.now c.write.new.self (Wrote bs ∷ [])) c.write_reply-len.ensures.written c.in-Ok.ensures.told.2;
    fault = c.in-Ok.ensures.faults;
    quiet = counted_still _ _ c.in-Ok.ensures.quiets;
  },
  refl,
)

pub returns-in-Err : goal.returns-in-Err
returns-in-Err g c =
    let k = c.in-Err.ensures.told.0 in
    let line = line_of c.args.told.now in (
      Tell (WriteFault (take k line)) ∷ [],
      inr (take k line, drop k line, sym (take-append-drop k line), refl, refl),
      record {
        told = subst (λ bs. Follows g.L.Link.tells c.args.link.now c.write.new.self (WriteFault (take k bs) ∷ [])) c.write_reply-len.ensures.written c.in-Err.ensures.told.2;
        fault = c.in-Err.ensures.faults;
        quiet = counted_still _ _ c.in-Err.ensures.quiets;
      },
      refl,
    )
