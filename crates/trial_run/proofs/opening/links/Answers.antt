use Rattle.std.proofs.Common.{◌∙◌, sym, subst, arith}
use Rattle.trial_run.specs.Fresh.{AreFresh}
use Rattle.trial_run.proofs.TrialOffice.{fresh_more}
use Rattle.trial_run.proofs.opening.links.Goals as goal

pub loop-number-preserved : goal.loop-number-preserved
loop-number-preserved c =
    let v = c.loop-number.invariant in
    let s = c.in_ok-link.ensures.starts in
    let e = c.in_ok-link.ensures.client in
    let long = sym c.loop-number.links.ok.0 ∙ v.count in
    record {
      count = let a = c.push_reserved.ensures.len in let b = v.count in omega arith;
      fresh = subst (AreFresh c.args.rounds) (sym c.push_reserved.ensures.items)
          (fresh_more c.args.rounds c.loop-number.links.items c.in_ok-link.link v.fresh (record { number_is = e.0 ∙ sym long; rounds_are = e.1; stage = s.0; given = s.1; played = s.2; grants = s.3 }));
      room = let a = c.push_reserved.ensures.capacity in let b = v.room in omega arith;
    }
