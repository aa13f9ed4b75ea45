use Rattle.std.proofs.Common.{◌≡◌, ◌∙◌, ◌++◌, ◌∷◌, [], ap, reverse, sym, subst, arith}
use Rattle.daemon_run.proofs.Splitting.{none_left, popped}
use Rattle.trial_run.specs.Played.{counters_of, links_of}
use Rattle.trial_run.specs.declared.player.Player.{Player}
use Rattle.trial_run.proofs.TrialOffice.{all_seated, seated_more}
use Rattle.trial_run.proofs.opening.seat.Goals as goal

pub loop-counters-preserved : goal.loop-counters-preserved
loop-counters-preserved c =
    let v = c.loop-counters.invariant in
    let players = c.loop-counters.players.items in
    let p : Player = record { counters = c.in-Some.counters; link = c.in-Some-pop.link } in
    let i : c.push_reserved.new.self.items ≡ players ++ p ∷ [] = c.push_reserved.ensures.items in
    let e = popped c.loop-counters.passes.items c.pop.new.self.items _ c.in-Some.counters c.pop.ensures.items c.in-Some.is in
    let f = popped c.loop-counters.links.items c.pop-in-Some.new.self.items _ c.in-Some-pop.link c.pop-in-Some.ensures.items c.in-Some-pop.is in
    record {
      counters = subst (λ ps. c.pop.new.self.items ++ reverse (counters_of ps) ≡ c.args.passes.now.items) (sym i)
          (seated_more (λ (q : Player). q.counters) c.pop.new.self.items c.loop-counters.passes.items c.args.passes.now.items players p e v.counters);
      linked = subst (λ ps. c.pop-in-Some.new.self.items ++ reverse (links_of ps) ≡ c.args.links.items) (sym i)
          (seated_more (λ (q : Player). q.link) c.pop-in-Some.new.self.items c.loop-counters.links.items c.args.links.items players p f v.linked);
      same = let a = c.in-Some.ensures.cases in let b = c.in-Some-pop.ensures.cases in let d = v.same in omega arith;
      count = let a = c.push_reserved.ensures.len in let b = c.in-Some.ensures.cases in let d = v.count in omega arith;
      room = c.push_reserved.ensures.capacity ∙ v.room;
      left = c.pop.ensures.capacity ∙ v.left;
    }

pub returns-clause-counters : goal.returns-clause-counters
returns-clause-counters c =
    let v = c.loop-counters.invariant in
    let none = none_left c.loop-counters.passes.items (sym c.loop-counters.passes.ok.0 ∙ c.in_default.ensures.cases.0) in
    ap counters_of c.reverse.ensures.items ∙ all_seated (λ (q : Player). q.counters) c.loop-counters.passes.items c.args.passes.now.items c.loop-counters.players.items none v.counters

pub returns-clause-links : goal.returns-clause-links
returns-clause-links c =
    let v = c.loop-counters.invariant in
    let none = none_left c.loop-counters.links.items (sym c.loop-counters.links.ok.0 ∙ sym v.same ∙ c.in_default.ensures.cases.0) in
    ap links_of c.reverse.ensures.items ∙ all_seated (λ (q : Player). q.link) c.loop-counters.links.items c.args.links.items c.loop-counters.players.items none v.linked
