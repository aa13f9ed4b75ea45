use Rattle.std.proofs.Common.{◌≡◌, ◌∙◌, ◌+◌, ◌++◌, ◌∷◌, [], ap, reverse, sym, subst, arith, length}
use Rattle.std.proofs.lemmas.List.{map-append}
use Rattle.door_worker.specs.declared.end.DoorEnd.TheVariants.{Rung}
use Rattle.daemon_run.specs.Gives.{AreStarted, IsStarted, passes_of}
use Rattle.daemon_run.specs.declared.worker.Worker.{Worker}
use Rattle.daemon_run.proofs.Splitting.{follows_nil, index_push, moved, popped}
use Rattle.daemon_run.proofs.posting.post_all.Goals as goal

pub loop-pass-preserved : goal.loop-pass-preserved
loop-pass-preserved g c =
    let v = c.loop-pass.invariant in
    let p = c.in-Some.pass in
    let r = c.in-Ok.ensures in
    let w : Worker g.row.P.Denot g.row.T-Door.Denot g.row.T-Clock.Denot g.row.T-Bell.Denot g.row.T-Gate.Denot
    = record { pass = p; post = c.in-Ok.post; end = Rung } in
    let i : c.push_reserved.new.self.items ≡ c.loop-pass.workers.items ++ w ∷ [] = c.push_reserved.ensures.items in
    let e = popped c.loop-pass.passes.items c.pop.new.self.items _ p c.pop.ensures.items c.in-Some.is in
    let here : IsStarted g.T.Door.Door.talks g.T.Clock.Clock.gave g.T.Door.Door.faults g.T.Door.Door.quiets g.T.Door.Door.fails g.T.Door.Door.lent g.T.Bell.Bell.tolls g.T.Bell.Bell.rings (g.T.Site.made c.args.site.now + length c.loop-pass.workers.items) w
    = record { number_is = r.number ∙ v.made ∙ ap (λ n. g.T.Site.made c.args.site.now + n) c.loop-pass.workers.ok.0; unused = r.new } in
    record {
      whole = ap (λ ws. passes_of ws ++ reverse c.pop.new.self.items) i
          ∙ ap (λ ps. ps ++ reverse c.pop.new.self.items) (map-append (λ (x : Worker g.row.P.Denot g.row.T-Door.Denot g.row.T-Clock.Denot g.row.T-Bell.Denot g.row.T-Gate.Denot). x.pass) c.loop-pass.workers.items (w ∷ []))
          ∙ moved (passes_of c.loop-pass.workers.items) c.loop-pass.passes.items c.pop.new.self.items p e ∙ v.whole;
      count = let a = c.push_reserved.ensures.len in let b = c.in-Some.ensures.cases in let d = v.count in omega arith;
      posted = let a = c.push_reserved.ensures.len in let b = r.made.1 in let d = v.posted in omega arith;
      made = let a = c.push_reserved.ensures.len in let b = r.made.0 in let d = v.made in omega arith;
      started = subst (λ ws. AreStarted g.T.Door.Door.talks g.T.Clock.Clock.gave g.T.Door.Door.faults g.T.Door.Door.quiets g.T.Door.Door.fails g.T.Door.Door.lent g.T.Bell.Bell.tolls g.T.Bell.Bell.rings (g.T.Site.made c.args.site.now) ws) (sym i)
          (index_push (λ k x. IsStarted g.T.Door.Door.talks g.T.Clock.Clock.gave g.T.Door.Door.faults g.T.Door.Door.quiets g.T.Door.Door.fails g.T.Door.Door.lent g.T.Bell.Bell.tolls g.T.Bell.Bell.rings (g.T.Site.made c.args.site.now + k) x) c.loop-pass.workers.items w v.started here);
      left = c.pop.ensures.capacity ∙ v.left;
      room = c.push_reserved.ensures.capacity ∙ v.room;
      faults = r.steady ∙ v.faults;
      keeps = follows_nil g.T.Site.keeps c.args.site.now c.loop-pass.site c.post.new.self v.keeps r.keeps;
      path = r.same.0 ∙ v.path;
      tolls = r.same.1 ∙ v.tolls;
      rings = r.same.2 ∙ v.rings;
      broken = r.same.3 ∙ v.broken;
    }
