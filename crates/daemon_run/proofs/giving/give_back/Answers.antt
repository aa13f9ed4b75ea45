use Rattle.std.proofs.Common.{◌≡◌, ◌∙◌, ℕ, ◌++◌, ◌∷◌, [], ap, refl, sym, subst, arith, length, nat_le, nat_lt, append_assoc}
use Rattle.std.proofs.lemmas.List.{append-nil, length-append}
use Rattle.daemon_outside.specs.Doors.{most_fails}
use Rattle.std.specs.Vec.Iter.{into_iter_items}
use Rattle.session_outside.specs.Talk.{Counted}
use Rattle.session.proofs.Counts.{counted_none}
use Rattle.daemon_outside.specs.Sites.{was_heard}
use Rattle.daemon_run.specs.Gives.{AreKept, any_broken, any_heard, any_rang, passes_of}
use Rattle.daemon_run.specs.declared.worker.Worker.{Worker}
use Rattle.daemon_run.proofs.Splitting.{all_at, counted_last, done_when, keeps_none, kept_split, pass_behind, yielded_more}
use Rattle.daemon_run.proofs.giving.give_back.Goals as goal

pub loop-worker-init : goal.loop-worker-init
loop-worker-init g c =
    let began = c.into_iter-worker-iterator.ensures.into_iter_gives in
    record {
      all = began.0;
      sized = ap length began.0 ∙ sym c.args.workers.ok.0 ∙ sym began.1;
      posted = omega arith;
      passes = sym (append-nil c.args.passes.now.items);
      room = refl;
      keeps = λ ks new k a. keeps_none g.row.P.Denot g.row.T-Door.Denot g.row.T-Clock.Denot g.row.T-Bell.Denot g.row.T-Gate.Denot g.T.Door.Door.talks g.T.Clock.Clock.gave (g.T.Site.keeps c.args.site.now) ks new k a;
      tolls = counted_none (g.T.Site.tolls c.args.site.now);
      rings = counted_none (g.T.Site.rings c.args.site.now);
      broken = counted_none (g.T.Site.broken c.args.site.now);
      path = refl;
      made = refl;
      faults = refl;
    }

pub retire-requires-clause-lent : goal.retire-requires-clause-lent
retire-requires-clause-lent g c =
    let s = c.in-Some.ensures.steps in
    all_at (λ (w : Worker g.row.P.Denot g.row.T-Door.Denot g.row.T-Clock.Denot g.row.T-Bell.Denot g.row.T-Gate.Denot). g.T.Door.Door.lent w.post.door ≡ 0)
    c.loop-worker.yielded c.in-Some.worker (into_iter_items c.next.new.self) c.args.workers.items (ap (λ r. c.loop-worker.yielded ++ r) (sym s.0) ∙ c.loop-worker.invariant.all) c.requires.lent

pub loop-worker-preserved : goal.loop-worker-preserved
loop-worker-preserved g c =
    let s = c.in-Some.ensures.steps in
    let v = c.loop-worker.invariant in
    let ys = c.loop-worker.yielded in
    let w = c.in-Some.worker in
    let r = c.retire.ensures in
    record {
      all = yielded_more ys (into_iter_items c.loop-worker.worker-iterator) (into_iter_items c.next.new.self) c.args.workers.items w s.0 v.all;
      sized = let a = ap length s.0 in let b = s.1 in let d = v.sized in omega arith;
      posted = let n = length-append ys (w ∷ []) in let a = r.posted in let b = v.posted in omega arith;
      passes = pass_behind c.args.passes.now.items c.loop-worker.passes.items c.push_reserved.new.self.items ys w c.push_reserved.ensures.items v.passes;
      room = c.push_reserved.ensures.capacity ∙ v.room;
      keeps = λ ks new k a.
          let t = kept_split g.T.Door.Door.talks g.T.Clock.Clock.gave ys w new a in
          subst (λ l. g.T.Site.keeps c.retire.new.self (ks ++ l)) (sym t.2)
          (subst (λ l. g.T.Site.keeps c.retire.new.self l) (append_assoc ks t.0 (t.1 ∷ []))
          (subst (λ (n : ℕ). g.T.Site.keeps c.retire.new.self ((ks ++ t.0) ++ record { number = n; talks = t.1.talks; moments = t.1.moments } ∷ [])) (sym t.4.number_is)
          (r.keeps (ks ++ t.0) t.1.talks t.1.moments (v.keeps ks t.0 k t.3) t.4.talks_are t.4.moments_are)));
      tolls = counted_last (λ (x : Worker g.row.P.Denot g.row.T-Door.Denot g.row.T-Clock.Denot g.row.T-Bell.Denot g.row.T-Gate.Denot). was_heard (g.T.Bell.Bell.tolls x.post.bell) (g.T.Door.Door.quiets x.post.door) (g.T.Door.Door.faults x.post.door)) ys w (g.T.Site.tolls c.args.site.now) (g.T.Site.tolls c.loop-worker.site) (g.T.Site.tolls c.retire.new.self) v.tolls r.tolls;
      rings = counted_last (λ (x : Worker g.row.P.Denot g.row.T-Door.Denot g.row.T-Clock.Denot g.row.T-Bell.Denot g.row.T-Gate.Denot). nat_lt 0 (g.T.Bell.Bell.rings x.post.bell)) ys w (g.T.Site.rings c.args.site.now) (g.T.Site.rings c.loop-worker.site) (g.T.Site.rings c.retire.new.self) v.rings r.rings;
      broken = counted_last (λ (x : Worker g.row.P.Denot g.row.T-Door.Denot g.row.T-Clock.Denot g.row.T-Bell.Denot g.row.T-Gate.Denot). nat_le most_fails (g.T.Door.Door.fails x.post.door)) ys w (g.T.Site.broken c.args.site.now) (g.T.Site.broken c.loop-worker.site) (g.T.Site.broken c.retire.new.self) v.broken r.broken;
      path = r.same.0 ∙ v.path;
      made = r.same.1 ∙ v.made;
      faults = r.same.2 ∙ v.faults;
    }

pub returns-clause-passes : goal.returns-clause-passes
returns-clause-passes g c =
    let v = c.loop-worker.invariant in
    let e : c.args.workers.items ≡ c.loop-worker.yielded = done_when c.loop-worker.yielded (into_iter_items c.loop-worker.worker-iterator) c.args.workers.items v.all (v.sized ∙ c.in-None.ensures.steps.0) in
    v.passes ∙ ap (λ l. c.args.passes.now.items ++ passes_of l) (sym e)

pub returns-clause-keeps : goal.returns-clause-keeps
returns-clause-keeps g c = λ ks new k a.
    let v = c.loop-worker.invariant in
    let e : c.args.workers.items ≡ c.loop-worker.yielded = done_when c.loop-worker.yielded (into_iter_items c.loop-worker.worker-iterator) c.args.workers.items v.all (v.sized ∙ c.in-None.ensures.steps.0) in
    v.keeps ks new k (subst (λ l. AreKept g.T.Door.Door.talks g.T.Clock.Clock.gave l new) e a)

pub returns-clause-tolls : goal.returns-clause-tolls
returns-clause-tolls g c =
    let v = c.loop-worker.invariant in
    let e : c.args.workers.items ≡ c.loop-worker.yielded = done_when c.loop-worker.yielded (into_iter_items c.loop-worker.worker-iterator) c.args.workers.items v.all (v.sized ∙ c.in-None.ensures.steps.0) in
    subst (λ l. Counted (any_heard g.T.Bell.Bell.tolls g.T.Door.Door.quiets g.T.Door.Door.faults l) (g.T.Site.tolls c.args.site.now) (g.T.Site.tolls c.loop-worker.site)) (sym e) v.tolls

pub returns-clause-rings : goal.returns-clause-rings
returns-clause-rings g c =
    let v = c.loop-worker.invariant in
    let e : c.args.workers.items ≡ c.loop-worker.yielded = done_when c.loop-worker.yielded (into_iter_items c.loop-worker.worker-iterator) c.args.workers.items v.all (v.sized ∙ c.in-None.ensures.steps.0) in
    subst (λ l. Counted (any_rang g.T.Bell.Bell.rings l) (g.T.Site.rings c.args.site.now) (g.T.Site.rings c.loop-worker.site)) (sym e) v.rings

pub returns-clause-broken : goal.returns-clause-broken
returns-clause-broken g c =
    let v = c.loop-worker.invariant in
    let e : c.args.workers.items ≡ c.loop-worker.yielded = done_when c.loop-worker.yielded (into_iter_items c.loop-worker.worker-iterator) c.args.workers.items v.all (v.sized ∙ c.in-None.ensures.steps.0) in
    subst (λ l. Counted (any_broken g.T.Door.Door.fails l) (g.T.Site.broken c.args.site.now) (g.T.Site.broken c.loop-worker.site)) (sym e) v.broken
