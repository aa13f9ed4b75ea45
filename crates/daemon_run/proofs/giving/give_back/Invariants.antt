use Rattle.std.proofs.Common.{◌≡◌, ◌+◌, ◌++◌, List, length, vec_capacity}
use Rattle.std.specs.Vec.Iter.{into_iter_items, into_iter_len}
use Rattle.session_outside.specs.Talk.{Counted}
use Rattle.daemon_outside.specs.Sites.{Kept}
use Rattle.daemon_run.specs.Gives.{AreKept, any_broken, any_heard, any_rang, passes_of}
use Rattle.daemon_run.proofs.giving.give_back.Given as goal

abbrev pub invariant-loop-worker : goal.invariant-loop-worker
invariant-loop-worker g l = record {
  all : l.yielded ++ into_iter_items l.worker-iterator ≡ l.fn.workers.items;
  sized : length (into_iter_items l.worker-iterator) ≡ into_iter_len l.worker-iterator;
  posted : g.T.Site.posted l.site + length l.yielded ≡ g.T.Site.posted l.fn.site;
  passes : l.passes.items ≡ l.fn.passes.items ++ passes_of l.yielded;
  room : vec_capacity l.passes ≡ vec_capacity l.fn.passes;
  keeps : (ks new : List Kept) → g.T.Site.keeps l.fn.site ks → AreKept g.T.Door.Door.talks g.T.Clock.Clock.gave l.yielded new → g.T.Site.keeps l.site (ks ++ new);
  tolls : Counted (any_heard g.T.Bell.Bell.tolls g.T.Door.Door.quiets g.T.Door.Door.faults l.yielded) (g.T.Site.tolls l.fn.site) (g.T.Site.tolls l.site);
  rings : Counted (any_rang g.T.Bell.Bell.rings l.yielded) (g.T.Site.rings l.fn.site) (g.T.Site.rings l.site);
  broken : Counted (any_broken g.T.Door.Door.fails l.yielded) (g.T.Site.broken l.fn.site) (g.T.Site.broken l.site);
  path : g.T.Site.path l.site ≡ g.T.Site.path l.fn.site;
  made : g.T.Site.made l.site ≡ g.T.Site.made l.fn.site;
  faults : g.T.Site.faults l.site ≡ g.T.Site.faults l.fn.site;
}
