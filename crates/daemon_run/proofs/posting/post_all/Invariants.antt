use Rattle.std.proofs.Common.{◌≡◌, ◌+◌, ◌++◌, [], reverse, vec_len, vec_capacity}
use Rattle.session_outside.specs.Talk.{Follows}
use Rattle.daemon_run.specs.Gives.{AreStarted, passes_of}
use Rattle.daemon_run.proofs.posting.post_all.Given as goal

abbrev pub invariant-loop-pass : goal.invariant-loop-pass
invariant-loop-pass g l = record {
  whole : passes_of l.workers.items ++ reverse l.passes.items ≡ l.fn.passes.items;
  count : vec_len l.workers + vec_len l.passes ≡ vec_len l.fn.passes;
  posted : g.T.Site.posted l.site ≡ g.T.Site.posted l.fn.site + vec_len l.workers;
  made : g.T.Site.made l.site ≡ g.T.Site.made l.fn.site + vec_len l.workers;
  started : AreStarted g.T.Door.Door.talks g.T.Clock.Clock.gave g.T.Door.Door.faults g.T.Door.Door.quiets g.T.Door.Door.fails g.T.Door.Door.lent g.T.Bell.Bell.tolls g.T.Bell.Bell.rings (g.T.Site.made l.fn.site) l.workers.items;
  left : vec_capacity l.passes ≡ vec_capacity l.fn.passes;
  room : vec_capacity l.workers ≡ vec_capacity l.fn.workers;
  faults : g.T.Site.faults l.site ≡ g.T.Site.faults l.fn.site;
  keeps : Follows g.T.Site.keeps l.fn.site l.site [];
  path : g.T.Site.path l.site ≡ g.T.Site.path l.fn.site;
  tolls : g.T.Site.tolls l.site ≡ g.T.Site.tolls l.fn.site;
  rings : g.T.Site.rings l.site ≡ g.T.Site.rings l.fn.site;
  broken : g.T.Site.broken l.site ≡ g.T.Site.broken l.fn.site;
}

abbrev pub decreases-loop-pass : goal.decreases-loop-pass
decreases-loop-pass g l = vec_len l.passes
