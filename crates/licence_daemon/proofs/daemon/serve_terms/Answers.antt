use Rattle.std.proofs.Common.{arith}
use Rattle.licence_daemon.specs.Terms.{terms_seen}
use Rattle.licence_daemon.proofs.Ending.{served_says}
use Rattle.licence_daemon.proofs.Ranging.{has_sets, opened}
use Rattle.licence_daemon.proofs.daemon.serve_terms.Goals as goal

pub serve-ended-requires-clause-sets : goal.serve-ended-requires-clause-sets
serve-ended-requires-clause-sets g c κs within =
    has_sets (terms_seen c.args.terms.now) c.args.names.now.sessions c.in-Ok-make_many.made.0.view c.in-Ok-make_many.made.1.items
    (opened (terms_seen c.args.terms.now) c.args.names.now.sessions c.in-Ok-make_many.made.0.view c.in-Ok-make_many.made.1 c.as_slice-sets.result.now c.as_slice-sets.ensures.value
    c.in-Ok-make_many.ensures.view.0 c.in-Ok-make_many.ensures.view.1 c.in-Ok-make_many.ensures.desks c.tell_pools.ensures.desks c.in-Ok-make_many.ensures.passes.0 c.in-Ok-make_many.ensures.passes.1)

pub returns-clause-says : goal.returns-clause-says
returns-clause-says g c =
    served_says (terms_seen c.args.terms.now) c.args.names.now.sessions c.in-Ok-make_many.made.0.view c.in-Ok-make_many.made.1.items _ _ _ _ c.serve-ended.result _ _ _ c.write_end.result
    (omega (arith, c.requires.sessions.0))
    (opened (terms_seen c.args.terms.now) c.args.names.now.sessions c.in-Ok-make_many.made.0.view c.in-Ok-make_many.made.1 c.as_slice-sets.result.now c.as_slice-sets.ensures.value
    c.in-Ok-make_many.ensures.view.0 c.in-Ok-make_many.ensures.view.1 c.in-Ok-make_many.ensures.desks c.tell_pools.ensures.desks c.in-Ok-make_many.ensures.passes.0 c.in-Ok-make_many.ensures.passes.1)
    c.serve-ended.ensures.cause c.serve-ended.ensures.path c.serve-ended.ensures.unserved c.serve-ended.ensures.ran c.write_end.ensures
