use Rattle.std.proofs.Common.{◌∙◌, List, ap}
use Rattle.lic_types.specs.declared.limits.TheConstants.{PARTY_LIMIT}
use Rattle.options_machine.specs.Rules.{Rules}
use Rattle.options_machine.specs.State.{opening}
use Rattle.seat_book.specs.Books.{BookWithGrants}
use Rattle.scripts.specs.PoolRuns.{run_of}
use Rattle.scripts.proofs.Sets.{are_sets_of}
use Rattle.scripts.proofs.making.make_run.Goals as goal

pub make_many-requires-clause-sets : goal.make_many-requires-clause-sets
make_many-requires-clause-sets c =
    are_sets_of c.in_ok-sets.sets.items c.args.options.now c.args.pool.now c.in_ok-sets.ensures.rules c.requires.some c.requires.few c.in_ok-sets.ensures.sound

pub returns : goal.returns
returns c =
    ap (λ (b : BookWithGrants). record (run_of c.args.options.now c.args.pool.now) { book = b })
    (c.in_ok-book.ensures ∙ ap (λ (sets : List Rules). record { sets = sets; parties = PARTY_LIMIT; state = opening; grants = 0 }) c.in_ok-sets.ensures.rules)
