use Rattle.std.proofs.Common.{◌≡◌, [], ◌∷◌, IfOk, get_or, refl, ap, ◌∙◌, subst}
use Rattle.options_machine.specs.Rules.{Rules}
use Rattle.options_machine.specs.State.{opening}
use Rattle.policy.specs.Pools.{rules_of}
use Rattle.seat_book.specs.Books.{BookWithGrants}
use Rattle.trial_replay.specs.Terms.{bench_options, bench_pool, bench_sets}
use Rattle.trial_replay.proofs.terms.trial_book.Goals as goal

pub returns : goal.returns
unfolding bench_sets
returns c =
    let pool : c.index-pools-0.result ≡ bench_pool = c.index-pools-0.is ∙ ap (λ ps. get_or ps 0 c.index-pools-0.result) (c.pools.ensures.pools ∙ c.in_ok-licence.ensures) in
    let made : c.in_ok-rules.rules ≡ rules_of bench_pool bench_options = c.in_ok-rules.ensures.rules ∙ rw (pool, c.in_ok-options.ensures) refl in
    subst (λ (rules : Rules). IfOk c.make.result (λ (book : BookWithGrants). book ≡ record { sets = rules ∷ []; parties = 16; state = opening; grants = 0 })) made c.make.ensures.book
