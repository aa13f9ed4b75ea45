use Rattle.std.proofs.Common.{sym, ap, ◌∙◌, ◌≡◌, List, None, Some, arith}
use Rattle.std.specs.List.{position_from}
use Rattle.std.proofs.lemmas.List.{get_or_read}
use Rattle.feature_lines.specs.Licence.{line_key, pool_key, same_key}
use Rattle.feature_lines.specs.declared.pool.Pool.{Pool}
use Rattle.feature_lines.proofs.Places.{more_of, new_pool, no_room, too_many}
use Rattle.feature_lines.proofs.draft.add.Goals as goal

pub returns-then-len-ge-POOL_LIMIT-clause-err : goal.returns-then-len-ge-POOL_LIMIT-clause-err
returns-then-len-ge-POOL_LIMIT-clause-err c =
    let place : position_from (λ p. same_key (line_key c.args.feature.now) (pool_key p)) 0 c.args.pools.now.items ≡ None = ap (λ (ps : List Pool). position_from (λ p. same_key (line_key c.args.feature.now) (pool_key p)) 0 ps) (sym c.as_slice.ensures.value) ∙ (sym c.place_of.ensures.place ∙ c.in_default.is) in
    no_room c.args.feature.now c.args.pools.now.items place (omega arith)

pub returns-in_default-clause-ok : goal.returns-in_default-clause-ok
returns-in_default-clause-ok c =
    let place : position_from (λ p. same_key (line_key c.args.feature.now) (pool_key p)) 0 c.args.pools.now.items ≡ None = ap (λ (ps : List Pool). position_from (λ p. same_key (line_key c.args.feature.now) (pool_key p)) 0 ps) (sym c.as_slice.ensures.value) ∙ (sym c.place_of.ensures.place ∙ c.in_default.is) in
    rw (c.in_ok-push.ensures.items, c.first_pool.ensures) (new_pool c.args.feature.now c.args.pools.now.items place (omega arith))

pub returns-then-index-more-clause-err : goal.returns-then-index-more-clause-err
returns-then-index-more-clause-err c =
    let place : position_from (λ p. same_key (line_key c.args.feature.now) (pool_key p)) 0 c.args.pools.now.items ≡ Some c.in-Some.at = ap (λ (ps : List Pool). position_from (λ p. same_key (line_key c.args.feature.now) (pool_key p)) 0 ps) (sym c.as_slice.ensures.value) ∙ (sym c.place_of.ensures.place ∙ c.in-Some.is) in
    too_many c.args.feature.now c.args.pools.now.items c.in-Some.at c.index.result.now place c.index.ensures (omega arith)

pub returns-clause-ok : goal.returns-clause-ok
returns-clause-ok c =
    let place : position_from (λ p. same_key (line_key c.args.feature.now) (pool_key p)) 0 c.args.pools.now.items ≡ Some c.in-Some.at = ap (λ (ps : List Pool). position_from (λ p. same_key (line_key c.args.feature.now) (pool_key p)) 0 ps) (sym c.as_slice.ensures.value) ∙ (sym c.place_of.ensures.place ∙ c.in-Some.is) in
    let within = c.in-Some.ensures.within in
    let same : c.index.result.now ≡ c.index_mut.result.now = get_or_read c.args.pools.now.items _ _ (rw (← c.as_slice.ensures.value) within) c.index.ensures c.index_mut.result.now ∙ sym c.index_mut.ensures.value in
    let counts : c.index.result.now.count ≡ c.index_mut.result.now.count = ap (λ (p : Pool). p.count) same in
    rw c.from-more.ensures (more_of c.args.feature.now c.args.pools.now.items c.in-Some.at c.index_mut.result.now place c.index_mut.ensures.value (omega arith))
