use Rattle.std.proofs.Common.{ap, sym, length-set, ◌∙◌, arith}
use Rattle.feature_lines.specs.declared.pool.Pool.{Pool}
use Rattle.office_view.specs.Chains.{bucket_of}
use Rattle.office_view.proofs.Chaining.{chained_more}
use Rattle.office_view.proofs.chains.Chains.of.Goals as goal

pub loop-i-preserved : goal.loop-i-preserved
loop-i-preserved c = record {
  many = length-set _ _ _ ∙ c.loop-i.invariant.many;
  chained = chained_more c.loop-i.i c.bucket_of-bucket.result _ c.loop-i.heads.items c.loop-i.nexts.items c.args.pools.now c.index-pools-i.result c.index.result.now c.loop-i.invariant.chained (omega (arith, c.loop-i-test.true)) (omega (arith, c.loop-i-test.true, c.loop-i.auto.i)) c.index-pools-i.is
      (c.bucket_of-bucket.ensures.bucket ∙ ap (bucket_of c.saturating_add-buckets.result) c.bytes.ensures.bytes ∙ ap (λ (p : Pool). bucket_of c.saturating_add-buckets.result p.name) (sym c.index-pools-i.is) ∙ ap (λ n. bucket_of n c.index-pools-i.result.name) (sym c.loop-i.invariant.many))
      (omega (arith, c.bucket_of-bucket.ensures.within, c.loop-i.invariant.many)) c.index.ensures;
}
