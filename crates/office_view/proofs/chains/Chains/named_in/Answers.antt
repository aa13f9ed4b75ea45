use Rattle.std.proofs.Common.{◌<◌, length, Option, ℕ, ap, sym, subst, ◌∙◌}
use Rattle.feature_lines.specs.declared.pool.Pool.{Pool}
use Rattle.lic_types.specs.Groups.{same_name}
use Rattle.office_view.proofs.Chained.{IsOnWay, fewer_next, way_begins, way_to_next, within_next}
use Rattle.office_view.proofs.chains.Chains.named_in.Goals as goal

pub loop-at-init : goal.loop-at-init
loop-at-init c = record { within = c.requires.there; on_way = λ from e. way_begins _ c.args.pools.now c.args.name.now from c.args.start e }

pub loop-at-smaller : goal.loop-at-smaller
loop-at-smaller c =
    rw c.in-Some.is (fewer_next _ _ c.args.pools.now c.in-Some.i c.index-pools-i.result c.index-at.result.now c.requires.chained (rw c.in-Some.is at c.loop-at.invariant.within) c.index-at.ensures)

pub loop-at-preserved : goal.loop-at-preserved
loop-at-preserved c =
    let within : c.in-Some.i < length c.args.pools.now = rw c.in-Some.is at c.loop-at.invariant.within in
    record {
      within = within_next _ _ c.args.pools.now c.in-Some.i c.index-pools-i.result c.index-at.result.now c.requires.chained within c.index-at.ensures;
      on_way = λ from e. way_to_next _ _ c.args.pools.now c.args.name.now from c.in-Some.i c.index-pools-i.result c.index-at.result.now c.requires.chained within c.index-pools-i.is
          (ap (λ (p : Pool). same_name p.name c.args.name.now) c.index-pools-i.is ∙ sym (c.same_bytes.ensures ∙ ap (λ n. same_name n c.args.name.now) c.bytes.ensures.bytes) ∙ c.if-same_bytes.false) c.index-at.ensures
          (subst (λ (o : Option ℕ). IsOnWay (length c.args.self.now.heads.items) c.args.pools.now c.args.name.now from o) c.in-Some.is (c.loop-at.invariant.on_way from e));
    }
