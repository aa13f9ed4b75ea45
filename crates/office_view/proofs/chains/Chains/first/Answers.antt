use Rattle.std.proofs.Common.{◌∙◌, ap}
use Rattle.office_view.specs.Chains.{bucket_of}
use Rattle.office_view.specs.View.{first_named}
use Rattle.office_view.proofs.Chained.{first_is, head_within}
use Rattle.office_view.proofs.chains.Chains.first.Goals as goal

pub named_in-requires-clause-there : goal.named_in-requires-clause-there
named_in-requires-clause-there c =
    head_within _ _ c.args.pools.now c.args.name.now _ _ c.index.result.now c.requires (c.len.ensures ∙ c.args.self.now.heads.ok.0) (c.bucket_of-bucket.ensures.bucket ∙ ap (bucket_of c.len.result) c.bytes-name.ensures.bytes) c.bucket_of-bucket.ensures.within c.index.ensures

pub returns : goal.returns
returns c =
    first_is _ _ c.args.pools.now c.bytes-name.result.now _ _ c.index.result.now c.named_in.result c.requires (c.len.ensures ∙ c.args.self.now.heads.ok.0) c.bucket_of-bucket.ensures.bucket c.bucket_of-bucket.ensures.within c.index.ensures c.named_in.ensures
    ∙ ap (first_named c.args.pools.now) c.bytes-name.ensures.bytes
