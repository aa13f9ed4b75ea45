use Rattle.std.proofs.Common.{◌≡◌, ℕ, ◌<◌, IfSome, length}
use Rattle.office_view.specs.Chains.{bucket_of, chained_from}
use Rattle.office_view.proofs.Chained.{IsOnWay}
use Rattle.office_view.proofs.Searches.{left_at}
use Rattle.office_view.proofs.chains.Chains.named_in.Given as goal

abbrev pub invariant-loop-at : goal.invariant-loop-at
invariant-loop-at l = record {
  within : IfSome l.at (λ i. i < length l.pools);
  on_way : (from : ℕ) → l.fn.start ≡ chained_from (length l.self.heads.items) (bucket_of (length l.self.heads.items) l.name) l.pools from → IsOnWay (length l.self.heads.items) l.pools l.name from l.at;
}

abbrev pub decreases-loop-at : goal.decreases-loop-at
decreases-loop-at l = left_at (length l.pools) l.at
