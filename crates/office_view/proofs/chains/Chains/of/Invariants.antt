use Rattle.std.proofs.Common.{◌≡◌, length}
use Rattle.office_view.specs.Chains.{AreChainedFrom}
use Rattle.office_view.proofs.chains.Chains.of.Given as goal

abbrev pub invariant-loop-i : goal.invariant-loop-i
invariant-loop-i l = record {
  many : length l.heads.items ≡ l.buckets;
  chained : AreChainedFrom l.heads.items l.nexts.items l.pools l.i;
}
