use Rattle.std.proofs.Common.{◌≡◌, ◌<◌, List, None, IfSome, length, get_or}
use Rattle.feature_lines.specs.declared.pool.Pool.{Pool}
use Rattle.office_view.proofs.Searches.{left_at, search_at}
use Rattle.session.specs.Acts.{Act}
use Rattle.session.specs.Did.{Agrees}
use Rattle.session.specs.Table.{Setup, is_desk_meant, kept_pool}
use Rattle.session.specs.declared.asked.Whom.TheVariants.{Keeping}
use Rattle.session.proofs.Firsts.{kept_from}
use Rattle.session.proofs.finding.kept_pool.Given as goal

abbrev pub invariant-loop-next : goal.invariant-loop-next
invariant-loop-next g l = record {
  within : IfSome l.next (λ i. i < length l.office.pools);
  named : IfSome l.next (λ i. (p : Pool) → (get_or l.office.pools i p).name ≡ l.name);
  same : (o : Setup) (before : List Act) → Agrees g.C.Counter.account l.office o before l.pass →
      kept_pool o before l.name ≡ search_at None (kept_from (is_desk_meant Keeping o before) l.office.pools l.name) l.next;
}

abbrev pub decreases-loop-next : goal.decreases-loop-next
decreases-loop-next g l = left_at (length l.office.pools) l.next
