use Rattle.std.proofs.Common.{◌≤◌, length, vec_capacity}
use Rattle.licence_office.proofs.Dealt.{AreOpened}
use Rattle.licence_office.proofs.making.open_all.Given as goal

abbrev pub invariant-loop-pool : goal.invariant-loop-pool
invariant-loop-pool g l = record {
  opened : AreOpened l.sets (length l.initial.parties) l.pools l.pool-index l.desks.items l.ends.items l.parties;
  desks_room : length l.pools ≤ vec_capacity l.desks;
  ends_room : length l.pools ≤ vec_capacity l.ends;
}
