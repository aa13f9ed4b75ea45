use Rattle.std.proofs.Common.{◌≡◌, ◌+◌, ◌≤◌, length, vec_len, vec_capacity}
use Rattle.licence_office.proofs.Ended.{Closes}
use Rattle.licence_office.proofs.closing.close_all.Given as goal
use Rattle.licence_office.specs.Rooms.{AreEnds}

abbrev pub invariant-loop-end : goal.invariant-loop-end
invariant-loop-end g l = record {
  closes : Closes l.initial.desks.items l.initial.parties l.desks.items l.parties l.tallies.items l.logs.items;
  many : length l.parties ≡ length l.initial.parties;
  ends_are : AreEnds (length l.initial.parties) l.desks.items l.ends.items;
  tally_count : vec_len l.tallies + vec_len l.desks ≡ vec_len l.initial.desks;
  log_count : vec_len l.logs + vec_len l.desks ≡ vec_len l.initial.desks;
  tally_room : vec_len l.initial.desks ≤ vec_capacity l.tallies;
  log_room : vec_len l.initial.desks ≤ vec_capacity l.logs;
}

abbrev pub decreases-loop-end : goal.decreases-loop-end
decreases-loop-end g l = vec_len l.ends
