use Rattle.std.proofs.Common.{◌≡◌, ◌≤◌, All, vec_len, vec_capacity}
use Rattle.licence_office.proofs.dealing.rooms.Given as goal
use Rattle.licence_office.specs.Dealing.{IsRoomFor}

abbrev pub invariant-loop-party : goal.invariant-loop-party
invariant-loop-party l = record {
  count : vec_len l.passes ≡ l._party;
  room : l.parties ≤ vec_capacity l.passes;
  rooms : All (IsRoomFor l.each) l.passes.items;
}
