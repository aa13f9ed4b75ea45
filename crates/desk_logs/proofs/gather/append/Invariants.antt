use Rattle.std.proofs.Common.{◌≡◌, ◌+◌, ◌++◌, take, vec_capacity, vec_len}
use Rattle.desk_logs.proofs.gather.append.Given as goal

abbrev pub invariant-loop-byte : goal.invariant-loop-byte
invariant-loop-byte l = record {
  appended : l.gathered.items ≡ l.fn.gathered.items ++ take l.byte-index l.text;
  count : vec_len l.gathered ≡ vec_len l.fn.gathered + l.byte-index;
  room : vec_capacity l.gathered ≡ vec_capacity l.fn.gathered;
}
