use Rattle.std.proofs.Common.{rules}
use Rattle.seat_rows.proofs.Marks.{mark_absent, mark_room}
use Rattle.seat_rows.proofs.beats.Beats.put_in.Goals as goal

pub add_beat-requires-clause-room : goal.add_beat-requires-clause-room
add_beat-requires-clause-room c = mark_room c.self.inside.marks.items c.self.inside.clock c.args.party c.self.invariant (search rules) (search rules)

pub add_beat-requires-clause-absent : goal.add_beat-requires-clause-absent
add_beat-requires-clause-absent c = mark_absent c.self.inside.marks.items c.self.inside.clock c.args.party c.self.invariant (search rules)
