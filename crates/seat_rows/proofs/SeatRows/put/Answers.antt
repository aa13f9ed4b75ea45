use Rattle.std.proofs.Common.{◌≤◌, ◌+◌, rules}
use Rattle.options_machine.specs.declared.rows.Holder.{Holder}
use Rattle.seat_rows.proofs.Kept.{put_few, put_kept, put_seen, put_within}
use Rattle.seat_rows.proofs.SeatRows.put.Goals as goal

pub overflow_add-self : goal.overflow_add-self
overflow_add-self c =
    let h : Holder = record { party = c.args.party; client = c.args.client.now; charge = c.args.charge; beat = c.args.beat; told = c.args.told } in
    let few : c.self.inside.held + 1 ≤ 256 = put_few c.args.self.now c.self.inside.rows.items c.self.inside.held c.self.inside.beats h c.self.view_is c.self.invariant c.requires.party c.requires.none in
    search rules

pub note-requires : goal.note-requires
note-requires c = put_within c.args.self.now c.self.inside.rows.items c.self.inside.held c.self.inside.beats c.args.party c.self.view_is c.self.invariant c.requires.party

pub invariant_of-self : goal.invariant_of-self
invariant_of-self c =
    let h : Holder = record { party = c.args.party; client = c.args.client.now; charge = c.args.charge; beat = c.args.beat; told = c.args.told } in
    rw c.put.ensures (put_kept c.args.self.now c.self.inside.rows.items c.self.inside.held c.self.inside.beats c.note.new.self h c.self.view_is c.self.invariant c.requires.party c.requires.none c.note.ensures)

pub returns : goal.returns
returns c =
    let h : Holder = record { party = c.args.party; client = c.args.client.now; charge = c.args.charge; beat = c.args.beat; told = c.args.told } in
    rw c.put.ensures (put_seen c.args.self.now c.self.inside.rows.items c.self.inside.held c.self.inside.beats h c.self.view_is c.self.invariant c.requires.party c.requires.none)
