use Rattle.seat_rows.proofs.Moments.{ChangesMoment-add, length-add}
use Rattle.seat_rows.proofs.beats.add_beat.Goals as goal

pub returns-clause-moment : goal.returns-clause-moment
returns-clause-moment c = ChangesMoment-add c.args.party c.args.beat c.args.beats.now c.add.new.self c.requires.kept c.requires.absent c.in-Ok.ensures.added c.in-Ok.ensures.kept

pub returns-clause-len : goal.returns-clause-len
returns-clause-len c = length-add c.args.party c.args.beat c.args.beats.now c.add.new.self c.requires.kept c.requires.absent c.in-Ok.ensures.added
