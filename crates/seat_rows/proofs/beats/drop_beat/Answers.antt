use Rattle.seat_rows.proofs.Moments.{ChangesMoment-remove, length-remove}
use Rattle.seat_rows.proofs.beats.drop_beat.Goals as goal

pub returns-clause-moment : goal.returns-clause-moment
returns-clause-moment c = ChangesMoment-remove c.args.party c.args.beats.now c.remove-beat.new.self c.remove-beat.ensures.removed c.remove-beat.ensures.kept

pub returns-clause-len : goal.returns-clause-len
returns-clause-len c = length-remove c.args.party c.args.beats.now c.remove-beat.new.self c.requires.kept c.requires.there c.remove-beat.ensures.removed
